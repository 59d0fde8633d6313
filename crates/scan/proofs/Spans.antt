-- Rows outside the span of a test never pass it: by recursion on the bound. With it a search or a count over the span is one over all rows. And what one row
-- more does to the spans of all tags.
use Prim.Native.Nat.{ℕ, zero, suc, ◌+◌, ◌-◌, ◌*◌, ◌≤◌, ◌<◌}
use mathlib.Core.Path.{◌≡◌, refl, ap, ap₂, sym, subst, ◌∙◌}
use mathlib.Core.Bool.{Bool, true, false, ◌&&◌, ◌||◌, true≢false}
use mathlib.Core.List.{List}
use mathlib.Core.Logic.{⊎_elim}
use native.Mathlib.Omega.{arith}
use native.Mathlib.Nat.{eq-or-lt_of_le}
use native.Mathlib.Numerals.{add-one}
use native.Mathlib.Decide.{ℕ_discrete}
use borrow.Author.Tests.{eq-eqb, ne_eqb, eqb-true, eqb-false, ltb-true, ltb-false}
use lib.Dec.{eqb, ltb}
use lib.ListN.{length, get_or, set, length-set}
use lib.Seq.{get_or-set_same, get_or-set_other}
use Rattle.lists.specs.Choice.{pick}
use Rattle.lists.proofs.Choice.{chosen, not_chosen}
use Rattle.table.specs.Names.{becomes_equal_tag, becomes_such_tag, variant_tag}
use Rattle.table.specs.Rows.{Rows, tagged, is_action, Rising}
use Rattle.scan.specs.Span.{Spans}
use Rattle.scan.specs.Spans.{span_to, span_from, of_tag, tag_span, span_words, SpannedTo, noted}
use Rattle.scan.proofs.Within.{past_at_most, past_above, spans_stricter}

module _ (P : ℕ → Bool) where
  pub to_at_most : (n : ℕ) → span_to P n ≤ n
  to_at_most = past_at_most P

  -- with a row that passes, and with one that does not
  pub to_passes : (n : ℕ) → P n ≡ true → span_to P (n + 1) ≡ n + 1
  unfolding span_to
  to_passes n e = rw add-one (chosen (P n) (suc n) (span_to P n) e)

  pub to_fails : (n : ℕ) → P n ≡ false → span_to P (n + 1) ≡ span_to P n
  unfolding span_to
  to_fails n e = rw add-one (not_chosen (P n) (suc n) (span_to P n) e)

  pub from_passes : (n : ℕ) → P n ≡ true → span_from P (n + 1) ≡ pick (eqb (span_to P n) 0) n (span_from P n)
  unfolding span_from
  from_passes n e = rw (add-one, e)

  pub from_fails : (n : ℕ) → P n ≡ false → span_from P (n + 1) ≡ span_from P n
  unfolding span_from
  from_fails n e = rw (add-one, e)

  from_at_most : (n : ℕ) → span_from P n ≤ n
  unfolding span_from
  from_at_most zero = omega arith
  from_at_most (suc n) = go (P n && eqb (span_to P n) 0) (from_at_most n)
    where
      go : (b : Bool) → span_from P n ≤ n → pick b n (span_from P n) ≤ suc n
      go true h = omega arith
      go false h = omega arith

  pub from_to : (n : ℕ) → span_from P n ≤ span_to P n
  unfolding span_from span_to
  from_to zero = omega arith
  from_to (suc n) = go (P n) (from_to n)
    where
      start : (b : Bool) → pick b n (span_from P n) ≤ suc n
      start true = omega arith
      start false = omega (arith, from_at_most n)

      go : (b : Bool) → span_from P n ≤ span_to P n → pick (b && eqb (span_to P n) 0) n (span_from P n) ≤ pick b (suc n) (span_to P n)
      go true h = start (eqb (span_to P n) 0)
      go false h = h

  -- whatever passes stands before the span's end, and not before its start
  before_to : (n i : ℕ) → P i ≡ true → i < n → i < span_to P n
  before_to n i e l = go (ltb i (span_to P n)) refl
    where
      go : (b : Bool) → ltb i (span_to P n) ≡ b → i < span_to P n
      go true h = ltb-true i _ h
      go false h = absurd (true≢false (sym e ∙ past_above P n i (ltb-false i _ h) l))

  not_before_from : (n i : ℕ) → P i ≡ true → i < n → span_from P n ≤ i
  unfolding span_from
  not_before_from zero i e l = absurd (omega arith)
  not_before_from (suc n) i e l = go (P n) (eqb (span_to P n) 0) refl (not_before_from n i e)
    where
      earlier : (i < n → span_from P n ≤ i) → span_from P n ≤ i
      earlier ih = ⊎_elim (λ (q : i ≡ n). omega (arith, from_at_most n)) ih (eq-or-lt_of_le (omega arith))

      go : (b z : Bool) → eqb (span_to P n) 0 ≡ z → (i < n → span_from P n ≤ i) → pick (b && z) n (span_from P n) ≤ i
      go true true q ih =
          let none : span_to P n ≡ 0 = eqb-true _ 0 q in
          ⊎_elim (λ (p : i ≡ n). omega arith) (λ (p : i < n). absurd (omega (arith, before_to n i e p))) (eq-or-lt_of_le (omega arith))
      go true false q ih = earlier ih
      go false z q ih = earlier ih

  -- rows outside the span never pass
  pub in_span : (n i : ℕ) → P i ≡ true → i < n → (span_from P n ≤ i) × (i < span_to P n)
  in_span n i e l = (not_before_from n i e l, before_to n i e l)

  -- the span of a test that something passes ends behind a number that passes, and starts at one
  to_last : (n : ℕ) → 0 < span_to P n → (span_to P n - 1 < n) × (P (span_to P n - 1) ≡ true)
  unfolding span_to
  to_last zero h = absurd (omega arith)
  to_last (suc n) h = go (P n) refl h (to_last n)
    where
      go : (b : Bool) → P n ≡ b → 0 < pick b (suc n) (span_to P n) → (0 < span_to P n → (span_to P n - 1 < n) × (P (span_to P n - 1) ≡ true))
          → (pick b (suc n) (span_to P n) - 1 < suc n) × (P (pick b (suc n) (span_to P n) - 1) ≡ true)
      go true e h ih = let last : suc n - 1 ≡ n = omega arith in (omega arith, ap P last ∙ e)
      go false e h ih = let l = ih h in (omega (arith, l.0), l.1)

  pub from_first : (n i : ℕ) → P i ≡ true → i < n → P (span_from P n) ≡ true
  unfolding span_from
  from_first zero i e l = absurd (omega arith)
  from_first (suc n) i e l = go (P n) (eqb (span_to P n) 0) refl refl (from_first n)
    where
      go : (b z : Bool) → P n ≡ b → eqb (span_to P n) 0 ≡ z → ((j : ℕ) → P j ≡ true → j < n → P (span_from P n) ≡ true) → P (pick (b && z) n (span_from P n)) ≡ true
      go true true p q ih = p
      go true false p q ih = let last = to_last n (omega (arith, eqb-false (span_to P n) 0 q)) in ih (span_to P n - 1) last.1 last.0
      go false z p q ih = ⊎_elim (λ (k : i ≡ n). absurd (true≢false (sym (ap P (sym k) ∙ e) ∙ p))) (λ (k : i < n). ih i e k) (eq-or-lt_of_le (omega arith))

  pub span_spans : (n : ℕ) → Spans P n (record { from = span_from P n; to = span_to P n })
  span_spans n = record {
    within = to_at_most n;
    below = λ j h. fails j (P j) refl h;
    above = past_above P n;
  }
    where
      fails : (j : ℕ) (b : Bool) → P j ≡ b → j < span_from P n → P j ≡ false
      fails j true e h = absurd (omega (arith, not_before_from n j e (omega (arith, from_at_most n))))
      fails j false e h = e

-- The span of a tag, as one of every test that only rows of the tag pass.
module _ (t : Rows) where
  pub tag_spans : (k : ℕ) → Spans (of_tag t k) t.size (tag_span t k)
  tag_spans k = span_spans (of_tag t k) t.size

  pub tag_stricter : (k : ℕ) (Q : ℕ → Bool) → ((i : ℕ) → of_tag t k i ≡ false → Q i ≡ false) → Spans Q t.size (tag_span t k)
  tag_stricter k Q f = spans_stricter (of_tag t k) Q f (tag_spans k)

  -- where tags never fall, a row between two rows of a tag is one of it
  pub between : Rising t → (k i j l : ℕ) → i ≤ j → j ≤ l → l < t.size → of_tag t k i ≡ true → of_tag t k l ≡ true → of_tag t k j ≡ true
  between rising k i j l low high h p q =
      let up = rising i j low (omega arith) in
      let down = rising j l high h in
      by_action (eqb k becomes_equal_tag) p q up down
    where
      low_action : (x : ℕ) → (eqb x becomes_equal_tag || eqb x becomes_such_tag) ≡ true → (becomes_equal_tag ≤ x) × (x ≤ becomes_such_tag)
      low_action x e = go (eqb x becomes_equal_tag) refl e
        where
          go : (b : Bool) → eqb x becomes_equal_tag ≡ b → (b || eqb x becomes_such_tag) ≡ true → (becomes_equal_tag ≤ x) × (x ≤ becomes_such_tag)
          go true r e = let s = eqb-true x becomes_equal_tag r in (omega arith, omega arith)
          go false r e = let s = eqb-true x becomes_such_tag e in (omega arith, omega arith)

      action : (x : ℕ) → becomes_equal_tag ≤ x → x ≤ becomes_such_tag → (eqb x becomes_equal_tag || eqb x becomes_such_tag) ≡ true
      action x l h = go (eqb x becomes_equal_tag) refl
        where
          go : (b : Bool) → eqb x becomes_equal_tag ≡ b → (b || eqb x becomes_such_tag) ≡ true
          go true r = refl
          go false r = eq-eqb x becomes_such_tag (omega (arith, eqb-false x becomes_equal_tag r))

      by_action : (b : Bool) → pick b (is_action t i) (tagged t k i) ≡ true → pick b (is_action t l) (tagged t k l) ≡ true → t.tag i ≤ t.tag j → t.tag j ≤ t.tag l
          → pick b (is_action t j) (tagged t k j) ≡ true
      by_action true p q up down =
          action (t.tag j) (omega (arith, (low_action (t.tag i) p).0)) (omega (arith, (low_action (t.tag l) q).1))
      by_action false p q up down = eq-eqb (t.tag j) k (omega (arith, eqb-true (t.tag i) k p, eqb-true (t.tag l) k q))

-- the two numbers of k are the span of a test among the first n rows
abbrev Held : (ℕ → Bool) → ℕ → ℕ → List ℕ → Type 0
Held P n k s = (get_or s (2 * k) 0 ≡ span_from P n) × (get_or s (2 * k + 1) 0 ≡ span_to P n)

held_fails : (P : ℕ → Bool) (i k : ℕ) (s : List ℕ) → P i ≡ false → Held P i k s → Held P (i + 1) k s
held_fails P i k s e held = (held.0 ∙ sym (from_fails P i e), held.1 ∙ sym (to_fails P i e))

-- What noting the row i of a tag k changes: the two numbers of k.
module _ (s : List ℕ) (k i : ℕ) (size : length s ≡ span_words) (h : k ≤ variant_tag) where
  abbrev new_from : ℕ
  new_from = pick (eqb (get_or s (2 * k + 1) 0) 0) i (get_or s (2 * k) 0)

  abbrev from_stored : List ℕ
  from_stored = set s (2 * k) new_from

  pub noted_size : length (noted s k i) ≡ span_words
  noted_size = simp length-set size

  noted_from : get_or (noted s k i) (2 * k) 0 ≡ new_from
  noted_from = get_or-set_other from_stored (2 * k + 1) (2 * k) (i + 1) 0 (λ e. omega arith) ∙ get_or-set_same s (2 * k) new_from 0 (omega arith)

  noted_to : get_or (noted s k i) (2 * k + 1) 0 ≡ i + 1
  noted_to = get_or-set_same from_stored (2 * k + 1) (i + 1) 0 (simp length-set (omega arith))

  noted_other : (j : ℕ) → (j ≡ 2 * k → ⊥) → (j ≡ 2 * k + 1 → ⊥) → get_or (noted s k i) j 0 ≡ get_or s j 0
  noted_other j f g = get_or-set_other from_stored (2 * k + 1) j (i + 1) 0 g ∙ get_or-set_other s (2 * k) j new_from 0 f

  held_passes : (P : ℕ → Bool) → P i ≡ true → Held P i k s → Held P (i + 1) k (noted s k i)
  held_passes P e held = (
    noted_from ∙ ap₂ (λ x y. pick (eqb x 0) i y) held.1 held.0 ∙ sym (from_passes P i e),
    noted_to ∙ sym (to_passes P i e),
  )

  held_other : (P : ℕ → Bool) (n j : ℕ) → (j ≡ k → ⊥) → Held P n j s → Held P n j (noted s k i)
  held_other P n j f held = (
    noted_other (2 * j) (λ e. f (omega arith)) (λ e. omega arith) ∙ held.0,
    noted_other (2 * j + 1) (λ e. omega arith) (λ e. f (omega arith)) ∙ held.1,
  )

-- The spans of all tags with one row more.
module _ (t : Rows) (i : ℕ) where
  of_own : (k : ℕ) → t.tag i ≡ k → of_tag t k i ≡ true
  of_own k e = by_action (eqb k becomes_equal_tag) refl
    where
      by_action : (b : Bool) → eqb k becomes_equal_tag ≡ b → pick b (is_action t i) (tagged t k i) ≡ true
      by_action true q = rw (eq-eqb (t.tag i) becomes_equal_tag (e ∙ eqb-true k becomes_equal_tag q))
      by_action false q = eq-eqb (t.tag i) k e

  of_action : t.tag i ≡ becomes_such_tag → of_tag t becomes_equal_tag i ≡ true
  of_action e = rw e

  -- of no other tag but 51, and of 51 where it is no 52
  of_other : (k : ℕ) → (t.tag i ≡ k → ⊥) → (k ≡ becomes_equal_tag → t.tag i ≡ becomes_such_tag → ⊥) → of_tag t k i ≡ false
  of_other k f g = by_action (eqb k becomes_equal_tag) refl
    where
      by_action : (b : Bool) → eqb k becomes_equal_tag ≡ b → pick b (is_action t i) (tagged t k i) ≡ false
      by_action true q =
          let equal = eqb-true k becomes_equal_tag q in
          rw (ne_eqb (t.tag i) becomes_equal_tag (λ e. f (e ∙ sym equal)), ne_eqb (t.tag i) becomes_such_tag (g equal))
      by_action false q = ne_eqb (t.tag i) k f

  module _ (s : List ℕ) (spans : SpannedTo t i s) where
    held : (k : ℕ) → k ≤ variant_tag → Held (of_tag t k) i k s
    held k h = (spans.starts k h, spans.ends k h)

    abbrev Next : List ℕ → Type 0
    Next l = (k : ℕ) → k ≤ variant_tag → Held (of_tag t k) (i + 1) k l

    next : (l : List ℕ) → length l ≡ span_words → Next l → SpannedTo t (i + 1) l
    next l size f = record { size = size; starts = λ k h. (f k h).0; ends = λ k h. (f k h).1 }

    -- of an unknown tag above all
    pub row_passed : variant_tag < t.tag i → SpannedTo t (i + 1) s
    row_passed above = next s spans.size (λ k h. held_fails (of_tag t k) i k s (of_other k (λ e. omega arith) (λ e q. omega arith)) (held k h))

    pub row_noted : (tag : ℕ) → tag ≡ t.tag i → tag ≤ variant_tag → (tag ≡ becomes_such_tag → ⊥) → SpannedTo t (i + 1) (noted s tag i)
    row_noted tag read l other = next (noted s tag i) (noted_size s tag i spans.size l) (λ k h. go k h (ℕ_discrete k tag))
      where
        go : (k : ℕ) → k ≤ variant_tag → Dec (k ≡ tag) → Held (of_tag t k) (i + 1) k (noted s tag i)
        go k h (yes e) = subst (λ k. Held (of_tag t k) (i + 1) k (noted s tag i)) (sym e)
            (held_passes s tag i spans.size l (of_tag t tag) (of_own tag (sym read)) (held tag l))
        go k h (no f) = held_other s tag i spans.size l (of_tag t k) (i + 1) k f
            (held_fails (of_tag t k) i k s (of_other k (λ e. f (sym (read ∙ e))) (λ e q. other (read ∙ q))) (held k h))

    pub action_noted_lem : t.tag i ≡ becomes_such_tag → SpannedTo t (i + 1) (noted (noted s becomes_such_tag i) becomes_equal_tag i)
    action_noted_lem read = next _ (noted_size one becomes_equal_tag i size_one (omega arith)) (λ k h. go k h (ℕ_discrete k becomes_such_tag) (ℕ_discrete k becomes_equal_tag))
      where
        one : List ℕ
        one = noted s becomes_such_tag i

        size_one : length one ≡ span_words
        size_one = noted_size s becomes_such_tag i spans.size (omega arith)

        second : (P : ℕ → Bool) (n k : ℕ) → (k ≡ becomes_equal_tag → ⊥) → Held P n k one → Held P n k (noted one becomes_equal_tag i)
        second = held_other one becomes_equal_tag i size_one (omega arith)

        go : (k : ℕ) → k ≤ variant_tag → Dec (k ≡ becomes_such_tag) → Dec (k ≡ becomes_equal_tag) → Held (of_tag t k) (i + 1) k (noted one becomes_equal_tag i)
        go k h (yes e) d = subst (λ k. Held (of_tag t k) (i + 1) k (noted one becomes_equal_tag i)) (sym e)
            (second (of_tag t becomes_such_tag) (i + 1) becomes_such_tag (λ q. omega arith)
            (held_passes s becomes_such_tag i spans.size (omega arith) (of_tag t becomes_such_tag) (of_own becomes_such_tag read) (held becomes_such_tag (omega arith))))
        go k h (no f) (yes e) = subst (λ k. Held (of_tag t k) (i + 1) k (noted one becomes_equal_tag i)) (sym e)
            (held_passes one becomes_equal_tag i size_one (omega arith) (of_tag t becomes_equal_tag) (of_action read)
            (held_other s becomes_such_tag i spans.size (omega arith) (of_tag t becomes_equal_tag) i becomes_equal_tag (λ q. omega arith) (held becomes_equal_tag (omega arith))))
        go k h (no f) (no g) = second (of_tag t k) (i + 1) k g
            (held_other s becomes_such_tag i spans.size (omega arith) (of_tag t k) (i + 1) k f
            (held_fails (of_tag t k) i k s (of_other k (λ e. f (sym e ∙ read)) (λ e q. g e)) (held k h)))

-- no rows yet
pub spanned_none : (t : Rows) (s : List ℕ) → length s ≡ span_words → ((k : ℕ) → get_or s k 0 ≡ 0) → SpannedTo t 0 s
unfolding span_from span_to
spanned_none t s size zeros = record { size = size; starts = λ k h. zeros (2 * k); ends = λ k h. zeros (2 * k + 1) }
