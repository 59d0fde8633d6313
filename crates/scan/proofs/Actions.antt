-- The rows of actions as they are noted: the first number that passes by recursion on the bound, what one row more changes, and that the spans of the tags and the
-- actions are kept apart in the list.
use Prim.Native.Nat.{ℕ, zero, suc, ◌+◌, ◌-◌, ◌*◌, ◌≤◌, ◌<◌}
use mathlib.Core.Path.{◌≡◌, refl, ap, sym, subst, ◌∙◌}
use mathlib.Core.Bool.{Bool, true, false, not, ◌&&◌, true≢false}
use mathlib.Core.List.{List}
use native.Mathlib.Omega.{arith}
use native.Mathlib.Numerals.{add-one}
use native.Mathlib.Decide.{ℕ_discrete}
use borrow.Author.Tests.{eq-eqb, ne_eqb, eqb-true, eqb-false, leb-true, leb-false}
use lib.Dec.{eqb, leb}
use lib.ListN.{length, get_or, set, length-set}
use lib.Seq.{get_or-set_same, get_or-set_other}
use Rattle.lists.specs.Choice.{pick}
use Rattle.lists.specs.Below.{NoneBelow, first}
use Rattle.lists.proofs.First.{first_at, first_none, none_next}
use Rattle.table.specs.Names.{becomes_equal_tag, variant_tag}
use Rattle.table.specs.Rows.{Rows, is_action}
use Rattle.scan.specs.declared.Query.TheVariants.{Assigns}
use Rattle.scan.specs.Query.{passes_of}
use Rattle.scan.specs.Span.{Spans}
use Rattle.scan.specs.Spans.{tag_span, span_words, action_at, SpannedTo, first_noted, ActionsTo, noted, action_noted}
use Rattle.scan.proofs.Spans.{tag_stricter}

module _ (P : ℕ → Bool) where
  -- with a row that passes, and with one that does not
  pub noted_passes : (n : ℕ) → P n ≡ true → first_noted P (n + 1) ≡ pick (eqb (first_noted P n) 0) (n + 1) (first_noted P n)
  unfolding first_noted
  noted_passes n e = rw (add-one, e)

  pub noted_fails : (n : ℕ) → P n ≡ false → first_noted P (n + 1) ≡ first_noted P n
  unfolding first_noted
  noted_fails n e = rw (add-one, e)

  -- what is noted: 0 where none passes, else one more than the first that passes
  record Noted (n m : ℕ) : Type 0 where
    none : m ≡ 0 → NoneBelow P n
    found : 0 < m → (m ≤ n) × (P (m - 1) ≡ true) × NoneBelow P (m - 1)

  noted_at : (n : ℕ) → Noted n (first_noted P n)
  unfolding first_noted
  noted_at zero = record { none = λ e j h. absurd (omega arith); found = λ h. absurd (omega arith) }
  noted_at (suc n) = by_tests (P n) (eqb (first_noted P n) 0) refl refl (noted_at n)
    where
      m : ℕ
      m = first_noted P n

      longer : P n ≡ false → NoneBelow P n → NoneBelow P (suc n)
      longer e f = subst (NoneBelow P) (add-one n) (none_next P n f e)

      by_tests : (b z : Bool) → P n ≡ b → eqb m 0 ≡ z → Noted n m → Noted (suc n) (pick (b && z) (suc n) m)
      by_tests true true e q w = record {
        none = λ h. absurd (omega arith);
        found = λ h. let k : suc n - 1 ≡ n = omega arith in (omega arith, ap P k ∙ e, subst (NoneBelow P) (sym k) (w.none (eqb-true m 0 q)));
      }
      by_tests true false e q w = record {
        none = λ h. absurd (eqb-false m 0 q h);
        found = λ h. (omega (arith, (w.found h).0), (w.found h).1, (w.found h).2);
      }
      by_tests false z e q w = record {
        none = λ h. longer e (w.none h);
        found = λ h. (omega (arith, (w.found h).0), (w.found h).1, (w.found h).2);
      }

  -- the first that passes, from what is noted
  pub noted_first : (n : ℕ) → first P n 0 ≡ pick (eqb (first_noted P n) 0) n (first_noted P n - 1)
  noted_first n = go (eqb m 0) refl
    where
      m : ℕ
      m = first_noted P n

      go : (b : Bool) → eqb m 0 ≡ b → first P n 0 ≡ pick b n (m - 1)
      go true q = sym (first_none P n ((noted_at n).none (eqb-true m 0 q)))
      go false q =
          let some : 0 < m = omega (arith, eqb-false m 0 q) in
          let w = (noted_at n).found some in
          sym (first_at P n (m - 1) w.2 (omega (arith, w.0)) w.1)

-- what a row that is noted is, and the test the other way round
pub noted_limits : (a : Bool) (e x : ℕ) → (a && (leb e 32 && leb x 64)) ≡ true → (a ≡ true) × (e ≤ 32) × (x ≤ 64)
noted_limits a e x h = go a (leb e 32) (leb x 64) refl refl h
  where
    go : (a p q : Bool) → leb e 32 ≡ p → leb x 64 ≡ q → (a && (p && q)) ≡ true → (a ≡ true) × (e ≤ 32) × (x ≤ 64)
    go true true true ep eq h = (refl, leb-true e 32 ep, leb-true x 64 eq)
    go true true false ep eq h = absurd (true≢false (sym h))
    go true false q ep eq h = absurd (true≢false (sym h))
    go false p q ep eq h = absurd (true≢false (sym h))

pub not_true : (b : Bool) → not b ≡ true → b ≡ false
not_true true e = sym e
not_true false e = refl

pub not_false : (b : Bool) → not b ≡ false → b ≡ true
not_false true e = refl
not_false false e = sym e

module _ (t : Rows) where
  abbrev assigns : ℕ → ℕ → ℕ → Bool
  assigns e x i = passes_of t (Assigns e x) i

  -- a row that is no action within the limits is noted nowhere
  pub actions_passed : (i : ℕ) (s : List ℕ) → (is_action t i && (leb (t.a i) 32 && leb (t.b i) 64)) ≡ false → ActionsTo t i s → ActionsTo t (i + 1) s
  actions_passed i s none h e x le lx =
      h e x le lx ∙ sym (noted_fails (assigns e x) i (fails (is_action t i) (leb (t.a i) 32) (leb (t.b i) 64) (eqb (t.a i) e) (eqb (t.b i) x) refl refl refl refl none))
    where
      fails : (a p q y z : Bool) → leb (t.a i) 32 ≡ p → leb (t.b i) 64 ≡ q → eqb (t.a i) e ≡ y → eqb (t.b i) x ≡ z → (a && (p && q)) ≡ false → (a && (y && z)) ≡ false
      fails false p q y z _ _ _ _ n = refl
      fails true p q false z _ _ _ _ n = refl
      fails true p q true false _ _ _ _ n = refl
      fails true false q true true ep eq ey ez n = absurd (omega (arith, leb-false (t.a i) 32 ep, eqb-true (t.a i) e ey))
      fails true true false true true ep eq ey ez n = absurd (omega (arith, leb-false (t.b i) 64 eq, eqb-true (t.b i) x ez))
      fails true true true true true ep eq ey ez n = absurd (true≢false n)

  -- and one that is, in its own place
  module _ (i : ℕ) (s : List ℕ) (size : length s ≡ span_words) (action : is_action t i ≡ true) (he : t.a i ≤ 32) (hx : t.b i ≤ 64) where
    pub actions_noted : ActionsTo t i s → ActionsTo t (i + 1) (action_noted s (t.a i) (t.b i) i)
    actions_noted h e x le lx = go (ℕ_discrete (t.a i) e) (ℕ_discrete (t.b i) x)
      where
        k : ℕ
        k = action_at (t.a i) (t.b i)

        v : ℕ
        v = pick (eqb (get_or s k 0) 0) (i + 1) (get_or s k 0)

        other : (action_at e x ≡ action_at (t.a i) (t.b i) → ⊥) → assigns e x i ≡ false → get_or (set s k v) (action_at e x) 0 ≡ first_noted (assigns e x) (i + 1)
        other d f = get_or-set_other s k (action_at e x) v 0 d ∙ h e x le lx ∙ sym (noted_fails (assigns e x) i f)

        right : (b : Bool) → b && false ≡ false
        right true = refl
        right false = refl

        differs : (p q r : Bool) → (q && r) ≡ false → (p && (q && r)) ≡ false
        differs true q r f = f
        differs false q r f = refl

        go : Dec (t.a i ≡ e) → Dec (t.b i ≡ x) → get_or (set s k v) (action_at e x) 0 ≡ first_noted (assigns e x) (i + 1)
        go (yes p) (yes q) =
            subst (λ e. get_or (set s k v) (action_at e x) 0 ≡ first_noted (assigns e x) (i + 1)) p
            (subst (λ x. get_or (set s k v) (action_at (t.a i) x) 0 ≡ first_noted (assigns (t.a i) x) (i + 1)) q
            (get_or-set_same s k v 0 (omega arith)
            ∙ ap (λ m. pick (eqb m 0) (i + 1) m) (h (t.a i) (t.b i) he hx)
            ∙ sym (noted_passes (assigns (t.a i) (t.b i)) i (rw (action, eq-eqb (t.a i) (t.a i) refl, eq-eqb (t.b i) (t.b i) refl)))))
        go (yes p) (no g) =
            other (λ d. g (omega arith)) (differs (is_action t i) (eqb (t.a i) e) (eqb (t.b i) x) (ap (λ b. eqb (t.a i) e && b) (ne_eqb (t.b i) x g) ∙ right (eqb (t.a i) e)))
        go (no f) d = other (λ d. f (omega arith)) (differs (is_action t i) (eqb (t.a i) e) (eqb (t.b i) x) (ap (λ b. b && eqb (t.b i) x) (ne_eqb (t.a i) e f)))

    -- the spans of the tags stay
    pub spans_kept : {n : ℕ} → SpannedTo t n s → SpannedTo t n (action_noted s (t.a i) (t.b i) i)
    spans_kept h = record {
      size = simp length-set size;
      starts = λ k l. get_or-set_other s _ (2 * k) _ 0 (λ e. omega arith) ∙ h.starts k l;
      ends = λ k l. get_or-set_other s _ (2 * k + 1) _ 0 (λ e. omega arith) ∙ h.ends k l;
    }

  -- noting a tag keeps the actions
  pub actions_kept : (n : ℕ) (s : List ℕ) (k i : ℕ) → k ≤ variant_tag → ActionsTo t n s → ActionsTo t n (noted s k i)
  actions_kept n s k i l h e x le lx =
      let from = pick (eqb (get_or s (2 * k + 1) 0) 0) i (get_or s (2 * k) 0) in
      get_or-set_other (set s (2 * k) from) (2 * k + 1) (action_at e x) (i + 1) 0 (λ d. omega arith) ∙ get_or-set_other s (2 * k) (action_at e x) from 0 (λ d. omega arith)
      ∙ h e x le lx

  -- the actions of an event for a variable stand in the span of all actions
  pub assigns_spans : (e x : ℕ) → Spans (assigns e x) t.size (tag_span t becomes_equal_tag)
  assigns_spans e x = tag_stricter t becomes_equal_tag (assigns e x) (λ j p. ap (λ b. b && (eqb (t.a j) e && eqb (t.b j) x)) p)

  pub actions_none_lem : (s : List ℕ) → ((k : ℕ) → get_or s k 0 ≡ 0) → ActionsTo t 0 s
  unfolding first_noted
  actions_none_lem s zeros e x le lx = zeros (action_at e x)
