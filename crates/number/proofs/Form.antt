-- What is in the number form, for every width and range: reading inverts writing, and whatever reads as a number is exactly its written
-- form. Both rest on one fact: a text's last byte after the text before it reads as the text, and no other byte does.
use mathlib.Core.Path.{◌≡◌, refl, ap, sym, ◌∙◌, subst}
use mathlib.Core.List.{List, [], ◌∷◌, ◌++◌, append_assoc, append-nil}
use mathlib.Core.Bool.{Bool, true, false}
use Prim.Native.Nat.{ℕ, zero, suc, ◌≤◌, ◌<◌, ◌+◌, ◌-◌, ◌*◌, ◌/◌, ◌%◌, ◌^◌}
use native.Mathlib.Numerals.{add-one}
use native.Mathlib.Nat.{pow-suc}
use native.Mathlib.Omega.{arith}
use borrow.Author.Tests.{lt-ltb, le-ltb, le-leb, lt-leb, ne_eqb, ltb-false, leb-true, leb-false, eqb-true, eqb-false}
use lib.Dec.{ltb, leb, eqb}
use lib.ListN.{length, length-append}
use Rattle.lists.specs.Choice.{pick}
use Rattle.std.specs.Prelude.{Some, None}
use Rattle.number.specs.Number.{space, minus, digit_zero, Text, Spaces, Minus, Digits, most_of, last_of, before_digits, before_of, text_of, columns_of, rest_of, Fits, in_range, InRange, InForm}
use Rattle.number.specs.Reading.{digit_nine, Scan, Prefix, Wrong, digit_of, after_spaces, after_minus, after_digits, after_text, word_of, text_value, step_of, scan_from, value_of, number_of}
use Rattle.number.proofs.Scan.{scan_wrong}

wrong_never : (u : Text) → Wrong ≡ Prefix u → ⊥
wrong_never u e = let z : ◌≡◌ {A = ℕ} 0 1 = cc in omega arith

malformed_never : (w : ℕ) → None ≡ Some w → ⊥
malformed_never w e = let z : ◌≡◌ {A = ℕ} 0 1 = cc in omega arith

same_text : {t u : Text} → Prefix t ≡ Prefix u → t ≡ u
same_text e = cc

-- A text that reading can reach: in range, and no minus before 0.
module _ (greatest : ℕ) where
  record Proper (t : Text) : Type 0 where
    range : in_range greatest t ≡ true
    signed : (m : ℕ) → t ≡ Digits true m → 0 < m

  proper_spaces : Proper Spaces
  proper_spaces = record { range = refl; signed = λ m e. absurd (let z : ◌≡◌ {A = ℕ} 0 1 = cc in omega arith) }

  proper_minus : Proper Minus
  proper_minus = record { range = refl; signed = λ m e. absurd (let z : ◌≡◌ {A = ℕ} 0 1 = cc in omega arith) }

  proper_digits : (negative : Bool) (m : ℕ) → m ≤ most_of greatest negative → (negative ≡ true → 0 < m) → Proper (Digits negative m)
  proper_digits negative m h s = record {
    range = le-leb m (most_of greatest negative) h;
    signed = λ k e. let n : negative ≡ true = cc in let q : m ≡ k = cc in omega (arith, s n);
  }

  -- the byte b after the text t ends the text u
  record Ends (t : Text) (b : ℕ) (u : Text) : Type 0 where
    before : before_of u ≡ t
    last : last_of u ≡ b
    proper : Proper u

  -- a digit that reads
  record Digit (negative : Bool) (m b : ℕ) (u : Text) : Type 0 where
    low : digit_zero ≤ b
    high : b ≤ digit_nine
    within : m * 10 + (b - digit_zero) ≤ most_of greatest negative
    text : Digits negative (m * 10 + (b - digit_zero)) ≡ u

  digit_reads : (negative : Bool) (m b : ℕ) (u : Text) → digit_of greatest negative m b ≡ Prefix u → Digit negative m b u
  digit_reads negative m b u = go (ltb b digit_zero) refl (ltb digit_nine b) refl (ltb (most_of greatest negative) (m * 10 + (b - digit_zero))) refl
    where
      go : (x : Bool) → ltb b digit_zero ≡ x → (y : Bool) → ltb digit_nine b ≡ y → (z : Bool) → ltb (most_of greatest negative) (m * 10 + (b - digit_zero)) ≡ z
          → pick x Wrong (pick y Wrong (pick z Wrong (Prefix (Digits negative (m * 10 + (b - digit_zero)))))) ≡ Prefix u → Digit negative m b u
      go true p y q z r e = absurd (wrong_never u e)
      go false p true q z r e = absurd (wrong_never u e)
      go false p false q true r e = absurd (wrong_never u e)
      go false p false q false r e = record { low = ltb-false b digit_zero p; high = ltb-false digit_nine b q; within = ltb-false _ _ r; text = same_text e }

  -- such a digit ends its text, if the text before it is the one that it follows
  digit_ends : (negative : Bool) (m b : ℕ) (t u : Text) → Digit negative m b u → before_digits negative (m * 10 + (b - digit_zero)) ≡ t
      → (negative ≡ true → 0 < m * 10 + (b - digit_zero)) → Ends t b u
  digit_ends negative m b t u d e s =
      let n : ℕ = m * 10 + (b - digit_zero) in
      subst (Ends t b) d.text (record {
        before = e;
        last = omega (arith, d.low, d.high);
        proper = proper_digits negative n d.within s;
      })

  ends_spaces : (b : ℕ) (u : Text) → after_spaces greatest b ≡ Prefix u → Ends Spaces b u
  ends_spaces b u = go (eqb b space) refl (eqb b minus) refl
    where
      first : Digit false 0 b u → Ends Spaces b u
      first d = digit_ends false 0 b Spaces u d (simp (lt-leb 10 (0 * 10 + (b - digit_zero)) (omega (arith, d.high)))) (λ e. absurd (let z : ◌≡◌ {A = ℕ} 0 1 = cc in omega arith))

      go : (x : Bool) → eqb b space ≡ x → (y : Bool) → eqb b minus ≡ y → pick x (Prefix Spaces) (pick y (Prefix Minus) (digit_of greatest false 0 b)) ≡ Prefix u → Ends Spaces b u
      go true p y q e = subst (Ends Spaces b) (same_text e) (record { before = refl; last = sym (eqb-true b space p); proper = proper_spaces })
      go false p true q e = subst (Ends Spaces b) (same_text e) (record { before = refl; last = sym (eqb-true b minus q); proper = proper_minus })
      go false p false q e = first (digit_reads false 0 b u e)

  ends_minus : (b : ℕ) (u : Text) → after_minus greatest b ≡ Prefix u → Ends Minus b u
  ends_minus b u = go (eqb b digit_zero) refl
    where
      first : (b ≡ digit_zero → ⊥) → Digit true 0 b u → Ends Minus b u
      first f d = digit_ends true 0 b Minus u d (simp (lt-leb 10 (0 * 10 + (b - digit_zero)) (omega (arith, d.high)))) (λ e. omega (arith, f, d.low))

      go : (x : Bool) → eqb b digit_zero ≡ x → pick x Wrong (digit_of greatest true 0 b) ≡ Prefix u → Ends Minus b u
      go true p e = absurd (wrong_never u e)
      go false p e = first (eqb-false b digit_zero p) (digit_reads true 0 b u e)

  ends_digits : (negative : Bool) (m b : ℕ) (u : Text) → after_digits greatest negative m b ≡ Prefix u → Ends (Digits negative m) b u
  ends_digits negative m b u = go (eqb m 0) refl
    where
      next : (m ≡ 0 → ⊥) → Digit negative m b u → Ends (Digits negative m) b u
      next f d =
          let n : ℕ = m * 10 + (b - digit_zero) in
          let q : n / 10 ≡ m = omega (arith, d.low, d.high) in
          digit_ends negative m b (Digits negative m) u d (simp (le-leb 10 n (omega (arith, f)), q)) (λ e. omega (arith, f))

      go : (x : Bool) → eqb m 0 ≡ x → pick x Wrong (digit_of greatest negative m b) ≡ Prefix u → Ends (Digits negative m) b u
      go true p e = absurd (wrong_never u e)
      go false p e = next (eqb-false m 0 p) (digit_reads negative m b u e)

  text_ends : (t : Text) (b : ℕ) (u : Text) → after_text greatest t b ≡ Prefix u → Ends t b u
  text_ends Spaces b u e = ends_spaces b u e
  text_ends Minus b u e = ends_minus b u e
  text_ends (Digits negative m) b u e = ends_digits negative m b u e

  -- and the other way round
  digit_after : (negative : Bool) (m k : ℕ) → m ≤ most_of greatest negative → k ≡ m / 10 → digit_of greatest negative k (digit_zero + m % 10) ≡ Prefix (Digits negative m)
  digit_after negative m k h e =
      let n : k * 10 + (digit_zero + m % 10 - digit_zero) ≡ m = omega arith in
      simp (le-ltb (digit_zero + m % 10) digit_zero (omega arith), le-ltb digit_nine (digit_zero + m % 10) (omega arith), n, le-ltb (most_of greatest negative) m h)

  digits_after : (negative : Bool) (m : ℕ) → m ≤ most_of greatest negative → (negative ≡ true → 0 < m)
      → (x : Bool) → leb 10 m ≡ x → after_text greatest (pick x (Digits negative (m / 10)) (pick negative Minus Spaces)) (digit_zero + m % 10) ≡ Prefix (Digits negative m)
  digits_after negative m h s true e =
      let l : 10 ≤ m = leb-true 10 m e in
      simp (ne_eqb (m / 10) 0 (omega arith)) (digit_after negative m (m / 10) h refl)
  digits_after true m h s false e =
      let l : m < 10 = leb-false 10 m e in
      simp (ne_eqb (digit_zero + m % 10) digit_zero (omega (arith, s refl))) (digit_after true m 0 h (omega arith))
  digits_after false m h s false e =
      let l : m < 10 = leb-false 10 m e in
      simp (ne_eqb (digit_zero + m % 10) space (omega arith), ne_eqb (digit_zero + m % 10) minus (omega arith)) (digit_after false m 0 h (omega arith))

  text_after : (u : Text) → Proper u → after_text greatest (before_of u) (last_of u) ≡ Prefix u
  text_after Spaces p = refl
  text_after Minus p = refl
  text_after (Digits negative m) p =
      digits_after negative m (leb-true m (most_of greatest negative) p.range) (λ e. p.signed m (ap (λ x. Digits x m) e)) (leb 10 m) refl

  digits_before : (negative : Bool) (m : ℕ) → Proper (Digits negative m) → (x : Bool) → leb 10 m ≡ x → Proper (pick x (Digits negative (m / 10)) (pick negative Minus Spaces))
  digits_before negative m p true e =
      let l : 10 ≤ m = leb-true 10 m e in
      proper_digits negative (m / 10) (omega (arith, leb-true m (most_of greatest negative) p.range)) (λ s. omega arith)
  digits_before true m p false e = proper_minus
  digits_before false m p false e = proper_spaces

  proper_before : (u : Text) → Proper u → Proper (before_of u)
  proper_before Spaces p = proper_spaces
  proper_before Minus p = proper_spaces
  proper_before (Digits negative m) p = digits_before negative m p (leb 10 m) refl

  -- reading a written text
  scan_last : (s : Scan) (xs : List ℕ) (b : ℕ) → scan_from greatest s (xs ++ (b ∷ [])) ≡ step_of greatest (scan_from greatest s xs) b
  unfolding scan_from
  scan_last s [] b = refl
  scan_last s (x ∷ xs) b = scan_last (step_of greatest s x) xs b

  scan_written : (width : ℕ) (u : Text) → Proper u → rest_of width u ≡ Spaces → scan_from greatest (Prefix Spaces) (columns_of width u) ≡ Prefix u
  unfolding columns_of rest_of scan_from
  scan_written zero u p f = ap Prefix (sym f)
  scan_written (suc width) u p f =
      scan_last (Prefix Spaces) (columns_of width (before_of u)) (last_of u)
      ∙ ap (λ s. step_of greatest s (last_of u)) (scan_written width (before_of u) (proper_before u p) f)
      ∙ text_after u p

  -- writing what was read
  record Holds (width : ℕ) (xs : List ℕ) (t : Text) : Type 0 where
    count : length xs ≡ width
    form : xs ≡ columns_of width t
    fits : rest_of width t ≡ Spaces
    proper : Proper t

  holds_none : Holds 0 [] Spaces
  unfolding columns_of rest_of
  holds_none = record { count = refl; form = refl; fits = refl; proper = proper_spaces }

  holds_more : (width : ℕ) (xs : List ℕ) (t : Text) (b : ℕ) (u : Text) → Holds width xs t → Ends t b u → Holds (suc width) (xs ++ (b ∷ [])) u
  unfolding columns_of rest_of
  holds_more width xs t b u h e = record {
    count = length-append xs (b ∷ []) ∙ add-one (length xs) ∙ ap suc h.count;
    form = rw (e.before, e.last, h.form);
    fits = ap (rest_of width) e.before ∙ h.fits;
    proper = e.proper;
  }

  scan_holds : (width : ℕ) (xs : List ℕ) (t : Text) (ys : List ℕ) (u : Text) → Holds width xs t → scan_from greatest (Prefix t) ys ≡ Prefix u
      → (n : ℕ) × Holds n (xs ++ ys) u
  unfolding scan_from
  scan_holds width xs t [] u h e = (width, rw append-nil (subst (Holds width xs) (same_text e) h))
  scan_holds width xs t (b ∷ ys) u h e = go (after_text greatest t b) refl e (λ v. scan_holds (suc width) (xs ++ (b ∷ [])) v ys u)
    where
      go : (s : Scan) → after_text greatest t b ≡ s → scan_from greatest s ys ≡ Prefix u
          → ((v : Text) → Holds (suc width) (xs ++ (b ∷ [])) v → scan_from greatest (Prefix v) ys ≡ Prefix u → (n : ℕ) × Holds n ((xs ++ (b ∷ [])) ++ ys) u)
          → (n : ℕ) × Holds n (xs ++ (b ∷ ys)) u
      go Wrong p e k = absurd (wrong_never u (sym (scan_wrong greatest ys) ∙ e))
      go (Prefix v) p e k = rw append_assoc at (k v (holds_more width xs t b v h (text_ends t b v p)) e)

  -- words and their texts
  module _ (small : greatest < 2 ^ 63) where
    text_of_word : (negative : Bool) (m : ℕ) → Proper (Digits negative m) → text_of (word_of negative m) ≡ Digits negative m
    text_of_word negative m p = go negative (eqb m 0) refl p
      where
        go : (negative zero? : Bool) → eqb m 0 ≡ zero? → Proper (Digits negative m) → text_of (pick zero? 0 (pick negative (2 ^ 64 - m) m)) ≡ Digits negative m
        go true true e p = absurd (omega (arith, p.signed m refl, eqb-true m 0 e))
        go false true e p = ap (Digits false) (sym (eqb-true m 0 e))
        go true false e p =
            let h : m ≤ greatest + 1 = leb-true m (greatest + 1) p.range in
            let back : 2 ^ 64 - (2 ^ 64 - m) ≡ m = omega arith in
            simp (le-ltb (2 ^ 64 - m) (2 ^ 63) (omega arith), back)
        go false false e p = simp (lt-ltb m (2 ^ 63) (omega (arith, leb-true m greatest p.range)))

    word_small : (negative : Bool) (m : ℕ) → Proper (Digits negative m) → word_of negative m < 2 ^ 64
    word_small negative m p = go negative (eqb m 0) refl p
      where
        go : (negative zero? : Bool) → eqb m 0 ≡ zero? → Proper (Digits negative m) → pick zero? 0 (pick negative (2 ^ 64 - m) m) < 2 ^ 64
        go true true e p = omega arith
        go false true e p = omega arith
        go true false e p = omega (arith, p.signed m refl)
        go false false e p = omega (arith, leb-true m greatest p.range)

    value_of_text : (w : ℕ) → w < 2 ^ 64 → text_value (text_of w) ≡ Some w
    value_of_text w h = go (ltb w (2 ^ 63)) refl (eqb w 0) refl
      where
        go : (x : Bool) → ltb w (2 ^ 63) ≡ x → (y : Bool) → eqb w 0 ≡ y → text_value (pick x (Digits false w) (Digits true (2 ^ 64 - w))) ≡ Some w
        go true p true q = simp q (ap Some (sym (eqb-true w 0 q)))
        go true p false q = simp q
        go false p y q =
            let l : 2 ^ 63 ≤ w = ltb-false w (2 ^ 63) p in
            let back : 2 ^ 64 - (2 ^ 64 - w) ≡ w = omega arith in
            simp (ne_eqb (2 ^ 64 - w) 0 (omega arith), back)

    proper_word : (w : ℕ) → InRange greatest w → Proper (text_of w)
    proper_word w r = record { range = r.range; signed = go (ltb w (2 ^ 63)) refl }
      where
        go : (x : Bool) → ltb w (2 ^ 63) ≡ x → (m : ℕ) → pick x (Digits false w) (Digits true (2 ^ 64 - w)) ≡ Digits true m → 0 < m
        go true p m e = absurd (let z : true ≡ false = cc in let n : ◌≡◌ {A = ℕ} 0 1 = cc in omega arith)
        go false p m e = let q : 2 ^ 64 - w ≡ m = cc in omega (arith, r.word)

    form_of : (n : ℕ) (columns : List ℕ) (negative : Bool) (m w : ℕ) → Holds n columns (Digits negative m) → word_of negative m ≡ w → InForm greatest columns w
    form_of n columns negative m w h e =
        let t : text_of w ≡ Digits negative m = ap text_of (sym e) ∙ text_of_word negative m h.proper in
        record {
          range = record { word = subst (λ x. x < 2 ^ 64) e (word_small negative m h.proper); range = rw t h.proper.range };
          fits = rw (t, h.count) h.fits;
          form = rw (t, h.count) h.form;
        }

    scan_form : (columns : List ℕ) (w : ℕ) (s : Scan) → scan_from greatest (Prefix Spaces) columns ≡ s → value_of s ≡ Some w → InForm greatest columns w
    scan_form columns w Wrong p e = absurd (malformed_never w e)
    scan_form columns w (Prefix Spaces) p e = absurd (malformed_never w e)
    scan_form columns w (Prefix Minus) p e = absurd (malformed_never w e)
    scan_form columns w (Prefix (Digits negative m)) p e =
        let h = scan_holds 0 [] Spaces columns (Digits negative m) holds_none p in
        form_of h.0 columns negative m w h.1 (let q : word_of negative m ≡ w = cc in q)

    -- whatever reads as a number is exactly its written form
    pub number_form : (columns : List ℕ) (w : ℕ) → number_of greatest columns ≡ Some w → InForm greatest columns w
    unfolding number_of
    number_form columns w e = scan_form columns w (scan_from greatest (Prefix Spaces) columns) refl e

    -- reading inverts writing
    pub written_reads : (width w : ℕ) → InRange greatest w → Fits width w → number_of greatest (columns_of width (text_of w)) ≡ Some w
    unfolding number_of
    written_reads width w r f = rw (scan_written width (text_of w) (proper_word w r) f) (value_of_text w r.word)

    pub form_reads : (columns : List ℕ) (w : ℕ) → InForm greatest columns w → number_of greatest columns ≡ Some w
    form_reads columns w f = ap (number_of greatest) f.form ∙ written_reads (length columns) w f.range f.fits

-- A width that holds every number in range: one column more than the digits of the largest magnitude.
left_spaces : (width : ℕ) → rest_of width Spaces ≡ Spaces
unfolding rest_of
left_spaces zero = refl
left_spaces (suc width) = left_spaces width

left_minus : (width : ℕ) → rest_of (suc width) Minus ≡ Spaces
unfolding rest_of
left_minus width = left_spaces width

left_digits : (k : ℕ) (negative : Bool) (m : ℕ) → m < 10 ^ k → (negative ≡ true → 0 < m) → rest_of (suc k) (Digits negative m) ≡ Spaces
unfolding rest_of
left_digits zero true m h s = absurd (omega (arith, s refl))
left_digits zero false m h s = simp (lt-leb 10 m (omega arith))
left_digits (suc k) negative m h s = go negative (leb 10 m) refl (left_digits k negative (m / 10))
  where
    tenth : m / 10 < 10 ^ k
    tenth = let e : 10 ^ suc k ≡ 10 ^ k * 10 = pow-suc 10 k in omega arith

    go : (negative more : Bool) → leb 10 m ≡ more → (m / 10 < 10 ^ k → (negative ≡ true → 0 < m / 10) → rest_of (suc k) (Digits negative (m / 10)) ≡ Spaces)
        → rest_of (suc k) (pick more (Digits negative (m / 10)) (pick negative Minus Spaces)) ≡ Spaces
    go negative true e left = left tenth (λ s. omega (arith, leb-true 10 m e))
    go true false e left = left_minus k
    go false false e left = left_spaces (suc k)

pub in_range_fits : (greatest k w : ℕ) → greatest + 1 < 10 ^ k → InRange greatest w → Fits (suc k) w
in_range_fits greatest k w h r = go (ltb w (2 ^ 63)) refl r.range
  where
    go : (x : Bool) → ltb w (2 ^ 63) ≡ x → in_range greatest (pick x (Digits false w) (Digits true (2 ^ 64 - w))) ≡ true
        → rest_of (suc k) (pick x (Digits false w) (Digits true (2 ^ 64 - w))) ≡ Spaces
    go true p l = left_digits k false w (omega (arith, leb-true w greatest l)) (λ e. absurd (let n : ◌≡◌ {A = ℕ} 0 1 = cc in omega arith))
    go false p l = left_digits k true (2 ^ 64 - w) (omega (arith, leb-true (2 ^ 64 - w) (greatest + 1) l)) (λ e. omega (arith, r.word))
