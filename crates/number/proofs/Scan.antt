-- Laws of reading: one column more, and the digits of a number, read without looking for a leading zero.
use mathlib.Core.Path.{◌≡◌, refl, ap, sym, ◌∙◌}
use mathlib.Core.List.{List, [], ◌∷◌}
use mathlib.Core.Bool.{Bool, true, false, true≢false, ◌||◌}
use Prim.Native.Nat.{ℕ, zero, suc, ◌≤◌, ◌<◌, ◌+◌, ◌-◌, ◌*◌}
use native.Mathlib.Numerals.{add-one}
use native.Mathlib.Omega.{arith}
use borrow.Author.Tests.{lt-ltb, le-ltb, ne_eqb, ltb-false}
use lib.Dec.{ltb, eqb}
use lib.ListN.{length, drop, get_or, drop_of_length-le}
use lib.Seq.{drop-cons}
use Rattle.lists.specs.Choice.{pick}
use Rattle.std.specs.Prelude.{Option, Some, None}
use Rattle.number.specs.Number.{space, minus, digit_zero, Spaces, Minus, Digits, most_of}
use Rattle.number.specs.Reading.{digit_nine, Scan, Prefix, Wrong, word_of, digit_of, after_spaces, step_of, scan_from, value_of, number_of}

pub most_le : (greatest : ℕ) (negative : Bool) → most_of greatest negative ≤ greatest + 1
most_le greatest true = omega arith
most_le greatest false = omega arith

-- the test of a digit
both_false : (x y : Bool) → x || y ≡ false → (x ≡ false) × (y ≡ false)
both_false true y e = absurd (true≢false e)
both_false false y e = (refl, e)

not_digit : (x y : Bool) → x || y ≡ true → (scan : Scan) → ◌≡◌ {A = Scan} (pick x Wrong (pick y Wrong scan)) Wrong
not_digit true y e scan = refl
not_digit false true e scan = refl
not_digit false false e scan = absurd (true≢false (sym e))

pub digit_bounds : (b : ℕ) → ltb b digit_zero || ltb digit_nine b ≡ false → (digit_zero ≤ b) × (b ≤ digit_nine)
digit_bounds b e = let d = both_false (ltb b digit_zero) (ltb digit_nine b) e in (ltb-false b digit_zero d.0, ltb-false digit_nine b d.1)

module _ (greatest : ℕ) where
  pub scan_wrong : (ys : List ℕ) → scan_from greatest Wrong ys ≡ Wrong
  unfolding scan_from
  scan_wrong [] = refl
  scan_wrong (y ∷ ys) = scan_wrong ys

  -- the columns from i on are read by one step and those from i + 1 on
  scan_next : (scan : Scan) (columns : List ℕ) (i : ℕ) → i < length columns
      → scan_from greatest scan (drop i columns) ≡ scan_from greatest (step_of greatest scan (get_or columns i 0)) (drop (i + 1) columns)
  unfolding scan_from
  scan_next scan columns i h = rw (add-one, drop-cons columns i 0)

  -- nothing is left from i on
  scan_done : (scan : Scan) (columns : List ℕ) (i : ℕ) → length columns ≤ i → scan_from greatest scan (drop i columns) ≡ scan
  unfolding scan_from
  scan_done scan columns i h = rw (drop_of_length-le columns h)

  -- what is read from the column at on, by what it holds
  module _ (columns : List ℕ) (at : ℕ) (inside : at < length columns) where
    stepped : {r : Option ℕ} (scan next : Scan) → step_of greatest scan (get_or columns at 0) ≡ next
        → r ≡ value_of (scan_from greatest next (drop (at + 1) columns)) → r ≡ value_of (scan_from greatest scan (drop at columns))
    stepped scan next e q = q ∙ ap value_of (sym (scan_next scan columns at inside ∙ ap (λ s. scan_from greatest s (drop (at + 1) columns)) e))

    pub first_space : get_or columns at 0 ≡ space → scan_from greatest (Prefix Spaces) (drop at columns) ≡ scan_from greatest (Prefix Spaces) (drop (at + 1) columns)
    first_space e = scan_next (Prefix Spaces) columns at inside ∙ rw e

    pub first_minus : {r : Option ℕ} → get_or columns at 0 ≡ minus → r ≡ value_of (scan_from greatest (Prefix Minus) (drop (at + 1) columns))
        → r ≡ value_of (scan_from greatest (Prefix Spaces) (drop at columns))
    first_minus e = stepped (Prefix Spaces) (Prefix Minus) (rw e)

    pub first_digit : {r : Option ℕ} → (get_or columns at 0 ≡ space → ⊥) → (get_or columns at 0 ≡ minus → ⊥)
        → r ≡ value_of (scan_from greatest (digit_of greatest false 0 (get_or columns at 0)) (drop (at + 1) columns))
        → r ≡ value_of (scan_from greatest (Prefix Spaces) (drop at columns))
    first_digit f g = stepped (Prefix Spaces) (digit_of greatest false 0 (get_or columns at 0)) (simp (ne_eqb (get_or columns at 0) space f, ne_eqb (get_or columns at 0) minus g))

    pub minus_zero : get_or columns at 0 ≡ digit_zero → None ≡ value_of (scan_from greatest (Prefix Minus) (drop at columns))
    minus_zero e = stepped (Prefix Minus) Wrong (rw e) (ap value_of (sym (scan_wrong (drop (at + 1) columns))))

    pub minus_digit : {r : Option ℕ} → (get_or columns at 0 ≡ digit_zero → ⊥)
        → r ≡ value_of (scan_from greatest (digit_of greatest true 0 (get_or columns at 0)) (drop (at + 1) columns))
        → r ≡ value_of (scan_from greatest (Prefix Minus) (drop at columns))
    minus_digit f = stepped (Prefix Minus) (digit_of greatest true 0 (get_or columns at 0)) (simp (ne_eqb (get_or columns at 0) digit_zero f))

    -- a leading zero, which only the last column reads as
    module _ (zero : get_or columns at 0 ≡ digit_zero) where
      first_zero : {r : Option ℕ} → r ≡ value_of (scan_from greatest (Prefix (Digits false 0)) (drop (at + 1) columns))
          → r ≡ value_of (scan_from greatest (Prefix Spaces) (drop at columns))
      first_zero = stepped (Prefix Spaces) (Prefix (Digits false 0)) (rw zero (simp (le-ltb greatest 0 (omega arith))))

      pub zero_last : length columns ≤ at + 1 → Some 0 ≡ value_of (scan_from greatest (Prefix Spaces) (drop at columns))
      zero_last h = first_zero (ap value_of (sym (scan_done (Prefix (Digits false 0)) columns (at + 1) h)))

      pub zero_before : at + 1 < length columns → None ≡ value_of (scan_from greatest (Prefix Spaces) (drop at columns))
      zero_before h = first_zero (ap value_of (sym (scan_next (Prefix (Digits false 0)) columns (at + 1) h ∙ scan_wrong (drop (at + 1 + 1) columns))))

  pub minus_last : (columns : List ℕ) (at : ℕ) → length columns ≤ at → None ≡ value_of (scan_from greatest (Prefix Minus) (drop at columns))
  minus_last columns at h = ap value_of (sym (scan_done (Prefix Minus) columns at h))

  -- all columns from those at i on, which read alike
  module _ (columns : List ℕ) (i : ℕ) (same : scan_from greatest (Prefix Spaces) (drop i columns) ≡ scan_from greatest (Prefix Spaces) columns) where
    pub scanned : {r : Option ℕ} → r ≡ value_of (scan_from greatest (Prefix Spaces) (drop i columns)) → r ≡ number_of greatest columns
    unfolding number_of
    scanned q = q ∙ ap value_of same

    pub no_number : length columns ≤ i → None ≡ number_of greatest columns
    no_number h = scanned (ap value_of (sym (scan_done (Prefix Spaces) columns i h)))

  -- the last column, where all before it are spaces
  module _ (b : ℕ) where
    pub last_none : ltb b digit_zero || ltb digit_nine b ≡ true → None ≡ value_of (after_spaces greatest b)
    last_none t = go (eqb b space) (eqb b minus)
      where
        go : (x y : Bool) → None ≡ value_of (pick x (Prefix Spaces) (pick y (Prefix Minus) (digit_of greatest false 0 b)))
        go true y = refl
        go false true = refl
        go false false = ap value_of (sym (not_digit (ltb b digit_zero) (ltb digit_nine b) t _))

    module _ (digit : ltb b digit_zero || ltb digit_nine b ≡ false) where
      last_read : (x : Bool) → ltb (most_of greatest false) (b - digit_zero) ≡ x → after_spaces greatest b ≡ pick x Wrong (Prefix (Digits false (b - digit_zero)))
      last_read x e =
          let d = both_false (ltb b digit_zero) (ltb digit_nine b) digit in
          let l = ltb-false b digit_zero d.0 in
          let first : 0 * 10 + (b - digit_zero) ≡ b - digit_zero = omega arith in
          simp (ne_eqb b space (λ q. omega (arith, l, q)), ne_eqb b minus (λ q. omega (arith, l, q)), d.0, d.1, first, e)

      pub last_over : greatest < b - digit_zero → None ≡ value_of (after_spaces greatest b)
      last_over l = ap value_of (sym (last_read true (lt-ltb greatest (b - digit_zero) l)))

      pub last_digit : b - digit_zero ≤ greatest → Some (b - digit_zero) ≡ value_of (after_spaces greatest b)
      last_digit l = ap Some (sym (magnitude (b - digit_zero))) ∙ ap value_of (sym (last_read false (le-ltb greatest (b - digit_zero) l)))
        where
          magnitude : (m : ℕ) → word_of false m ≡ m
          magnitude zero = refl
          magnitude (suc m) = simp (ne_eqb (suc m) 0 (omega arith))

  -- the last column from at on
  pub last_column : (columns : List ℕ) (at : ℕ) → length columns - at ≡ 1 → scan_from greatest (Prefix Spaces) (drop at columns) ≡ after_spaces greatest (get_or columns at 0)
  last_column columns at e = scan_next (Prefix Spaces) columns at (omega arith) ∙ scan_done (after_spaces greatest (get_or columns at 0)) columns (at + 1) (omega arith)

  module _ (negative : Bool) where
    -- digits after the magnitude m
    unfoldable pub digits_from : ℕ → List ℕ → Scan
    digits_from m [] = Prefix (Digits negative m)
    digits_from m (b ∷ bs) =
        pick (ltb b digit_zero) Wrong
        (pick (ltb digit_nine b) Wrong
        (pick (ltb (most_of greatest negative) (m * 10 + (b - digit_zero))) Wrong
        (digits_from (m * 10 + (b - digit_zero)) bs)))

    -- a digit that makes a positive magnitude, and those after it
    digit_more : (m b : ℕ) (bs : List ℕ) → (digit_zero ≤ b → 0 < m * 10 + (b - digit_zero))
        → ((n : ℕ) → 0 < n → scan_from greatest (Prefix (Digits negative n)) bs ≡ digits_from n bs)
        → scan_from greatest (digit_of greatest negative m b) bs ≡ digits_from m (b ∷ bs)
    unfolding digits_from
    digit_more m b bs pos rest = go (ltb b digit_zero) refl (ltb digit_nine b) (ltb (most_of greatest negative) (m * 10 + (b - digit_zero)))
      where
        n : ℕ
        n = m * 10 + (b - digit_zero)

        go : (x : Bool) → ltb b digit_zero ≡ x → (y z : Bool)
            → scan_from greatest (pick x Wrong (pick y Wrong (pick z Wrong (Prefix (Digits negative n))))) bs ≡ pick x Wrong (pick y Wrong (pick z Wrong (digits_from n bs)))
        go true p y z = scan_wrong bs
        go false p true z = scan_wrong bs
        go false p false true = scan_wrong bs
        go false p false false = rest n (pos (ltb-false b digit_zero p))

    digits_scan : (bs : List ℕ) (m : ℕ) → 0 < m → scan_from greatest (Prefix (Digits negative m)) bs ≡ digits_from m bs
    unfolding digits_from scan_from
    digits_scan [] m h = refl
    digits_scan (b ∷ bs) m h = simp (ne_eqb m 0 (omega arith)) (digit_more m b bs (λ l. omega arith) (digits_scan bs))

    -- the first digit is no zero
    pub digits_start : (columns : List ℕ) (at : ℕ) → at < length columns → (get_or columns at 0 ≡ digit_zero → ⊥)
        → digits_from 0 (drop at columns) ≡ scan_from greatest (digit_of greatest negative 0 (get_or columns at 0)) (drop (at + 1) columns)
    digits_start columns at h f =
        rw (add-one, drop-cons columns at 0) (sym (digit_more 0 (get_or columns at 0) (drop (suc at) columns) (λ l. omega (arith, f)) (digits_scan (drop (suc at) columns))))

    -- the digits from i on, where m is the magnitude of those before
    module _ (columns : List ℕ) (i m : ℕ) (whole : Scan) (e : digits_from m (drop i columns) ≡ whole) where
      pub digits_end : length columns ≤ i → Some (word_of negative m) ≡ value_of whole
      unfolding digits_from
      digits_end h = ap value_of (rw (drop_of_length-le columns h) at e)

      module _ (h : i < length columns) where
        here : whole ≡ digits_from m (get_or columns i 0 ∷ drop (i + 1) columns)
        here = sym e ∙ rw (add-one, drop-cons columns i 0)

        stops : whole ≡ Wrong → None ≡ value_of whole
        stops w = ap value_of (sym w)

        pub digits_none : ltb (get_or columns i 0) digit_zero || ltb digit_nine (get_or columns i 0) ≡ true → None ≡ value_of whole
        unfolding digits_from
        digits_none t = stops (here ∙ not_digit (ltb (get_or columns i 0) digit_zero) (ltb digit_nine (get_or columns i 0)) t _)

        module _ (digit : ltb (get_or columns i 0) digit_zero || ltb digit_nine (get_or columns i 0) ≡ false) where
          pub digits_over : most_of greatest negative < m * 10 + (get_or columns i 0 - digit_zero) → None ≡ value_of whole
          unfolding digits_from
          digits_over l =
              let d = both_false (ltb (get_or columns i 0) digit_zero) (ltb digit_nine (get_or columns i 0)) digit in
              stops (here ∙ simp (d.0, d.1, lt-ltb (most_of greatest negative) (m * 10 + (get_or columns i 0 - digit_zero)) l))

          pub digits_next : m * 10 + (get_or columns i 0 - digit_zero) ≤ most_of greatest negative
              → digits_from (m * 10 + (get_or columns i 0 - digit_zero)) (drop (i + 1) columns) ≡ whole
          unfolding digits_from
          digits_next l =
              let d = both_false (ltb (get_or columns i 0) digit_zero) (ltb digit_nine (get_or columns i 0)) digit in
              sym (here ∙ simp (d.0, d.1, le-ltb (most_of greatest negative) (m * 10 + (get_or columns i 0 - digit_zero)) l))
