-- Columns that start with spaces read as what follows these.
use mathlib.Core.Path.{◌≡◌, refl, sym, ap, ◌∙◌}
use mathlib.Core.Bool.{Bool, true, false, ◌&&◌, true≢false}
use mathlib.Core.List.{List}
use Prim.Native.Nat.{ℕ, zero, suc, ◌+◌, ◌≤◌, ◌<◌}
use native.Mathlib.Omega.{arith}
use native.Mathlib.Numerals.{add-one}
use borrow.Author.Tests.{eqb-true, eqb-false, ltb-true, ltb-false}
use lib.Dec.{eqb, ltb}
use lib.ListN.{length, get_or, drop}
use Rattle.number.specs.Number.{space, Spaces}
use Rattle.number.specs.Reading.{Prefix, scan_from, BlankTo}
use Rattle.number.proofs.Scan.{first_space}

pub blank_skipped : (greatest : ℕ) (columns : List ℕ) (k : ℕ) → BlankTo k columns → scan_from greatest (Prefix Spaces) (drop k columns) ≡ scan_from greatest (Prefix Spaces) columns
blank_skipped greatest columns zero h = refl
blank_skipped greatest columns (suc k) h =
    ap (λ j. scan_from greatest (Prefix Spaces) (drop j columns)) (sym (add-one k))
    ∙ sym (first_space greatest columns k (omega (arith, h.0)) (h.1 k (omega arith)))
    ∙ blank_skipped greatest columns k (omega (arith, h.0), λ j l. h.1 j (omega arith))

both : (a b : Bool) → (a && b) ≡ true → (a ≡ true) × (b ≡ true)
both true b e = (refl, e)
both false b e = absurd (true≢false (sym e))

-- columns that hold spaces, by tests
module _ (columns : List ℕ) where
  abbrev is : ℕ → Bool
  is j = eqb (get_or columns j 0) space

  four : (a b c d : ℕ) → (((is a && is b) && is c) && is d) ≡ true → (is a ≡ true) × (is b ≡ true) × (is c ≡ true) × (is d ≡ true)
  four a b c d e =
      let p = both ((is a && is b) && is c) (is d) e in
      let q = both (is a && is b) (is c) p.0 in
      let r = both (is a) (is b) q.0 in
      (r.0, r.1, q.1, p.1)

  at : (j : ℕ) → is j ≡ true → get_or columns j 0 ≡ space
  at j t = eqb-true (get_or columns j 0) space t

  -- two more
  pub two_blank : (k : ℕ) → BlankTo k columns → k + 2 ≤ length columns → (is k && is (k + 1)) ≡ true → BlankTo (k + 2) columns
  two_blank k h l e = (l, λ j less. each j less (ltb j k) (eqb j k) refl refl)
    where
      each : (j : ℕ) → j < k + 2 → (a b : Bool) → ltb j k ≡ a → eqb j k ≡ b → get_or columns j 0 ≡ space
      each j less true b p q = h.1 j (ltb-true j k p)
      each j less false true p q = ap (λ j. get_or columns j 0) (eqb-true j k q) ∙ at k (both (is k) (is (k + 1)) e).0
      each j less false false p q =
          let last : j ≡ k + 1 = let not_below = ltb-false j k p in let other = eqb-false j k q in omega (arith, less, not_below, other) in
          ap (λ j. get_or columns j 0) last ∙ at (k + 1) (both (is k) (is (k + 1)) e).1

  -- the first eight
  pub eight_blank : 8 ≤ length columns → ((((is 0 && is 1) && is 2) && is 3) && (((is 4 && is 5) && is 6) && is 7)) ≡ true → BlankTo 8 columns
  eight_blank h e =
      let p = both (((is 0 && is 1) && is 2) && is 3) (((is 4 && is 5) && is 6) && is 7) e in
      (h, each (four 0 1 2 3 p.0) (four 4 5 6 7 p.1))
    where
      each : (is 0 ≡ true) × (is 1 ≡ true) × (is 2 ≡ true) × (is 3 ≡ true) → (is 4 ≡ true) × (is 5 ≡ true) × (is 6 ≡ true) × (is 7 ≡ true) → (j : ℕ) → j < 8 → get_or columns j 0 ≡ space
      each p q zero l = at 0 p.0
      each p q (suc zero) l = at 1 p.1
      each p q (suc (suc zero)) l = at 2 p.2
      each p q (suc (suc (suc zero))) l = at 3 p.3
      each p q (suc (suc (suc (suc zero)))) l = at 4 q.0
      each p q (suc (suc (suc (suc (suc zero))))) l = at 5 q.1
      each p q (suc (suc (suc (suc (suc (suc zero)))))) l = at 6 q.2
      each p q (suc (suc (suc (suc (suc (suc (suc zero))))))) l = at 7 q.3
      each p q (suc (suc (suc (suc (suc (suc (suc (suc j)))))))) l = absurd (omega (arith, l))
