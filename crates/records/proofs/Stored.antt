-- What is stored: the list keeps its length, and its first records become those of the numbers. So storing what the list holds already changes no_record, for a list of any
-- length; and storing as many records as there are gives the list of those records.
use mathlib.Core.Path.{◌≡◌, refl, sym, ap, ◌∙◌}
use mathlib.Core.Bool.{Bool, true, false}
use mathlib.Core.List.{List}
use Prim.Native.Nat.{ℕ, zero, suc, ◌<◌, ◌≤◌}
use native.Mathlib.Nat.{not-suc-le-zero}
use native.Mathlib.Omega.{arith}
use borrow.Author.Tests.{eqb-true, eqb-false}
use lib.Dec.{eqb}
use lib.ListN.{length, get_or, set, length-set}
use lib.Seq.{get_or-set_same, get_or-set_other, set-get_or, ext_get_or}
use Rattle.bench.specs.declared.Record.{Record}
use Rattle.records.specs.Numbers.{no_record, record_at, stored}
use Rattle.records.specs.declared.Numbers.{Numbers}

module _ (all : Numbers) where
  pub stored_length : (n : ℕ) (ys : List Record) → length (stored all n ys) ≡ length ys
  unfolding stored
  stored_length zero ys = refl
  stored_length (suc n) ys = length-set (stored all n ys) n (record_at all n) ∙ stored_length n ys

  pub stored_same : (ys : List Record) (n : ℕ) → ((k : ℕ) → k < n → record_at all k ≡ get_or ys k no_record) → stored all n ys ≡ ys
  unfolding stored
  stored_same ys zero h = refl
  stored_same ys (suc n) h = ap (λ (l : List Record). set l n (record_at all n)) (stored_same ys n (λ k l. h k (omega arith))) ∙ ap (set ys n) (h n (omega arith)) ∙ set-get_or ys n no_record

  stored_at : (ys : List Record) (n k : ℕ) → n ≤ length ys → k < n → get_or (stored all n ys) k no_record ≡ record_at all k
  unfolding stored
  stored_at ys zero k h l = absurd (not-suc-le-zero l)
  stored_at ys (suc n) k h l = by (eqb k n) refl (stored_at ys n k (omega arith))
    where
      by : (t : Bool) → eqb k n ≡ t → (k < n → get_or (stored all n ys) k no_record ≡ record_at all k) → get_or (set (stored all n ys) n (record_at all n)) k no_record ≡ record_at all k
      by true e so =
          let q : k ≡ n = eqb-true k n e in
          ap (λ (j : ℕ). get_or (set (stored all n ys) n (record_at all n)) j no_record) q ∙ get_or-set_same (stored all n ys) n (record_at all n) no_record (omega (arith, stored_length n ys, h)) ∙ ap (record_at all) (sym q)
      by false e so = let q : k ≡ n → ⊥ = eqb-false k n e in get_or-set_other (stored all n ys) n k (record_at all n) no_record q ∙ so (omega arith)

  pub stored_whole : (ys zs : List Record) → length zs ≡ length ys → ((k : ℕ) → k < length ys → record_at all k ≡ get_or zs k no_record) → stored all (length ys) ys ≡ zs
  stored_whole ys zs e h = ext_get_or no_record _ _ (stored_length (length ys) ys ∙ sym e) (λ k l.
      let l' : k < length ys = omega (arith, stored_length (length ys) ys, l) in
      stored_at ys (length ys) k (omega arith) l' ∙ h k l')
