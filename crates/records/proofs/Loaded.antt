-- What is loaded: the first values and types of the list, in arrays of 65, whatever its length. By turns: a turn changes one place, and leaves those before it.
use mathlib.Core.Path.{◌≡◌, refl, sym, ap, ◌∙◌}
use mathlib.Core.Bool.{Bool, true, false}
use mathlib.Core.List.{List}
use Prim.Native.Nat.{ℕ, zero, suc, ◌<◌, ◌≤◌}
use native.Mathlib.Nat.{not-suc-le-zero}
use native.Mathlib.Omega.{arith}
use borrow.Author.Tests.{lt-ltb, eqb-true, eqb-false}
use lib.Dec.{eqb}
use lib.IntN.{pos}
use lib.ListN.{length, get_or, set, take, length-set, length-replicate, length-map, get_or-map}
use lib.Seq.{get_or-set_same, get_or-set_other, get_or-take, length-take-le, ext_get_or}
use Rattle.bench.specs.declared.Record.{Record}
use Rattle.bench.specs.State.{values_in, types_in}
use Rattle.records.specs.Numbers.{no_record, with_record, loaded, record_at, no_numbers}
use Rattle.records.specs.declared.Numbers.{Numbers}

-- both arrays have all their places
pub record Full (all : Numbers) : Type 0 where
  pub values : length all.values ≡ 65
  pub sorts : length all.sorts ≡ 65

put_in : (all : Numbers) (i : ℕ) (r : Record) → i < 65 → with_record all i r ≡ record { values = set all.values i r.value; sorts = set all.sorts i r.sort }
put_in all i r h = simp (lt-ltb i 65 h)

pub at_in : (all : Numbers) (i : ℕ) → i < 65 → record_at all i ≡ record { value = get_or all.values i (pos 0); sort = get_or all.sorts i 0 }
at_in all i h = simp (lt-ltb i 65 h)

module _ (all : Numbers) (i : ℕ) (r : Record) (h : i < 65) where
  full_put : Full all → Full (with_record all i r)
  full_put f = rw (put_in all i r h) (record { values = length-set all.values i r.value ∙ f.values; sorts = length-set all.sorts i r.sort ∙ f.sorts })

  at_same : Full all → record_at (with_record all i r) i ≡ r
  at_same f =
      let a : i < length all.values = omega (arith, f.values) in
      let b : i < length all.sorts = omega (arith, f.sorts) in
      at_in (with_record all i r) i h ∙ ap (λ (v : Numbers). record { value = get_or v.values i (pos 0); sort = get_or v.sorts i 0 }) (put_in all i r h)
      ∙ simp (get_or-set_same all.values i r.value (pos 0) a, get_or-set_same all.sorts i r.sort 0 b)

  at_other : (k : ℕ) → k < 65 → (k ≡ i → ⊥) → record_at (with_record all i r) k ≡ record_at all k
  at_other k l f =
      at_in (with_record all i r) k l ∙ ap (λ (v : Numbers). record { value = get_or v.values k (pos 0); sort = get_or v.sorts k 0 }) (put_in all i r h)
      ∙ (simp (get_or-set_other all.values i k r.value (pos 0) f, get_or-set_other all.sorts i k r.sort 0 f) (sym (at_in all k l)))

module _ (ys : List Record) where
  pub full_loaded : (n : ℕ) → n ≤ 65 → Full (loaded n ys)
  unfolding loaded no_numbers
  full_loaded zero h = record { values = length-replicate 65 (pos 0); sorts = length-replicate {A = ℕ} 65 0 }
  full_loaded (suc n) h = full_put (loaded n ys) n (get_or ys n no_record) h (full_loaded n (omega arith))

  pub at_loaded : (n k : ℕ) → n ≤ 65 → k < n → record_at (loaded n ys) k ≡ get_or ys k no_record
  unfolding loaded
  at_loaded zero k h l = absurd (not-suc-le-zero l)
  at_loaded (suc n) k h l = by (eqb k n) refl (at_loaded n k (omega arith))
    where
      by : (t : Bool) → eqb k n ≡ t → (k < n → record_at (loaded n ys) k ≡ get_or ys k no_record) → record_at (with_record (loaded n ys) n (get_or ys n no_record)) k ≡ get_or ys k no_record
      by true e so = let q : k ≡ n = eqb-true k n e in ap (record_at (with_record (loaded n ys) n (get_or ys n no_record))) q ∙ at_same (loaded n ys) n (get_or ys n no_record) h (full_loaded n (omega arith)) ∙ ap (λ (j : ℕ). get_or ys j no_record) (sym q)
      by false e so = let q : k ≡ n → ⊥ = eqb-false k n e in at_other (loaded n ys) n (get_or ys n no_record) h k (omega arith) q ∙ so (omega arith)

  -- the first n numbers are n, as there are places for them
  module _ (n : ℕ) (h : n ≤ 65) where
    pub taken_values : length (take n (loaded n ys).values) ≡ n
    taken_values = let f = (full_loaded n h).values in length-take-le n (loaded n ys).values (omega (arith, f, h))

    pub taken_sorts : length (take n (loaded n ys).sorts) ≡ n
    taken_sorts = let f = (full_loaded n h).sorts in length-take-le n (loaded n ys).sorts (omega (arith, f, h))

  pub length_values : length (values_in ys) ≡ length ys
  unfolding values_in
  length_values = length-map ys (λ r. r.value)

  length_types : length (types_in ys) ≡ length ys
  unfolding types_in
  length_types = length-map ys (λ r. r.sort)

  value_at_lem : (k : ℕ) → get_or (values_in ys) k (pos 0) ≡ (get_or ys k no_record).value
  unfolding values_in
  value_at_lem k = get_or-map (λ (r : Record). r.value) ys k no_record

  type_at : (k : ℕ) → get_or (types_in ys) k 0 ≡ (get_or ys k no_record).sort
  unfolding types_in
  type_at k = get_or-map (λ (r : Record). r.sort) ys k no_record

  -- the whole list, where there are places for it
  module _ (h : length ys ≤ 65) where
    abbrev all : Numbers
    all = loaded (length ys) ys

    told : (k : ℕ) → k < length ys → record { value = get_or all.values k (pos 0); sort = get_or all.sorts k 0 } ≡ get_or ys k no_record
    told k l = sym (at_in all k (omega (arith, h, l))) ∙ at_loaded (length ys) k h l

    pub values_loaded : take (length ys) all.values ≡ values_in ys
    values_loaded = ext_get_or (pos 0) _ _ (taken_values (length ys) h ∙ sym length_values) (λ k l.
        let l' : k < length ys = omega (arith, taken_values (length ys) h, l) in
        get_or-take (length ys) all.values k (pos 0) l' ∙ ap (λ (r : Record). r.value) (told k l') ∙ sym (value_at_lem k))

    pub sorts_loaded : take (length ys) all.sorts ≡ types_in ys
    sorts_loaded = ext_get_or 0 _ _ (taken_sorts (length ys) h ∙ sym length_types) (λ k l.
        let l' : k < length ys = omega (arith, taken_sorts (length ys) h, l) in
        get_or-take (length ys) all.sorts k 0 l' ∙ ap (λ (r : Record). r.sort) (told k l') ∙ sym (type_at k))
