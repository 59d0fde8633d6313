-- A state's records after a step: their values and types, and the constants and the state that they show.
use Prim.Native.Nat.{ℕ, ◌-◌, ◌≤◌}
use mathlib.Core.Path.{◌≡◌, refl, ap, ap₂, ◌∙◌}
use mathlib.Core.Bool.{Bool, true, false}
use mathlib.Core.List.{List, [], ◌∷◌, map, map-map}
use native.Mathlib.Omega.{arith}
use lib.Dec.{T, eqb, eqb→eq}
use lib.IntN.{ℤ, pos}
use lib.ListN.{length, get_or, length-map}
use Rattle.lists.specs.Choice.{pick}
use Rattle.lists.specs.Below.{numbers}
use Rattle.lists.proofs.All.{map_same}
use Rattle.lists.proofs.Below.{in_numbers}
use Rattle.formula.specs.Values.{wrap}
use Rattle.formula.proofs.Truth.{and_split, and_join, test_true, true_test, eq→eqb}
use Rattle.answer.specs.Stored.{stored_value}
use Rattle.table.specs.Names.{is_variable_of}
use Rattle.table.specs.Rows.{Rows, count, named, kind_of, type_of}
use Rattle.table.proofs.Sections.{named_bounds, bounds_named}
use Rattle.machine.specs.Machine.{Machine}
use Rattle.machine.specs.Described.{machine_of}
use Rattle.run.specs.Run.{State, blank}
use Rattle.recording.specs.Rows.{is_state_variable}
use Rattle.recording.specs.Recorded.{logged_value}
use Rattle.recording.proofs.Steps.{logged_variable, logged_constant}
use Rattle.bench.specs.declared.Record.{Record}
use Rattle.bench.specs.State.{values_in, types_in, value_of, is_of_type, is_right, IsState, updated, with_values_of}
use Rattle.bench.specs.Press.{number_in}
use Rattle.bench.specs.Pressed.{state_of, left, records_of}
use Rattle.bench.proofs.State.{map_at, map_size}
use Rattle.bench.proofs.Numbers.{number_stored, number_of_type}
use Rattle.bench.proofs.Performed.{Shows}

-- ---- records with other values
pub with_values : (zs : List ℤ) (rs : List Record) → length zs ≡ length rs → values_in (with_values_of zs rs) ≡ zs
unfolding values_in with_values_of
with_values [] rs h = refl
with_values (z ∷ zs) [] h = absurd (omega (arith, h))
with_values (z ∷ zs) (r ∷ rs) h = ap (λ ys. z ∷ ys) (with_values zs rs (omega (arith, h)))

pub with_types : (zs : List ℤ) (rs : List Record) → length zs ≡ length rs → types_in (with_values_of zs rs) ≡ types_in rs
unfolding types_in with_values_of
with_types [] [] h = refl
with_types [] (r ∷ rs) h = absurd (omega (arith, h))
with_types (z ∷ zs) [] h = absurd (omega (arith, h))
with_types (z ∷ zs) (r ∷ rs) h = ap (λ ns. r.sort ∷ ns) (with_types zs rs (omega (arith, h)))

pub values_length : (rs : List Record) → length (values_in rs) ≡ length rs
unfolding values_in
values_length rs = length-map rs (λ r. r.value)

-- the value of x in a list that is made by number
pub value_by : (f : ℕ → ℤ) (n x : ℕ) → 1 ≤ x → x ≤ n → value_of (map f (numbers n 1)) x ≡ f x
value_by f n x l h = map_at f n 1 (x - 1) (pos 0) (omega (arith, l, h)) ∙ ap f (omega (arith, l))

module _ (t : Rows) where
  abbrev machine : Machine
  machine = machine_of t

  number_typed : (x : ℕ) (v : State machine) → is_of_type (type_of t x) (number_in (wrap (machine.type x) (v x))) ≡ true
  unfolding machine_of
  number_typed x v = number_of_type (type_of t x) (v x)

  -- ---- what a step leaves
  module _ (k : State machine) (zs : List ℤ) (types : List ℕ) (right : IsState t zs types) where
    pub left_length : length (left t k zs) ≡ length zs
    unfolding left
    left_length = map_size _ (length zs) 1

    left_value : (x : ℕ) → 1 ≤ x → x ≤ count t 10 → value_of (left t k zs) x ≡ pick (is_state_variable t x) (number_in (wrap (machine.type x) (k x))) (value_of zs x)
    unfolding left
    left_value x l h = value_by _ (length zs) x l (let size = right.size in omega (arith, h, size))

    pub left_state : IsState t (left t k zs) types
    left_state = record {
      size = left_length ∙ right.size;
      sorts = right.sorts;
      records = λ x l h. ap (λ z. is_right t x z (get_or types (x - 1) 0)) (left_value x l h) ∙ go x (is_state_variable t x) (right.records x l h);
    }
      where
        go : (x : ℕ) (b : Bool) → is_right t x (value_of zs x) (get_or types (x - 1) 0) ≡ true
            → is_right t x (pick b (number_in (wrap (machine.type x) (k x))) (value_of zs x)) (get_or types (x - 1) 0) ≡ true
        go x true h =
            let sort = get_or types (x - 1) 0 in
            let p = and_split (eqb sort (type_of t x)) (is_of_type sort (value_of zs x)) (true_test _ h) in
            test_true _ (and_join (eqb sort (type_of t x)) (is_of_type sort (number_in (wrap (machine.type x) (k x)))) p.0
            (true_test _ (ap (λ n. is_of_type n (number_in (wrap (machine.type x) (k x)))) (eqb→eq sort (type_of t x) p.0) ∙ number_typed x k)))
        go x false h = h

    pub left_shows : (c s : State machine) → Shows t zs c s → Shows t (left t k zs) c k
    unfolding state_of
    left_shows c s shows = record {
      constants = λ x n i. let b = named_bounds t 10 x n in
          ap (stored_value (machine.type x)) (left_value x b.0 b.1 ∙ ap (λ b. pick b (number_in (wrap (machine.type x) (k x))) (value_of zs x)) (unlike x i)) ∙ shows.constants x n i;
      variables = λ x n v. let b = named_bounds t 10 x n in
          ap (stored_value (machine.type x)) (left_value x b.0 b.1 ∙ ap (λ b. pick b (number_in (wrap (machine.type x) (k x))) (value_of zs x)) (test_true (is_state_variable t x) v)) ∙ number_stored (machine.type x) (k x);
    }
      where
        unlike : (x : ℕ) → kind_of t x ≡ 1 → is_state_variable t x ≡ false
        unlike x i = ap (is_variable_of 3) i

  -- only the variables' values count
  pub left_same : (j k : State machine) (zs : List ℤ) (types : List ℕ) → IsState t zs types → ((x : ℕ) → T (named t 10 x) → T (is_state_variable t x) → j x ≡ k x) → left t j zs ≡ left t k zs
  unfolding left
  left_same j k zs types right h = map_same _ _ (numbers (length zs) 1) (λ x i.
      let b = in_numbers (length zs) 1 x i in
      let size = right.size in
      go x (is_state_variable t x) refl (bounds_named t 10 x b.0 (omega (arith, b.1, size))))
    where
      go : (x : ℕ) (b : Bool) → is_state_variable t x ≡ b → T (named t 10 x)
          → pick b (number_in (wrap (machine.type x) (j x))) (value_of zs x) ≡ pick b (number_in (wrap (machine.type x) (k x))) (value_of zs x)
      go x true v n = ap (λ v. number_in (wrap (machine.type x) v)) (h x n (true_test _ v))
      go x false v n = refl

  -- the value of a variable after a step
  pub updated_value : (us zs : List ℤ) (types : List ℕ) → IsState t zs types → (x : ℕ) → T (named t 10 x) → T (is_state_variable t x) → value_of (updated t us zs) x ≡ get_or us x (pos 0)
  unfolding updated
  updated_value us zs types right x n v =
      let b = named_bounds t 10 x n in
      let size = right.size in
      value_by _ (length zs) x b.0 (omega (arith, b.1, size)) ∙ ap (λ b. pick b (get_or us x (pos 0)) (value_of zs x)) (test_true (is_state_variable t x) v)

  -- ---- the records of constants and a state
  module _ (c k : State machine) where
    abbrev shown : ℕ → ℤ
    shown x = number_in (wrap (machine.type x) (logged_value t c (blank machine) k x))

    shown_values : values_in (records_of t c k) ≡ map shown (numbers (count t 10) 1)
    unfolding values_in records_of
    shown_values = map-map (λ (r : Record). r.value) (λ x. record { value = shown x; sort = type_of t x }) (numbers (count t 10) 1)

    shown_types : types_in (records_of t c k) ≡ map (type_of t) (numbers (count t 10) 1)
    unfolding types_in records_of
    shown_types = map-map (λ (r : Record). r.sort) (λ x. record { value = shown x; sort = type_of t x }) (numbers (count t 10) 1)

    shown_value : (x : ℕ) → 1 ≤ x → x ≤ count t 10 → value_of (values_in (records_of t c k)) x ≡ shown x
    shown_value x l h = ap (λ zs. value_of zs x) shown_values ∙ value_by shown (count t 10) x l h

    pub records_state : IsState t (values_in (records_of t c k)) (types_in (records_of t c k))
    records_state = record {
      size = ap length shown_values ∙ map_size shown (count t 10) 1;
      sorts = ap length shown_types ∙ map_size (type_of t) (count t 10) 1;
      records = λ x l h.
          let sort : get_or (types_in (records_of t c k)) (x - 1) 0 ≡ type_of t x =
          ap (λ ns. get_or ns (x - 1) 0) shown_types ∙ map_at (type_of t) (count t 10) 1 (x - 1) 0 (omega (arith, l, h)) ∙ ap (type_of t) (omega (arith, l)) in
          ap₂ (is_right t x) (shown_value x l h) sort
          ∙ test_true _ (and_join (eqb (type_of t x) (type_of t x)) (is_of_type (type_of t x) (shown x)) (eq→eqb (type_of t x) (type_of t x) refl)
          (true_test _ (number_typed x (logged_value t c (blank machine) k))));
    }

    pub records_show : Shows t (values_in (records_of t c k)) c k
    unfolding state_of
    records_show = record {
      constants = λ x n i. let b = named_bounds t 10 x n in
          ap (stored_value (machine.type x)) (shown_value x b.0 b.1) ∙ number_stored (machine.type x) (logged_value t c (blank machine) k x) ∙ logged_constant t c (blank machine) k x i;
      variables = λ x n v. let b = named_bounds t 10 x n in
          ap (stored_value (machine.type x)) (shown_value x b.0 b.1) ∙ number_stored (machine.type x) (logged_value t c (blank machine) k x) ∙ logged_variable t c (blank machine) k x v;
    }
