-- The values that a step leaves: the state's, with the variables' after values moved into their places.
use Prim.Native.Nat.{ℕ, ◌+◌, ◌≤◌, ◌<◌}
use mathlib.Core.Path.{◌≡◌, refl, sym, ap, ◌∙◌, subst}
use mathlib.Core.Bool.{Bool, true, false}
use mathlib.Core.List.{List, ◌∷◌}
use native.Mathlib.Omega.{arith}
use lib.Dec.{T}
use lib.IntN.{ℤ, pos}
use lib.ListN.{length, get_or, take, drop, replicate, length-drop}
use lib.Seq.{take_all, length-take-le, get_or-take, get_or-drop, ext_get_or}
use Rattle.lists.specs.Choice.{pick}
use Rattle.lists.specs.All.{All}
use Rattle.lists.proofs.All.{all_in}
use Rattle.formula.proofs.Truth.{true_test}
use Rattle.table.specs.Rows.{Rows, count}
use Rattle.table.proofs.Sections.{named_bounds, bounds_named}
use Rattle.machine.specs.Described.{machine_of}
use Rattle.machine.proofs.Described.{variable_named, named_variable_lem}
use Rattle.recording.specs.Rows.{is_state_variable}
use Rattle.recording.specs.Replay.{Values, moved}
use Rattle.recording.proofs.Values.{Moved, move_moved}
use Rattle.values.specs.Values.{values_of}
use Rattle.bench.specs.State.{value_of, laid, placed, updated}
use Rattle.bench.proofs.State.{map_at, map_size, laid_whole, placed_size, placed_at}

pub placed_is : (zs left : List ℤ) → left ≡ pos 0 ∷ laid zs (replicate 64 (pos 0)) → left ≡ placed zs
unfolding placed
placed_is zs left e = e

module _ (t : Rows) (after zs : List ℤ) (few : count t 10 ≤ 64) (size : length zs ≡ count t 10) (afters : length after ≡ 65) where
  abbrev before : Values
  before = values_of (placed zs) after

  variables_small : All (λ x. x < 65) (machine_of t).concrete_variables
  unfolding machine_of
  variables_small = all_in (machine_of t).concrete_variables (λ x i. let b = named_bounds t 10 x (variable_named t 3 x i).0 in omega (arith, b.1, few))

  all_moved : Moved (machine_of t).concrete_variables before (moved t before)
  all_moved = move_moved (machine_of t).concrete_variables before (record { present = placed_size zs; after = afters }) variables_small

  -- the value of x after the step
  value_moved : (x : ℕ) → 1 ≤ x → x ≤ length zs → get_or (moved t before).present x (pos 0) ≡ pick (is_state_variable t x) (get_or after x (pos 0)) (value_of zs x)
  unfolding machine_of
  value_moved x l h = go (is_state_variable t x) refl
    where
      go : (b : Bool) → is_state_variable t x ≡ b → get_or (moved t before).present x (pos 0) ≡ pick b (get_or after x (pos 0)) (value_of zs x)
      go true v = all_moved.moved x (named_variable_lem t 3 x (bounds_named t 10 x l (omega (arith, h, size))) (true_test _ v))
      go false v = all_moved.others x (λ i. subst T v (variable_named t 3 x i).1) ∙ placed_at zs x l h (omega (arith, few, size))

  pub updated_is : (left next : List ℤ) → left ≡ placed zs → values_of next after ≡ moved t (values_of left after) → laid (take 64 (drop 1 next)) zs ≡ updated t after zs
  unfolding updated
  updated_is left next p q =
      let f : ℕ → ℤ = λ x. pick (is_state_variable t x) (get_or after x (pos 0)) (value_of zs x) in
      let is : next ≡ (moved t before).present = ap (λ (vs : Values). vs.present) (q ∙ ap (λ ps. moved t (values_of ps after)) p) in
      let whole : length next ≡ 65 = ap length is ∙ all_moved.size.present in
      let rest : length (drop 1 next) ≡ 64 = length-drop 1 next ∙ omega (arith, whole) in
      let taken : length (take (length zs) (drop 1 next)) ≡ length zs = length-take-le (length zs) (drop 1 next) (omega (arith, rest, size, few)) in
      ap (λ ys. laid ys zs) (take_all 64 (drop 1 next) (omega (arith, rest))) ∙ laid_whole (drop 1 next) zs (omega (arith, rest, size, few))
      ∙ ext_get_or (pos 0) (take (length zs) (drop 1 next)) (updated t after zs) (taken ∙ sym (map_size f (length zs) 1))
      (λ i h. get_or-take (length zs) (drop 1 next) i (pos 0) (omega (arith, h, taken)) ∙ get_or-drop 1 next i (pos 0) ∙ ap (λ ps. get_or ps (1 + i) (pos 0)) is
      ∙ value_moved (1 + i) (omega arith) (omega (arith, h, taken)) ∙ sym (map_at f (length zs) 1 i (pos 0) (omega (arith, h, taken))))
