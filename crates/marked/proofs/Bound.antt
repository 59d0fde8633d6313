-- P10 by the theorem's own notions: the machine has the convergent step from variant 0 to −1, its bound allows a stretch of one such step, and none of two.
use mathlib.Core.Path.{◌≡◌, refl, sym, ap, subst, ◌∙◌}
use mathlib.Core.List.{[], ◌∷◌, flat_map}
use mathlib.Core.Option.{Option, some}
use Prim.Native.Nat.{ℕ, zero, suc}
use native.Mathlib.Omega.{arith}
use lib.Dec.{T}
use lib.IntN.{ℤ, pos, negsuc}
use Rattle.lists.specs.All.{all_nil, all_cons, In, here, there}
use Rattle.lists.specs.Below.{count_below, first, numbers, keep}
use Rattle.lists.proofs.All.{in_nil}
use Rattle.number.specs.Number.{columns_of}
use Rattle.number.specs.Reading.{number_of, scan_from}
use Rattle.row.specs.Row.{row_bytes}
use Rattle.table.specs.Rows.{section, count, start}
use Rattle.formula.specs.Values.{AnyValue, number}
use Rattle.formula.specs.Evaluate.{read_tree}
use Rattle.machine.specs.Operator.{operator_numbered}
use Rattle.machine.specs.Described.{type_numbered, kind_numbered, role_numbered, tree_to, tree_of, action_of, belonging, variables_of, machine_of}
use Rattle.rules.specs.Decoded.{line_of, words_of}
use Rattle.reply.specs.Printed.{rows_bytes}
use Rattle.run.specs.Run.{blank, Follows}
use Rattle.run.specs.SafeRun.{within_bound, Unbroken, convergent_steps, Bounded, StretchesBounded}
use Rattle.marked.specs.Cases.{falling, with_u, step_to, read_in}

one_step : Follows falling (blank falling) (with_u (pos 0)) (step_to (negsuc 0) ∷ [])
unfolding falling flat_map columns_of number_of scan_from row_bytes rows_bytes line_of words_of machine_of tree_of tree_to start count count_below operator_numbered type_numbered kind_numbered role_numbered action_of first belonging section variables_of numbers keep read_tree
one_step = (there (there (here refl)), tt, record { enabled = all_cons refl all_nil; allowed = all_cons refl all_nil }, tt)

-- the variant is node 8, which is read as 0
variants_are : falling.variants ≡ 8 ∷ []
unfolding falling flat_map columns_of number_of scan_from row_bytes rows_bytes line_of words_of machine_of tree_of tree_to start count count_below operator_numbered type_numbered kind_numbered role_numbered action_of first belonging section variables_of numbers keep
variants_are = refl

variant_is : read_tree (read_in (pos 0)) (falling.tree 8) ≡ some (number (pos 0))
unfolding falling flat_map columns_of number_of scan_from row_bytes rows_bytes line_of words_of machine_of tree_of tree_to start count count_below operator_numbered type_numbered kind_numbered role_numbered action_of first belonging section variables_of numbers keep read_tree
variant_is = refl

-- both steps are convergent
counted_one : convergent_steps falling (step_to (negsuc 0) ∷ []) ≡ 1
unfolding falling flat_map columns_of number_of scan_from row_bytes rows_bytes line_of words_of machine_of start count count_below role_numbered numbers keep
counted_one = refl

counted_two : convergent_steps falling (step_to (negsuc 0) ∷ step_to (negsuc 1) ∷ []) ≡ 2
unfolding falling flat_map columns_of number_of scan_from row_bytes rows_bytes line_of words_of machine_of start count count_below role_numbered numbers keep
counted_two = refl

unbroken_two : Unbroken falling (step_to (negsuc 0) ∷ step_to (negsuc 1) ∷ [])
unfolding falling flat_map columns_of number_of scan_from row_bytes rows_bytes line_of words_of machine_of start count count_below role_numbered numbers
unbroken_two = all_cons tt (all_cons tt all_nil)

one_bounded : Bounded falling (blank falling) (with_u (pos 0)) (convergent_steps falling (step_to (negsuc 0) ∷ []))
one_bounded = rw counted_one (λ l. (8, pos 0, rw variants_are (here refl), variant_is, tt))

one_allowed : StretchesBounded falling (blank falling) (with_u (pos 0)) (step_to (negsuc 0) ∷ [])
unfolding keep
one_allowed zero u = λ l. absurd (omega arith)
one_allowed (suc zero) u = one_bounded
one_allowed (suc (suc n)) u = one_bounded

two_refused : StretchesBounded falling (blank falling) (with_u (pos 0)) (step_to (negsuc 0) ∷ step_to (negsuc 1) ∷ []) → ⊥
two_refused h =
    let (r, v, i, e, t) = subst (Bounded falling (blank falling) (with_u (pos 0))) counted_two (h 2 unbroken_two) (omega arith) in
    let r-is : r ≡ 8 = only (subst (In r) variants_are i) in
    let v-is : v ≡ pos 0 = same_number (sym e ∙ ap (λ r. read_tree (read_in (pos 0)) (falling.tree r)) r-is ∙ variant_is) in
    subst (λ v. T (within_bound 2 v)) v-is t
  where
    only : {r : ℕ} → In r (8 ∷ []) → r ≡ 8
    only (here e) = e
    only (there i) = absurd (in_nil i)

    same_number : {v w : ℤ} → ◌≡◌ {A = Option AnyValue} (some (number v)) (some (number w)) → v ≡ w
    same_number e = cc
