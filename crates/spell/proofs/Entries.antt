-- The rows of an entry by its form, from the rows of its root, its action or its witness.
use Prim.Native.Nat.{ℕ, zero, suc, ◌≤◌, ◌<◌}
use mathlib.Core.Path.{◌≡◌, refl, sym, ap, ◌∙◌}
use mathlib.Core.Bool.{Bool, true, false}
use mathlib.Core.List.{◌∷◌, ◌++◌}
use native.Mathlib.Omega.{arith}
use lib.ListN.{get_or, get_or-eq_default}
use Rattle.lists.specs.Choice.{pick}
use Rattle.formula.specs.Tree.{Tree}
use Rattle.formula.specs.Formula.{some_value, some_after_value}
use Rattle.table.specs.Rows.{Rows}
use Rattle.table.specs.Lookups.{is_variable_number}
use Rattle.machine.specs.Described.{machine_of}
use Rattle.machine.proofs.Variables.{variable_numbered}
use Rattle.sequent.specs.declared.Entry.{Entry as Numbers}
use Rattle.sequent.specs.Entry.{Entry, written, variable, formula}
use Rattle.sequent.specs.Forms.{forms, entry_of}
use Rattle.reply.specs.Spelled.{spelled, spell_tree, spell}
use Rattle.spell.specs.Spell.{unchanged_rows, shown_rows, defined_rows, moves_rows, witness_node, entry_rows}

-- a number that is no form from 2 to 10 counts as form 1
other_form : (n : ℕ) → (2 ≤ n → 10 < n) → (λ a b. written a) ≡ get_or forms n (λ a b. written a)
other_form zero h = refl
other_form (suc zero) h = refl
other_form (suc (suc n)) h = sym (get_or-eq_default forms (λ a b. written a) {n = suc (suc n)} (omega (arith, h (omega arith))))

some_rows : (v : Bool) (x : ℕ) (a : Tree) → spelled (pick v 41 40) x ∷ spell_tree a ≡ spell (pick v (some_after_value x a) (some_value x a))
unfolding spell
some_rows true x a = refl
some_rows false x a = refl

module _ (t : Rows) (h : Numbers) where
  form_as : (f : ℕ → ℕ → Entry) → f ≡ get_or forms h.form (λ a b. written a) → spell (formula (machine_of t) (f h.first h.second)) ≡ entry_rows t h
  unfolding entry_rows entry_of
  form_as f e = ap (λ f. spell (formula (machine_of t) (f h.first h.second))) e

  form_numbered : (k : ℕ) → h.form ≡ k → spell (formula (machine_of t) (get_or forms k (λ a b. written a) h.first h.second)) ≡ entry_rows t h
  form_numbered k e = form_as (get_or forms k (λ a b. written a)) (ap (λ k. get_or forms k (λ a b. written a)) (sym e))

  pub written_rows : (2 ≤ h.form → 10 < h.form) → shown_rows t false h.first ≡ entry_rows t h
  unfolding shown_rows spell machine_of
  written_rows f = form_as (λ a b. written a) (other_form h.form f)

  pub primed_rows : h.form ≡ 2 → shown_rows t true h.first ≡ entry_rows t h
  unfolding shown_rows spell machine_of
  primed_rows e = form_numbered 2 e

  pub defined_rows_lem : h.form ≡ 3 → defined_rows t h.first ≡ entry_rows t h
  unfolding defined_rows spell machine_of
  defined_rows_lem e = form_numbered 3 e

  pub moves_rows_lem : h.form ≡ 4 → moves_rows t h.first h.second ≡ entry_rows t h
  unfolding moves_rows spell
  moves_rows_lem e = form_numbered 4 e

  pub feasible_rows : h.form ≡ 5 → spelled 41 h.second ∷ moves_rows t h.first h.second ≡ entry_rows t h
  unfolding moves_rows spell
  feasible_rows e = form_numbered 5 e

  pub witnessed_rows : h.form ≡ 6
      → spelled (pick (is_variable_number t h.second) 41 40) h.second ∷ shown_rows t false (witness_node t h.first h.second) ≡ entry_rows t h
  unfolding shown_rows witness_node machine_of
  witnessed_rows e =
      let a = (machine_of t).tree (witness_node t h.first h.second) in
      ap (λ v. spelled (pick v 41 40) h.second ∷ spell_tree a) (sym (variable_numbered t h.second))
      ∙ some_rows (variable (machine_of t) h.second) h.second a
      ∙ form_numbered 6 e

  pub natural_rows_lem : h.form ≡ 7 → spelled 22 0 ∷ spelled 1 0 ∷ shown_rows t false h.first ≡ entry_rows t h
  unfolding shown_rows spell spell_tree machine_of
  natural_rows_lem e = form_numbered 7 e

  pub decreases_rows : h.form ≡ 8 → (spelled 21 0 ∷ shown_rows t true h.first) ++ shown_rows t false h.first ≡ entry_rows t h
  unfolding shown_rows spell spell_tree machine_of
  decreases_rows e = form_numbered 8 e

  pub not_increased_rows : h.form ≡ 9 → (spelled 22 0 ∷ shown_rows t true h.first) ++ shown_rows t false h.first ≡ entry_rows t h
  unfolding shown_rows spell spell_tree machine_of
  not_increased_rows e = form_numbered 9 e

  pub unchanged_rows_lem : h.form ≡ 10 → unchanged_rows h.first ≡ entry_rows t h
  unfolding spell spell_tree
  unchanged_rows_lem e = form_numbered 10 e
