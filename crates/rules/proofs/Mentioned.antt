-- The identifiers of a table that meets every rule: each that a formula mentions is named, by check 7, and so are variables and what witnesses are for. There are
-- at most 64 of them, by check 4.
use Prim.Native.Nat.{ℕ, ◌≤◌}
use mathlib.Core.Path.{sym, ap, subst}
use mathlib.Core.Bool.{◌&&◌, ◌||◌}
use mathlib.Core.Logic.{⊎_elim}
use native.Mathlib.Omega.{arith}
use lib.Dec.{T, ltb, eqb}
use Rattle.lists.specs.All.{All, In}
use Rattle.lists.proofs.All.{all_imp, in_unmap}
use Rattle.formula.specs.Identifiers.{identifiers}
use Rattle.formula.proofs.Identifiers.{mentions_identifiers}
use Rattle.formula.proofs.Truth.{and_split, or_cases}
use Rattle.table.specs.Rows.{Rows, named, owner_of, machine_number, class_of, refined_by}
use Rattle.table.proofs.Sections.{named_bounds}
use Rattle.machine.specs.Machine.{Witness}
use Rattle.machine.specs.Described.{tree_of, belonging, machine_of}
use Rattle.machine.proofs.Described.{belonging_row, variable_named}
use Rattle.sequent.proofs.Entries.{Root, VariableOf}
use Rattle.rules.specs.Sight.{has_kind, has_variable_kind}
use Rattle.rules.specs.Rules.{named_variable, witness_target}
use Rattle.rules.proofs.Obeys.{Obeys}
use Rattle.rules.proofs.Formed.{root_named}
use Rattle.rules.proofs.Full.{few_identifiers}
use Rattle.rules.proofs.References.{root_row_lem, tree_named}

module _ (t : Rows) (ok : Obeys t) where
  -- a named identifier is one of 1 to 64
  pub identifier_limit_lem : (x : ℕ) → T (named t 10 x) → (1 ≤ x) × (x ≤ 64)
  identifier_limit_lem x h = let b = named_bounds t 10 x h in (b.0, omega (arith, b.1, few_identifiers t ok.full))

  pub node_identifiers : (n : ℕ) → T (named t 20 n) → All (λ x. T (named t 10 x)) (identifiers (tree_of t n))
  node_identifiers n h =
      all_imp
      (λ x s. or_cases (named t 10 x) (named_variable t x) s (λ p. p)
      (λ p. (and_split (named t 10 x) (has_kind t 2 x || has_variable_kind t 3 x) p).0))
      (mentions_identifiers (named t 10) (named_variable t) (tree_of t n) (tree_named t ok n h))

  pub root_identifiers : {r : ℕ} → Root (machine_of t) r → All (λ x. T (named t 10 x)) (identifiers (tree_of t r))
  root_identifiers {r} q = node_identifiers r (root_named t ok q)

  pub variable_identifier : {x : ℕ} → VariableOf (machine_of t) x → T (named t 10 x)
  unfolding machine_of
  variable_identifier {x} v = ⊎_elim (λ i. (variable_named t 2 x i).0) (λ i. (variable_named t 3 x i).0) v

  pub target_identifier : (e : ℕ) {w : Witness} → In w ((machine_of t).witnesses e) → T (named t 10 w.target)
  unfolding machine_of
  target_identifier e {w} j =
      let (i, l, p) = in_unmap (λ i. record { target = t.b i; root = t.c i }) (belonging t 60 e) j in
      let q = belonging_row t 60 e i l in
      subst (λ x. T (named t 10 x)) (ap (λ u. u.target) (sym p)) (target_named (t.a i) (t.b i) (root_row_lem t ok 60 i q.0 q.1 tt).0)
    where
      target_named : (f x : ℕ) → T (witness_target t f x) → T (named t 10 x)
      target_named f x h =
          let event = named t 40 f && (eqb (machine_number t f) 2 && ltb (class_of t f) 2) in
          let fits = has_kind t 2 x || (has_kind t 4 x && eqb (owner_of t x) (refined_by t f)) in
          (and_split (named t 10 x) fits (and_split event (named t 10 x && fits) h).1).0
