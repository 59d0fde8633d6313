-- No stand-in is used for a table that meets every rule: each of its nodes has a known operator and operands that are earlier nodes, so its tree is the
-- formula that the nodes form. By recursion on a bound of the node's number.
use Prim.Native.Nat.{ℕ, zero, suc, ◌≤◌, ◌<◌}
use mathlib.Core.Path.{◌≡◌, refl, sym, ap, ◌∙◌, subst}
use mathlib.Core.Bool.{◌&&◌}
use mathlib.Core.List.{List, [], ◌∷◌, ◌++◌, map}
use mathlib.Core.Logic.{inl, inr}
use native.Mathlib.Omega.{arith}
use lib.Dec.{T, eqb}
use Rattle.std.specs.Prelude.{Ok}
use Rattle.lists.specs.All.{All, all_nil, all_cons, In}
use Rattle.lists.proofs.All.{all_join, all_imp, in_unmap}
use Rattle.formula.proofs.Truth.{and_split}
use Rattle.table.specs.Rows.{Rows, section, named, row_of, operator_of, left_of, right_of}
use Rattle.table.specs.Lookups.{operand_node}
use Rattle.table.proofs.Sections.{section_row, named_bounds}
use Rattle.machine.specs.Operator as meaning
use Rattle.machine.specs.Operator.{Operator, literalOf, identifierOf, after_of, constant_of, unary_of, binary_of, division_of, connective_of, operator_numbered}
use Rattle.machine.specs.Machine.{Action, unassigned, becomes_equal, becomes_such_that}
use Rattle.machine.specs.Described.{node, tree_of, action_of, belonging, machine_of}
use Rattle.machine.specs.Node.{Formed, of_literal, of_identifier, of_after, of_constant, of_unary, of_binary, of_division, of_connective}
use Rattle.machine.proofs.Described.{tree_step, belonging_row, action_row_lem}
use Rattle.machine.proofs.Node.{operand_earlier}
use Rattle.sequent.specs.Entry.{Entry}
use Rattle.sequent.specs.Formed.{ActionRoot, HasFormula, EntryFormed}
use Rattle.sequent.specs.Sequent.{Sequent}
use Rattle.sequent.specs.Listed.{sequents}
use Rattle.sequent.proofs.Entries.{Root, axiom_root, abstract_invariant_root, concrete_invariant_root, variant_root, guard_root, action_root, root_of_witness}
use Rattle.sequent.proofs.Entries.{EntryOf, of_written, of_primed, of_defined, of_moves, of_feasible, of_witnessed, of_natural, of_decreases, of_not_increased, of_unchanged}
use Rattle.sequent.proofs.Entries.{action_root_has, witness_for, listed_made}
use Rattle.rules.specs.Decoded.{decoded}
use Rattle.rules.specs.Verdict.{verdict}
use Rattle.rules.specs.Offence.{machine}
use Rattle.rules.proofs.Accepted.{accepted_none, none_obeys}
use Rattle.rules.specs.Sorts.{shape}
use Rattle.rules.specs.Rules.{earlier_node, good_columns}
use Rattle.rules.proofs.Obeys.{Obeys}
use Rattle.rules.proofs.References.{root_tag, root_of, root_row_lem, node_row, earlier_operand}

module _ (t : Rows) (ok : Obeys t) where
  -- a node whose earlier nodes are formed
  module _ (n : ℕ) (h : T (named t 20 n)) (earlier : (m : ℕ) → m < n → T (named t 20 m) → Formed t m (tree_of t m)) where
    abbrev i : ℕ
    i = row_of t 20 n

    operand_formed : (m : ℕ) → T (earlier_node t i m) → (m < n) × Formed t m (tree_of t (operand_node n m))
    operand_formed m e =
        let r = earlier_operand t ok n m h e in
        let same = operand_earlier n m (named_bounds t 20 m r.0).0 r.1 in
        (r.1, subst (λ x. Formed t m (tree_of t x)) (sym same) (earlier m r.1 r.0))

    operands_formed : T (earlier_node t i (left_of t n) && earlier_node t i (right_of t n))
        → (left_of t n < n) × Formed t (left_of t n) (tree_of t (operand_node n (left_of t n))) × (right_of t n < n) × Formed t (right_of t n) (tree_of t (operand_node n (right_of t n)))
    operands_formed g =
        let s = and_split (earlier_node t i (left_of t n)) (earlier_node t i (right_of t n)) g in
        let l = operand_formed (left_of t n) s.0 in
        let r = operand_formed (right_of t n) s.1 in
        (l.0, l.1, r.0, r.1)

    node_formed : (o : Operator) → operator_numbered (operator_of t n) ≡ o → T (good_columns t (shape o) i)
        → Formed t n (node o (left_of t n) (tree_of t (operand_node n (left_of t n))) (tree_of t (operand_node n (right_of t n))))
    node_formed literalOf e g = of_literal (record { node = h; operator = e })
    node_formed identifierOf e g = of_identifier (record { node = h; operator = e })
    node_formed after_of e g = of_after (record { node = h; operator = e })
    node_formed (constant_of c) e g = of_constant (record { node = h; operator = e })
    node_formed (unary_of o) e g =
        let s = and_split (earlier_node t i (left_of t n)) (eqb (t.c i) 0) g in
        let l = operand_formed (left_of t n) s.0 in
        of_unary (record { node = h; operator = e }) l.0 l.1
    node_formed (binary_of o) e g = let s = operands_formed g in of_binary (record { node = h; operator = e }) s.0 s.1 s.2 s.3
    node_formed (division_of o) e g = let s = operands_formed g in of_division (record { node = h; operator = e }) s.0 s.1 s.2 s.3
    node_formed (connective_of o) e g = let s = operands_formed g in of_connective (record { node = h; operator = e }) s.0 s.1 s.2 s.3
    node_formed meaning.unknown e g = absurd g

  formed_to : (d n : ℕ) → n ≤ d → T (named t 20 n) → Formed t n (tree_of t n)
  formed_to zero n l h = absurd (omega (arith, (named_bounds t 20 n h).0))
  formed_to (suc d) n l h =
      subst (Formed t n) (sym (tree_step t n (named_bounds t 20 n h).0))
      (node_formed n h (λ m k g. formed_to d m (omega arith) g) (operator_numbered (operator_of t n)) refl (node_row t ok n h))

  pub node_has_formula : (n : ℕ) → T (named t 20 n) → Formed t n (tree_of t n)
  node_has_formula n h = formed_to n n (omega arith) h

  -- the root that a row names is a node
  row_root : (k i : ℕ) → i < t.size → t.tag i ≡ k → T (root_tag k) → (r : ℕ) → root_of t k i ≡ r → T (named t 20 r)
  row_root k i h e tag r q = subst (λ r. T (named t 20 r)) q (root_row_lem t ok k i h e tag).1

  formula_named : (k : ℕ) → T (root_tag k) → ((i : ℕ) → root_of t k i ≡ t.a i) → {r : ℕ} → In r (map t.a (section t k)) → T (named t 20 r)
  formula_named k tag same {r} j =
      let (i, l, e) = in_unmap t.a (section t k) j in
      let q = section_row t k i l in
      row_root k i q.0 q.1 tag r (same i ∙ sym e)

  pub root_named : {r : ℕ} → Root (machine_of t) r → T (named t 20 r)
  unfolding machine_of
  root_named (axiom_root j) = formula_named 30 tt (λ i. refl) j
  root_named (abstract_invariant_root j) = formula_named 31 tt (λ i. refl) j
  root_named (concrete_invariant_root j) = formula_named 32 tt (λ i. refl) j
  root_named (variant_root j) = formula_named 70 tt (λ i. refl) j
  root_named (guard_root e {r} j) =
      let (i, l, p) = in_unmap t.b (belonging t 50 e) j in
      let q = belonging_row t 50 e i l in
      row_root 50 i q.0 q.1 tt r (sym p)
  root_named (action_root e x {r} a) =
      action_root_has (λ r. T (named t 20 r)) (action_of t e x)
      (action_row_lem t e x (ActionRoot (λ r. T (named t 20 r))) (λ i by. row_root 51 i by.inside by.tag_is tt _ refl)
      (λ i by. row_root 52 i by.inside by.tag_is tt _ refl) (λ none. tt)) a
  root_named (root_of_witness e {w} j) =
      let (i, l, p) = in_unmap (λ i. record { target = t.b i; root = t.c i }) (belonging t 60 e) j in
      let q = belonging_row t 60 e i l in
      row_root 60 i q.0 q.1 tt w.root (ap (λ u. u.root) (sym p))

  -- every root that the machine names has a formula, and every entry of its sequents is formed
  pub root_has_formula : {r : ℕ} → Root (machine_of t) r → HasFormula t (machine_of t) r
  unfolding machine_of
  root_has_formula {r} q = node_has_formula r (root_named q)

  action_formed : (e x : ℕ) → ActionRoot (HasFormula t (machine_of t)) ((machine_of t).action e x)
  action_formed e x = go ((machine_of t).action e x) refl
    where
      go : (a : Action) → (machine_of t).action e x ≡ a → ActionRoot (HasFormula t (machine_of t)) a
      go unassigned q = tt
      go (becomes_equal r) q = root_has_formula (action_root e x (inl q))
      go (becomes_such_that r) q = root_has_formula (action_root e x (inr q))

  entry_formed : (h : Entry) → EntryOf (machine_of t) h → EntryFormed t (machine_of t) h
  entry_formed h (of_written q) = root_has_formula q
  entry_formed h (of_primed q) = root_has_formula q
  entry_formed h (of_defined q) = root_has_formula q
  entry_formed h (of_moves {e} {x} q v) = action_formed e x
  entry_formed h (of_feasible {e} {x} q v) = action_formed e x
  entry_formed h (of_witnessed {e} q i) =
      let f = witness_for ((machine_of t).witnesses e) i in
      (f, subst (HasFormula t (machine_of t)) (sym f.root) (root_has_formula (root_of_witness e f.listed)))
  entry_formed h (of_natural q) = root_has_formula q
  entry_formed h (of_decreases q) = root_has_formula q
  entry_formed h (of_not_increased q) = root_has_formula q
  entry_formed h (of_unchanged v) = tt

  pub entries_formed : {s : Sequent} → In s (sequents (machine_of t)) → All (EntryFormed t (machine_of t)) (s.hypotheses ++ (s.goal ∷ []))
  entries_formed i =
      let s = listed_made (machine_of t) i in all_join (all_imp entry_formed s.hypotheses) (all_cons (entry_formed _ s.goal) all_nil)

-- for an accepted table no stand-in shows in a formula of a listed sequent
pub accepted_formed : (bytes : List ℕ) (n : ℕ) → verdict bytes ≡ Ok n → {s : Sequent} → In s (sequents (machine bytes))
    → All (EntryFormed (decoded bytes) (machine bytes)) (s.hypotheses ++ (s.goal ∷ []))
accepted_formed bytes n v i = entries_formed (decoded bytes) (none_obeys bytes (accepted_none bytes n v).0) i
