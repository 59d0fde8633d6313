-- 02, request 2. Form 10 is met where "after equals before", and nowhere else. "Form 4 of it stands once among hypotheses, that of the concrete event": among
-- the hypotheses of a required sequent form 4 is that of the sequent's own event, and each variable has it once. Constructor by constructor, since what stands
-- beside the moves is of form 1.
use mathlib.Core.Path.{◌≡◌, refl, sym, ap, ap₂, ◌∙◌}
use mathlib.Core.Bool.{Bool, true, false, true≢false, not}
use mathlib.Core.List.{List, [], ◌∷◌, ◌++◌, map, map-append, append-nil}
use Prim.Native.Nat.{ℕ}
use Rattle.lists.specs.Choice.{pick}
use Rattle.lists.specs.Below.{keep}
use Rattle.lists.specs.Pairwise.{pairwise_nil}
use Rattle.lists.proofs.Distinct.{Distinct, pairwise_left}
use Rattle.lists.proofs.Flat.{keep_join}
use Rattle.formula.specs.Values.{wrap}
use Rattle.formula.specs.Evaluate.{Env, evaluate}
use Rattle.formula.proofs.Values.{wrap_injective, equal_value_eq, eq_equal_value}
use Rattle.table.specs.Rows.{Rows}
use Rattle.machine.specs.Machine.{Role, Machine, unshared_variables}
use Rattle.machine.specs.Machine.{abstract_initialisation, abstract_ordinary, concrete_initialisation, refining, convergent, anticipated}
use Rattle.machine.specs.Described.{machine_of}
use Rattle.machine.proofs.Variables.{abstract_distinct, variables_apart}
use Rattle.sequent.specs.Entry.{Entry, written, primed, defined, moves, feasible, witnessed, natural, decreases, not_increased, unchanged, variable}
use Rattle.sequent.specs.Sequent.{Sequent, Meets}
use Rattle.sequent.specs.Required.{is_new, is_concrete, is_initialisation, as_written, axioms_invariants, base_of, own_variables, base_guards, moves_of, witnesses_of, parameter_witnesses_of}
use Rattle.sequent.specs.Required.{Obligation, Required, wd_formula, wd_variant, wd_guard, wd_action, fis, wd_witness, wfis, grd, sim, sim_of_new, inv, inv_new, nat, var, var_anticipated}
use Rattle.sequent.proofs.Ordered.{own_either}

module _ (m : Machine) (ρ : Env m.type) (x : ℕ) where
  pub unchanged_same : Meets m ρ (unchanged x) → ρ.after x ≡ ρ.present x
  unfolding evaluate
  unchanged_same h = wrap_injective (m.type x) (ρ.after x) (ρ.present x) (equal_value_eq _ _ h)

  pub same_unchanged : ρ.after x ≡ ρ.present x → Meets m ρ (unchanged x)
  unfolding evaluate
  same_unchanged e = eq_equal_value _ _ (ap (wrap (m.type x)) e)

abbrev pub is_move : Entry → Bool
is_move (written r) = false
is_move (primed r) = false
is_move (defined r) = false
is_move (moves e x) = true
is_move (feasible e x) = false
is_move (witnessed e x) = false
is_move (natural r) = false
is_move (decreases r) = false
is_move (not_increased r) = false
is_move (unchanged x) = false

-- the entries of form 4 among hypotheses
abbrev pub moves_in : List Entry → List Entry
moves_in hs = keep is_move hs

written_none : {A : Type 0} (f : A → ℕ) (rs : List A) → moves_in (map (λ r. written (f r)) rs) ≡ []
unfolding keep
written_none f [] = refl
written_none f (r ∷ rs) = written_none f rs

moves_all : (e : ℕ) (xs : List ℕ) → moves_in (map (moves e) xs) ≡ map (moves e) xs
unfolding keep
moves_all e [] = refl
moves_all e (x ∷ xs) = ap (λ hs. moves e x ∷ hs) (moves_all e xs)

none_then : (hs gs : List Entry) → moves_in hs ≡ [] → moves_in (hs ++ gs) ≡ moves_in gs
none_then hs gs p = keep_join is_move hs gs ∙ ap (λ ks. ks ++ moves_in gs) p

then_none : (hs gs : List Entry) → moves_in gs ≡ [] → moves_in (hs ++ gs) ≡ moves_in hs
then_none hs gs p = keep_join is_move hs gs ∙ ap (λ ks. moves_in hs ++ ks) p ∙ append-nil (moves_in hs)

empty_none : moves_in [] ≡ []
unfolding keep
empty_none = refl

-- where a list is chosen, both choices having none
chosen_none : (b : Bool) (hs gs : List Entry) → moves_in hs ≡ [] → moves_in gs ≡ [] → moves_in (pick b hs gs) ≡ []
chosen_none true hs gs p q = p
chosen_none false hs gs p q = q

module _ (m : Machine) where
  written_list : (rs : List ℕ) → moves_in (as_written rs) ≡ []
  written_list rs = written_none (λ r. r) rs

  base_none : (ro : Role) → moves_in (base_of m ro) ≡ []
  base_none ro =
      none_then (as_written m.axioms) _ (written_list m.axioms)
      ∙ chosen_none (is_initialisation ro) [] _ empty_none
      (none_then (as_written m.abstract_invariants) _ (written_list m.abstract_invariants)
      ∙ chosen_none (is_concrete ro) (as_written m.concrete_invariants) [] (written_list m.concrete_invariants) empty_none)

  guards_none : (e : ℕ) → moves_in (base_guards m e) ≡ []
  guards_none e = none_then (base_of m (m.role e)) _ (base_none (m.role e)) ∙ written_list (m.guards e)

  moved_own : (e : ℕ) → moves_in (base_guards m e ++ moves_of m e) ≡ map (moves e) (own_variables m (m.role e))
  moved_own e = none_then (base_guards m e) (moves_of m e) (guards_none e) ∙ moves_all e (own_variables m (m.role e))

  witnesses_none : (e : ℕ) → moves_in (witnesses_of m e) ≡ []
  witnesses_none e = written_none (λ w. w.root) (m.witnesses e)

  parameters_none : (e : ℕ) → moves_in (parameter_witnesses_of m e) ≡ []
  parameters_none e = written_none (λ w. w.root) (keep (λ w. not (variable m w.target)) (m.witnesses e))

  new_own : (ro : Role) → is_new ro ≡ true → own_variables m ro ≡ m.concrete_variables
  new_own abstract_initialisation p = absurd (true≢false (sym p))
  new_own abstract_ordinary p = absurd (true≢false (sym p))
  new_own (concrete_initialisation f) p = refl
  new_own (refining f) p = refl
  new_own convergent p = refl
  new_own anticipated p = refl

  -- the variables whose form 4 stands among a sequent's hypotheses
  pub record MovesOnce (s : Sequent) : Type 0 where
    pub variables : List ℕ
    pub once : Distinct variables
    pub own : moves_in s.hypotheses ≡ map (moves s.event) variables

  module _ (abstract : Distinct m.abstract_variables) (concrete : Distinct (m.concrete_variables ++ unshared_variables m)) where
    own_distinct : (ro : Role) → Distinct (own_variables m ro)
    own_distinct = own_either Distinct (pairwise_left m.concrete_variables (unshared_variables m) concrete) abstract

    none : {s : Sequent} → moves_in s.hypotheses ≡ [] → MovesOnce s
    none p = record { variables = []; once = pairwise_nil; own = p }

    moved : {s : Sequent} → moves_in s.hypotheses ≡ map (moves s.event) (own_variables m (m.role s.event)) → MovesOnce s
    moved {s} p = record { variables = own_variables m (m.role s.event); once = own_distinct (m.role s.event); own = p }

    -- "and moves for a variable witness"
    of_witness_lem : {s : Sequent} (b : Bool) → s.hypotheses ≡ base_guards m s.event ++ pick b (moves_of m s.event) [] → MovesOnce s
    of_witness_lem {s} true p = moved (ap moves_in p ∙ moved_own s.event)
    of_witness_lem {s} false p = none (ap moves_in p ∙ then_none (base_guards m s.event) [] empty_none ∙ guards_none s.event)

    pub moves_once : {s : Sequent} → Obligation m s → MovesOnce s
    moves_once (wd_formula before rest p) = none (written_list before)
    moves_once (wd_variant i) = none (written_list (axioms_invariants m))
    moves_once (wd_guard {e} before rest at p) = none (none_then (base_of m (m.role e)) _ (base_none (m.role e)) ∙ written_list before)
    moves_once (wd_action {e} at i a) = none (guards_none e)
    moves_once (fis {e} at i a) = none (guards_none e)
    moves_once (wd_witness {w = w} at i) = of_witness_lem (variable m w.target) refl
    moves_once (wfis {w = w} at i) = of_witness_lem (variable m w.target) refl
    moves_once (grd {e} at c i) = none (none_then (base_guards m e) _ (guards_none e) ∙ parameters_none e)
    moves_once (sim {e} at c i) = moved (then_none (base_guards m e ++ moves_of m e) _ (witnesses_none e) ∙ moved_own e)
    moves_once (sim_of_new {e} at c i) = moved (moved_own e)
    moves_once (inv {e} at c i) = moved (then_none (base_guards m e ++ moves_of m e) _ (witnesses_none e) ∙ moved_own e)
    moves_once (inv_new {e} at c i) =
        let own = new_own (m.role e) c in
        record {
          variables = m.concrete_variables ++ unshared_variables m;
          once = concrete;
          own = keep_join is_move (base_guards m e ++ moves_of m e) (map (moves e) (unshared_variables m))
              ∙ ap₂ (λ hs gs. hs ++ gs) (moved_own e ∙ ap (map (moves e)) own) (moves_all e (unshared_variables m))
              ∙ sym (map-append (moves e) m.concrete_variables (unshared_variables m));
        }
    moves_once (nat {e} at c i) = none (guards_none e)
    moves_once (var {e} at c i) = moved (moved_own e)
    moves_once (var_anticipated {e} at c i) = moved (moved_own e)

-- the machines of every table
pub table_moves_once : (t : Rows) {s : Sequent} → Required (machine_of t) s → MovesOnce (machine_of t) s
table_moves_once t r = moves_once (machine_of t) (abstract_distinct t) (variables_apart t) r.0
