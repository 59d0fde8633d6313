-- The numbers of an accepted table's sequents are in range: those of its machines are, being columns of its rows or at most its count of rows, and each
-- sequent is made of them (`listed_made`).
use Prim.Native.Nat.{ℕ, ◌≤◌}
use mathlib.Core.Path.{sym, subst}
use mathlib.Core.Logic.{⊎_elim}
use native.Mathlib.Omega.{arith}
use lib.Dec.{T}
use Rattle.lists.specs.All.{All, In}
use Rattle.lists.specs.Below.{numbers}
use Rattle.lists.proofs.All.{all_at, all_in, all_imp, all_map}
use Rattle.lists.proofs.Below.{count_at_most}
use Rattle.table.specs.Rows.{Rows, tagged, section, count, named, row_of, machine_number, class_of, refined_by}
use Rattle.table.proofs.Sections.{named_bounds}
use Rattle.machine.specs.Machine.{Witness, Machine, Role, abstract_initialisation, abstract_ordinary, concrete_initialisation, refining, convergent, anticipated}
use Rattle.machine.specs.Described.{role_numbered, belonging, variables_of, machine_of}
use Rattle.machine.proofs.Described.{action_row_lem, variable_named, event_named}
use Rattle.machine.proofs.Roles.{role_cases}
use Rattle.sequent.specs.Entry.{Entry}
use Rattle.sequent.specs.Numbers.{numbers_of}
use Rattle.sequent.specs.Formed.{ActionRoot}
use Rattle.sequent.specs.Sequent.{Sequent}
use Rattle.sequent.specs.Listed.{sequents}
use Rattle.sequent.specs.Required.{MatchedBy, by_initialisation, by_refined}
use Rattle.sequent.proofs.Entries.{Root, axiom_root, abstract_invariant_root, concrete_invariant_root, variant_root, guard_root, action_root, root_of_witness}
use Rattle.sequent.proofs.Entries.{VariableOf, EventOf, EntryOf, of_written, of_primed, of_defined, of_moves, of_feasible, of_witnessed, of_natural, of_decreases}
use Rattle.sequent.proofs.Entries.{of_not_increased, of_unchanged}
use Rattle.sequent.proofs.Entries.{ItemOf, root_item, variable_item, target_item, action_root_has, listed_made}
use Rattle.rules.proofs.Range.{Ranged, small_ranged, zero_ranged, RangedRows}

-- the abstract event of a role
abbrev RoleRanged : Role → Type 0
RoleRanged abstract_initialisation = Unit {0}
RoleRanged abstract_ordinary = Unit {0}
RoleRanged (concrete_initialisation f) = Ranged f
RoleRanged (refining f) = Ranged f
RoleRanged convergent = Unit {0}
RoleRanged anticipated = Unit {0}

abbrev WitnessRanged : Witness → Type 0
WitnessRanged w = Ranged w.target × Ranged w.root

-- every number that a machine's sequents can name
pub record RangedMachine (m : Machine) : Type 0 where
  pub abstract_variables : All Ranged m.abstract_variables
  pub concrete_variables : All Ranged m.concrete_variables
  pub axioms : All Ranged m.axioms
  pub abstract_invariants : All Ranged m.abstract_invariants
  pub concrete_invariants : All Ranged m.concrete_invariants
  pub variants : All Ranged m.variants
  pub events : All Ranged m.events
  pub role : (e : ℕ) → RoleRanged (m.role e)
  pub guards : (e : ℕ) → All Ranged (m.guards e)
  pub action : (e x : ℕ) → ActionRoot Ranged (m.action e x)
  pub witnesses : (e : ℕ) → All WitnessRanged (m.witnesses e)

-- the two numbers of an entry, and the numbers of a sequent
abbrev pub EntryRanged : Entry → Type 0
EntryRanged h = Ranged (numbers_of h).first × Ranged (numbers_of h).second

pub record RangedSequent (s : Sequent) : Type 0 where
  pub kind : s.kind ≤ 8
  pub event : Ranged s.event
  pub item : Ranged s.item
  pub hypotheses : All EntryRanged s.hypotheses
  pub goal : EntryRanged s.goal

-- the machines of a table
module _ (t : Rows) (r : RangedRows t) where
  number_ranged : (k n : ℕ) → T (named t k n) → Ranged n
  unfolding count
  number_ranged k n h = small_ranged n (omega (arith, (named_bounds t k n h).1, count_at_most (tagged t k) t.size, r.few))

  role_ranged : (machine class f : ℕ) → Ranged f → RoleRanged (role_numbered machine class f)
  role_ranged machine class f h =
      role_cases machine class f (λ a z o v ro. RoleRanged ro) (λ o v. tt) (λ o v. tt) (small_ranged 1 (omega arith)) h tt tt

  pub machine_ranged : RangedMachine (machine_of t)
  unfolding machine_of
  machine_ranged = record {
    abstract_variables = all_in (variables_of t 2) (λ x i. number_ranged 10 x (variable_named t 2 x i).0);
    concrete_variables = all_in (variables_of t 3) (λ x i. number_ranged 10 x (variable_named t 3 x i).0);
    axioms = all_map t.a (all_in (section t 30) (λ i j. r.a i));
    abstract_invariants = all_map t.a (all_in (section t 31) (λ i j. r.a i));
    concrete_invariants = all_map t.a (all_in (section t 32) (λ i j. r.a i));
    variants = all_map t.a (all_in (section t 70) (λ i j. r.a i));
    events = all_in (numbers (count t 40) 1) (λ e i. number_ranged 40 e (event_named t e i));
    role = λ e. role_ranged (machine_number t e) (class_of t e) (refined_by t e) (r.c (row_of t 40 e));
    guards = λ e. all_map t.b (all_in (belonging t 50 e) (λ i j. r.b i));
    action = λ e x. action_row_lem t e x (ActionRoot Ranged) (λ i by. r.c i) (λ i by. r.c i) (λ none. tt);
    witnesses = λ e. all_map (λ i. record { target = t.b i; root = t.c i }) (all_in (belonging t 60 e) (λ i j. (r.b i, r.c i)));
  }

-- whatever a sequent is made of
module _ (m : Machine) (r : RangedMachine m) where
  root_ranged : {q : ℕ} → Root m q → Ranged q
  root_ranged (axiom_root i) = all_at r.axioms i
  root_ranged (abstract_invariant_root i) = all_at r.abstract_invariants i
  root_ranged (concrete_invariant_root i) = all_at r.concrete_invariants i
  root_ranged (variant_root i) = all_at r.variants i
  root_ranged (guard_root e i) = all_at (r.guards e) i
  root_ranged (action_root e x a) = action_root_has Ranged (m.action e x) (r.action e x) a
  root_ranged (root_of_witness e i) = (all_at (r.witnesses e) i).1

  variable_ranged : {x : ℕ} → VariableOf m x → Ranged x
  variable_ranged v = ⊎_elim (all_at r.abstract_variables) (all_at r.concrete_variables) v

  matched_ranged : {f : ℕ} (ro : Role) → RoleRanged ro → MatchedBy f ro → Ranged f
  matched_ranged (concrete_initialisation f) h by_initialisation = h
  matched_ranged (refining f) h by_refined = h
  matched_ranged {f = f} abstract_initialisation h x'' = elim x'' [ ]
  matched_ranged {f = f} abstract_ordinary h x3 = elim x3 [ ]
  matched_ranged {f = f} convergent h x4 = elim x4 [ ]
  matched_ranged {f = f} anticipated h x5 = elim x5 [ ]

  event_ranged : {e : ℕ} → EventOf m e → Ranged e
  event_ranged v = ⊎_elim (all_at r.events) (λ p. matched_ranged (m.role p.0) (r.role p.0) p.1) v

  entry_ranged : (h : Entry) → EntryOf m h → EntryRanged h
  entry_ranged h (of_written q) = (root_ranged q, zero_ranged)
  entry_ranged h (of_primed q) = (root_ranged q, zero_ranged)
  entry_ranged h (of_defined q) = (root_ranged q, zero_ranged)
  entry_ranged h (of_moves e x) = (event_ranged e, variable_ranged x)
  entry_ranged h (of_feasible at x) = (all_at r.events at, variable_ranged x)
  entry_ranged h (of_witnessed {e} at i) = (all_at r.events at, (all_at (r.witnesses e) i).0)
  entry_ranged h (of_natural q) = (root_ranged q, zero_ranged)
  entry_ranged h (of_decreases q) = (root_ranged q, zero_ranged)
  entry_ranged h (of_not_increased q) = (root_ranged q, zero_ranged)
  entry_ranged h (of_unchanged x) = (variable_ranged x, zero_ranged)

  item_ranged : {x : ℕ} → ItemOf m x → Ranged x
  item_ranged (root_item q) = root_ranged q
  item_ranged (variable_item x) = variable_ranged x
  item_ranged (target_item e i) = (all_at (r.witnesses e) i).0

  pub sequents_ranged : {s : Sequent} → In s (sequents m) → RangedSequent s
  sequents_ranged i =
      let s = listed_made m i in
      record {
        kind = s.kind;
        event = ⊎_elim (λ e. subst Ranged (sym e) zero_ranged) (all_at r.events) s.event;
        item = item_ranged s.item;
        hypotheses = all_imp entry_ranged s.hypotheses;
        goal = entry_ranged _ s.goal;
      }
