-- The worked machine has a run of a refining step, a convergent, an anticipated and a convergent one, and this is what the theorem on runs gives of it. Each
-- step and the number of convergent steps are computed; the theorem's parts are taken one by one, and a's values in the abstract states are those of the
-- concrete ones by the agreement on shared variables.
use mathlib.Core.Path.{◌≡◌, refl, ap, subst, ◌∙◌}
use mathlib.Core.List.{List, [], ◌∷◌}
use mathlib.Core.Option.{Option, some}
use Prim.Native.Nat.{ℕ}
use lib.IntN.{pos}
use Rattle.lists.specs.All.{All, all_nil, all_cons, In, here, there}
use Rattle.lists.specs.Below.{count_below, first, numbers, keep}
use Rattle.table.specs.Rows.{section, count, start}
use Rattle.lists.proofs.All.{all_head}
use Rattle.formula.specs.Values.{AnyValue, number, wrap}
use Rattle.formula.specs.Evaluate.{read_tree}
use Rattle.machine.specs.Operator.{operator_numbered}
use Rattle.machine.specs.Machine.{abstract_initialisation, abstract_ordinary, concrete_initialisation, shared_variables}
use Rattle.machine.specs.Described.{type_numbered, kind_numbered, role_numbered, tree_to, tree_of, action_of, belonging, variables_of, machine_of}
use Rattle.run.specs.Run.{State, blank, world, AllReadTrue, Step, Follows, Match, AgreeOnShared}
use Rattle.run.specs.SafeRun.{PairSafe, Unbroken, convergent_steps, Bounded, Along, Safe}
use Rattle.worked.specs.Run.{constants, concrete, stretch, steps}
use Rattle.worked.proofs.Decoded.{words}
use Rattle.worked.proofs.Listed.{worked}
use Rattle.worked.proofs.Safe.{same_machine, worked_safe}

axioms : AllReadTrue worked (world worked (constants worked) (blank worked) (blank worked) (blank worked) (blank worked) (blank worked) (blank worked)) worked.axioms
unfolding worked words machine_of tree_of tree_to start count count_below operator_numbered type_numbered kind_numbered role_numbered action_of first belonging section variables_of numbers keep read_tree
axioms = all_cons refl all_nil

initialised : Step worked (concrete_initialisation 1) 3 (constants worked) (blank worked) (blank worked) (concrete worked 3 3)
unfolding worked words machine_of tree_of tree_to start count count_below operator_numbered type_numbered kind_numbered role_numbered action_of first belonging section variables_of numbers keep read_tree
initialised = record { enabled = all_nil; allowed = all_cons refl (all_cons refl all_nil) }

follows : Follows worked (constants worked) (concrete worked 3 3) (steps worked)
unfolding worked words machine_of tree_of tree_to start count count_below operator_numbered type_numbered kind_numbered role_numbered action_of first belonging section variables_of numbers keep read_tree
follows = (
  there (there (there (here refl))),
  tt,
  record { enabled = all_cons refl (all_cons refl all_nil); allowed = all_cons refl (all_cons refl all_nil) },
  (
    there (there (there (there (here refl)))),
    tt,
    record { enabled = all_cons refl all_nil; allowed = all_cons refl (all_cons refl all_nil) },
    (
      there (there (there (there (there (here refl))))),
      tt,
      record { enabled = all_cons refl all_nil; allowed = all_cons refl (all_cons refl all_nil) },
      (there (there (there (there (here refl)))), tt, record { enabled = all_cons refl all_nil; allowed = all_cons refl (all_cons refl all_nil) }, tt),
    ),
  ),
)

-- all three steps of the stretch are convergent or anticipated, and two of them are convergent
both_classes : Unbroken worked (stretch worked)
unfolding worked words machine_of start count count_below role_numbered
both_classes = all_cons tt (all_cons tt (all_cons tt all_nil))

two_convergent : convergent_steps worked (stretch worked) ≡ 2
unfolding worked words machine_of start count count_below role_numbered keep
two_convergent = refl

-- the value of the shared variable a in a state
abbrev value_of_a : State worked → AnyValue
value_of_a s = wrap (worked.type 2) (s 2)

a_is_shared : shared_variables worked ≡ 2 ∷ []
unfolding worked words machine_of start count count_below kind_numbered variables_of numbers keep
a_is_shared = refl

value_in_run : (a u : ℕ) → value_of_a (concrete worked a u) ≡ number (pos a)
unfolding worked words machine_of type_numbered start count_below
value_in_run a u = refl

-- an abstract state with the concrete one where a and u are these
abbrev Pair : State worked → ℕ → ℕ → Type 0
Pair s a u = PairSafe worked (constants worked) s (concrete worked a u)

agreed : (s : State worked) (a u : ℕ) → Pair s a u → value_of_a s ≡ number (pos a)
agreed s a u h =
    let same : s 2 ≡ concrete worked a u 2 = all_head (subst (All (λ x. s x ≡ concrete worked a u x)) a_is_shared h.shared) in
    ap (wrap (worked.type 2)) same ∙ value_in_run a u

-- the variant u, at a concrete state
abbrev variant_at : ℕ → ℕ → Option AnyValue
variant_at a u =
    read_tree (world worked (constants worked) (blank worked) (concrete worked a u) (blank worked) (blank worked) (blank worked) (blank worked)) (worked.tree 56)

variant_is : (worked.variants ≡ 56 ∷ []) × (variant_at 1 3 ≡ some (number (pos 3)))
unfolding worked words machine_of tree_of tree_to start count count_below operator_numbered type_numbered kind_numbered section numbers keep read_tree
variant_is = (refl, refl)

-- What the theorem says of this run: the abstract machine goes along from its initialisation, by one step of event 2 and three of none. At every pair of states
-- the machines agree on the shared variable a, so in the abstract one too a is 3 before event 4 and 1 after it; the invariants are true and every event is
-- safe. The last three steps are one stretch, of which two are convergent, and these two are within the bound of the variant, 3, before the stretch.
pub record Given : Type 0 where
  pub a : State worked
  pub q : State worked
  pub a' : State worked
  pub initial : Step worked abstract_initialisation 1 (constants worked) (blank worked) (blank worked) a
  pub refined : Step worked abstract_ordinary 2 (constants worked) a q a'
  pub shared : shared_variables worked ≡ 2 ∷ []
  pub agreement : AgreeOnShared worked a (concrete worked 3 3) × AgreeOnShared worked a' (concrete worked 1 3)
      × AgreeOnShared worked a' (concrete worked 1 2) × AgreeOnShared worked a' (concrete worked 1 2) × AgreeOnShared worked a' (concrete worked 1 1)
  pub before : value_of_a a ≡ number (pos 3)
  pub after : value_of_a a' ≡ number (pos 1)
  pub pairs : Pair a 3 3 × Pair a' 1 3 × Pair a' 1 2 × Pair a' 1 2 × Pair a' 1 1
  pub unbroken : Unbroken worked (stretch worked)
  pub counted : convergent_steps worked (stretch worked) ≡ 2
  pub bounded : Bounded worked (constants worked) (concrete worked 1 3) 2
  pub variant : (worked.variants ≡ 56 ∷ []) × (variant_at 1 3 ≡ some (number (pos 3)))

spelled_out : (a : State worked) (ts : List (Match worked)) → Step worked abstract_initialisation 1 (constants worked) (blank worked) (blank worked) a
    → Along worked (constants worked) a (concrete worked 3 3) (steps worked) ts → Given
unfolding worked words machine_of tree_of tree_to start count count_below operator_numbered type_numbered kind_numbered role_numbered action_of first belonging section variables_of numbers keep
spelled_out a [] i h = absurd h
spelled_out a (t ∷ []) i h = absurd h.3
spelled_out a (t ∷ t2 ∷ []) i h = absurd h.3.3
spelled_out a (t ∷ t2 ∷ t3 ∷ []) i h = absurd h.3.3.3
spelled_out a (t ∷ t2 ∷ t3 ∷ t4 ∷ []) i h =
    let along = h.3 in
    let stays : t2.result ≡ t.result = along.2 in
    let stays3 : t3.result ≡ t.result = along.3.2 ∙ stays in
    let stays4 : t4.result ≡ t.result = along.3.3.2 ∙ stays3 in
    let pair2 : Pair t.result 1 2 = subst (λ s. Pair s 1 2) stays along.3.0 in
    let pair3 : Pair t.result 1 2 = subst (λ s. Pair s 1 2) stays3 along.3.3.0 in
    let pair4 : Pair t.result 1 1 = subst (λ s. Pair s 1 1) stays4 along.3.3.3 in
    record {
      a = a;
      q = t.parameters;
      a' = t.result;
      initial = i;
      refined = h.2.2;
      shared = a_is_shared;
      agreement = (h.0.shared, along.0.shared, pair2.shared, pair3.shared, pair4.shared);
      before = agreed a 3 3 h.0;
      after = agreed t.result 1 3 along.0;
      pairs = (h.0, along.0, pair2, pair3, pair4);
      unbroken = both_classes;
      counted = two_convergent;
      -- the next three steps after event 4
      bounded = subst (Bounded worked (constants worked) (concrete worked 1 3)) two_convergent (along.1 3 both_classes);
      variant = variant_is;
    }
spelled_out a (t ∷ t2 ∷ t3 ∷ t4 ∷ t5 ∷ ts) i h = absurd h.3.3.3.3

-- events 1 and 3 are the initialisations
initialisation : In 3 worked.events × (worked.role 3 ≡ concrete_initialisation 1)
unfolding worked words machine_of start count count_below role_numbered numbers
initialisation = (there (there (here refl)), refl)

pub worked_run : Given
worked_run =
    let safe : Safe worked = subst Safe same_machine worked_safe in
    let (a, ts, i, h) = ((safe.safe 3 1 initialisation.0 initialisation.1).1 (constants worked) axioms).runs (concrete worked 3 3) initialised (steps worked) follows in
    spelled_out a ts i h
