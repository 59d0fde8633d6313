-- Demand 3 for a well-formed machine: where every listed sequent is valid, its runs are safe. The obligations that the list leaves out are valid too (sequent's Dropped), so
-- all are. One matched step after another, by recursion on the
-- list of steps; what is carried along is that the matched pair of states agree on the shared variables and that the axioms and all invariants are true there.
use mathlib.Core.Path.{◌≡◌, refl, sym, subst}
use mathlib.Core.List.{List, [], ◌∷◌}
use Prim.Native.Nat.{ℕ}
use Rattle.lists.specs.All.{All, all_nil, In}
use Rattle.lists.proofs.All.{all_map}
use Rattle.machine.specs.Machine.{Machine, abstract_initialisation, concrete_initialisation}
use Rattle.sequent.specs.Entry.{written}
use Rattle.sequent.specs.Sequent.{Valid}
use Rattle.sequent.specs.Listed.{obligations, sequents}
use Rattle.sequent.proofs.Dropped.{obligations_valid}
use Rattle.run.specs.Run.{State, blank, view, AllReadTrue, Taken, Follows, Match}
use Rattle.run.specs.SafeRun.{EventSafe, StretchesBounded, Along, RunsSafe, Safe}
use Rattle.run.proofs.WellFormed.{WellFormed}
use Rattle.run.proofs.Reading.{all_read_true}
use Rattle.run.proofs.Events.{event_sees_lem, events_valid}
use Rattle.run.proofs.Views.{same_shared}
use Rattle.run.proofs.Successor.{event_safe}
use Rattle.run.proofs.Pair.{pair_of, AxiomsTrue, PairTrue, axioms_world, pair_safe}
use Rattle.run.proofs.Matching.{initialisation_matched, step_matched}
use Rattle.run.proofs.Stretch.{no_stretch, stretch_more}

module _ (m : Machine) (wf : WellFormed m) (vs : All (Valid m) (obligations m)) where
  -- every list of steps from a pair of states is matched, with the bound of the stretches that it begins with
  steps_matched : (c : State m) (ss : List (Taken m)) (a k : State m) → PairTrue m c a k → Follows m c k ss
      → (ts : List (Match m)) × Along m c a k ss ts × StretchesBounded m c k ss
  steps_matched c [] a k h f = ([], pair_safe m wf vs c a k h, no_stretch m c k)
  steps_matched c (s ∷ ss) a k h f =
      let n = step_matched m wf vs (m.role s.event) s.event f.0 refl f.1 c a k s.parameters s.result h f.2 in
      let r = steps_matched c ss n.match.result s.result n.pair f.3 in
      let b = stretch_more m c k s.result s ss n.bounded r.2 in
      (n.match ∷ r.0, (pair_safe m wf vs c a k h, b, n.matches, r.1), b)

  from_initialisation : (e f : ℕ) → In e m.events → m.role e ≡ concrete_initialisation f → (c : State m)
      → AllReadTrue m (pair_of m c (blank m) (blank m)) m.axioms → RunsSafe m c e f
  from_initialisation e f i role c x =
      let z : State m = blank m in
      let (j, abstract, free, _, _) = wf.initialises e f i role in
      let axioms : AxiomsTrue m c = all_read_true m (pair_of m c z z) x in
      let concrete : EventSafe m (concrete_initialisation f) e c z z =
      event_safe m (concrete_initialisation f) e (event_sees_lem m wf e i role) (events_valid m vs e i role) c z z z (λ t. absurd t)
      (λ n. all_map written (axioms_world m wf c axioms z z z z n n)) in
      record {
        concrete_start = concrete;
        abstract_start = event_safe m abstract_initialisation f (event_sees_lem m wf f j abstract) (events_valid m vs f j abstract) c z z z (λ t. same_shared m z)
            (λ n. all_map written (axioms_world m wf c axioms z z z z n n));
        outcome = concrete.successor (subst (AllReadTrue m (view m (concrete_initialisation f) c z z z)) (sym free) all_nil);
        runs = λ k s ss fo.
            let (a, h, t) = initialisation_matched m wf vs e f i role c k axioms s in
            let (ts, l, _) = steps_matched c ss a k h fo in
            (a, ts, t, l);
      }

-- "If a table is accepted and every listed sequent is valid", at the level of machines
pub runs_safe_lem : (m : Machine) → WellFormed m → All (Valid m) (sequents m) → Safe m
runs_safe_lem m wf listed =
    let vs = obligations_valid m wf.invariants_listed listed in
    record {
      initialisation = wf.initialised;
      safe = λ e f i role. let (j, abstract, _, _, _) = wf.initialises e f i role in ((j, abstract), from_initialisation m wf vs e f i role);
    }
