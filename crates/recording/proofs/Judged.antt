-- A formula has no fault where it is evaluated from the stored values exactly where a run reads it as it has to be and no term met leaves 64 bits; so of the formulas of
-- a list and of the actions of a list of variables. The stored values and those of the run only have to agree on what the formulas mention.
use Prim.Native.Nat.{ℕ}
use mathlib.Core.Path.{◌≡◌, sym, ap, ◌∙◌, subst}
use mathlib.Core.Bool.{Bool, true}
use mathlib.Core.List.{List, map}
use mathlib.Core.Option.{some}
use lib.Dec.{T, eqb, eqb→eq}
use Rattle.lists.specs.All.{All}
use Rattle.lists.proofs.All.{all_in, all_at, all_map, all_unmap}
use Rattle.formula.specs.Values.{ValueType, AnyValue, truth, wrap}
use Rattle.formula.specs.Tree.{Tree}
use Rattle.formula.specs.Evaluate.{Env, read_tree}
use Rattle.formula.specs.Mentions.{mentions}
use Rattle.formula.proofs.Values.{wrap_injective}
use Rattle.formula.proofs.Mentions.{Agree}
use Rattle.answer.specs.Answer.{answer}
use Rattle.answer.specs.Met.{NoneLeaves}
use Rattle.answer.proofs.Answer.{answer_reads, reads_answer}
use Rattle.answer.proofs.Mentions.{answer_agree}
use Rattle.table.specs.Rows.{Rows}
use Rattle.machine.specs.Machine.{Action, unassigned, becomes_equal, becomes_such_that, Machine}
use Rattle.machine.specs.Described.{machine_of}
use Rattle.run.specs.Run.{ReadsTrue, Allows}
use Rattle.recording.specs.Faults.{no_fault, fault_of, untrue, not_allowed}
use Rattle.recording.specs.Recorded.{ActionInside}
use Rattle.recording.proofs.Faults.{differs_none, none_differs, fault_none, none_fault}
use Rattle.recording.proofs.Sight.{never, ActionSeen}

-- fewer after values count: none, or that of one variable
module _ {type : ℕ → ValueType} {P Q : ℕ → Bool} {ρ σ : Env type} (h : Agree P Q ρ σ) where
  pub agree_less : Agree P never ρ σ
  agree_less = record { present = h.present; after = λ y z. absurd z }

  pub agree_own : (x : ℕ) → T (Q x) → Agree P (eqb x) ρ σ
  agree_own x v = record { present = h.present; after = λ y z. subst (λ y. ρ.after y ≡ σ.after y) (eqb→eq x y z) (h.after x v) }

module _ {type : ℕ → ValueType} {P Q : ℕ → Bool} (ρ σ : Env type) (h : Agree P Q ρ σ) (u : Tree) (s : T (mentions P Q u)) (v : AnyValue) where
  -- one formula, which has to have the value v
  pub formula_judged : fault_of v (answer ρ u) ≡ no_fault → (read_tree σ u ≡ some v) × NoneLeaves σ u
  formula_judged e = answer_reads σ u v (sym (answer_agree ρ σ h u s) ∙ fault_none v (answer ρ u) e)

  pub judged_formula : read_tree σ u ≡ some v → NoneLeaves σ u → fault_of v (answer ρ u) ≡ no_fault
  judged_formula r l = none_fault v (answer ρ u) (answer_agree ρ σ h u s ∙ reads_answer σ u v r l)

module _ (t : Rows) where
  abbrev machine : Machine
  machine = machine_of t

  abbrev tree : ℕ → Tree
  tree r = machine.tree r

  -- predicates that have to be true
  module _ {P Q : ℕ → Bool} (ρ σ : Env machine.type) (h : Agree P Q ρ σ) (rs : List ℕ) (seen : All (λ r. T (mentions P Q (tree r))) rs) where
    pub predicates_judged : All (λ f. f ≡ no_fault) (map (untrue ρ machine.tree) rs) → All (λ r. ReadsTrue machine σ r) rs × All (λ r. NoneLeaves σ (tree r)) rs
    unfolding untrue
    predicates_judged a =
        let b = all_unmap (untrue ρ machine.tree) rs a in (
          all_in rs (λ r i. (formula_judged ρ σ h (tree r) (all_at seen i) (truth true) (all_at b i)).0),
          all_in rs (λ r i. (formula_judged ρ σ h (tree r) (all_at seen i) (truth true) (all_at b i)).1),
        )

    pub judged_predicates : All (λ r. ReadsTrue machine σ r) rs → All (λ r. NoneLeaves σ (tree r)) rs → All (λ f. f ≡ no_fault) (map (untrue ρ machine.tree) rs)
    unfolding untrue
    judged_predicates a b = all_map (untrue ρ machine.tree) (all_in rs (λ r i. judged_formula ρ σ h (tree r) (all_at seen i) (truth true) (all_at a i) (all_at b i)))

  -- the action of one variable
  module _ {P Q : ℕ → Bool} (ρ σ : Env machine.type) (h : Agree P Q ρ σ) (x : ℕ) (variable : T (Q x)) where
    abbrev same : ρ.after x ≡ σ.after x
    same = h.after x variable

    pub action_judged : (a : Action) → ActionSeen machine.tree P x a → not_allowed ρ machine.tree x a ≡ no_fault → Allows machine σ x a × ActionInside t σ a
    unfolding not_allowed untrue
    action_judged unassigned s e =
        (sym same ∙ wrap_injective (machine.type x) (ρ.after x) (ρ.present x) (differs_none _ _ e) ∙ h.present x s, tt)
    action_judged (becomes_equal r) s e =
        let p = formula_judged ρ σ (agree_less h) (tree r) s (wrap (machine.type x) (ρ.after x)) e in
        (p.0 ∙ ap (λ w. some (wrap (machine.type x) w)) same, p.1)
    action_judged (becomes_such_that r) s e = formula_judged ρ σ (agree_own h x variable) (tree r) s (truth true) e

    pub judged_action : (a : Action) → ActionSeen machine.tree P x a → Allows machine σ x a → ActionInside t σ a → not_allowed ρ machine.tree x a ≡ no_fault
    unfolding not_allowed untrue
    judged_action unassigned s e i =
        none_differs (wrap (machine.type x) (ρ.after x)) (wrap (machine.type x) (ρ.present x)) (ap (wrap (machine.type x)) (same ∙ e ∙ sym (h.present x s)))
    judged_action (becomes_equal r) s e i =
        judged_formula ρ σ (agree_less h) (tree r) s (wrap (machine.type x) (ρ.after x)) (e ∙ ap (λ w. some (wrap (machine.type x) w)) (sym same)) i
    judged_action (becomes_such_that r) s e i = judged_formula ρ σ (agree_own h x variable) (tree r) s (truth true) e i
