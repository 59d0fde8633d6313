-- The faults of a step, as the code goes through them: those of the axioms and guards row by row, those of the variables identifier by identifier.
use mathlib.Core.Path.{◌≡◌, refl, sym, ap, ap₂, ◌∙◌}
use mathlib.Core.Bool.{Bool, true, false, ◌&&◌}
use mathlib.Core.List.{List, [], ◌∷◌, map, map-map}
use Prim.Native.Nat.{ℕ, suc, ◌≤◌}
use lib.Dec.{eqb}
use lib.IntN.{ℤ, pos}
use lib.ListN.{get_or}
use borrow.Author.Tests.{le-ltb, lt-ltb, eq-eqb, ne_eqb, eqb-true}
use Rattle.lists.specs.Choice.{pick}
use Rattle.lists.specs.Below.{first, numbers}
use Rattle.lists.proofs.All.{map_same}
use Rattle.lists.proofs.Flat.{keep_keep}
use Rattle.formula.specs.Values.{AnyValue, truth, wrap}
use Rattle.formula.specs.Evaluate.{Env}
use Rattle.answer.specs.Answer.{answer}
use Rattle.answer.specs.Stored.{stored_value, stored, stored_env}
use Rattle.table.specs.Rows.{Rows, tagged, section, type_of}
use Rattle.machine.specs.Machine.{Action, Machine}
use Rattle.machine.specs.Described.{type_numbered, tree_of, sets, belonging, variables_of, machine_of}
use Rattle.machine.proofs.Described.{action_by_row}
use Rattle.recording.specs.Rows.{is_initial}
use Rattle.recording.specs.Faults.{no_fault, first_fault, untrue, not_allowed, step_fault, fault_of, differs}
use Rattle.bench.specs.Press.{press_fault}
use Rattle.judge.specs.Judge.{fault_or, root_fault, row_fault, first_untrue, action_fault, first_not_allowed}
use Rattle.judge.proofs.Faults.{first_join, first_keep}

and_true : (b : Bool) → (b && true) ≡ b
and_true true = refl
and_true false = refl

alone : (f : ℕ) → fault_or f no_fault ≡ f
alone f = go (eqb f no_fault) refl
  where
    go : (b : Bool) → eqb f no_fault ≡ b → pick b no_fault f ≡ f
    go true h = sym (eqb-true f no_fault h)
    go false h = refl

-- an axiom or a guard
pub root_fault_is : (t : Rows) (present : List ℤ) (r : ℕ) → fault_of (truth true) (answer (stored_env (machine_of t).type present []) (tree_of t r)) ≡ root_fault t present r
unfolding untrue machine_of
root_fault_is t present r = refl

module _ (t : Rows) (e : ℕ) (present after : List ℤ) where
  abbrev machine : Machine
  machine = machine_of t

  abbrev root : ℕ → ℕ
  root r = root_fault t present r

  axioms_first : first_fault (map root machine.axioms) ≡ first_untrue t present 30 e
  unfolding machine_of section first_untrue
  axioms_first =
      ap first_fault (map-map root t.a (section t 30)) ∙ first_keep (tagged t 30) (λ i. root (t.a i)) (numbers t.size 0)
      ∙ ap first_fault (map_same (λ i. pick (tagged t 30 i) (root (t.a i)) no_fault) (row_fault t present 30 e) (numbers t.size 0) (λ i j. ap (λ b. pick b (root (t.a i)) no_fault) (sym (and_true (tagged t 30 i)))))

  guards_first : first_fault (map root (machine.guards e)) ≡ first_untrue t present 50 e
  unfolding machine_of section belonging first_untrue
  guards_first =
      ap first_fault (map-map root t.b (belonging t 50 e)) ∙ ap (λ is. first_fault (map (λ i. root (t.b i)) is)) (keep_keep (λ i. eqb (t.a i) e) (tagged t 50) (numbers t.size 0))
      ∙ first_keep (λ i. tagged t 50 i && eqb (t.a i) e) (λ i. root (t.b i)) (numbers t.size 0)

  actions_first : first_fault (map (λ x. not_allowed (stored_env machine.type present after) machine.tree x (machine.action e x)) machine.concrete_variables) ≡ first_not_allowed t present after e
  unfolding machine_of variables_of first_not_allowed action_fault
  actions_first = first_keep _ (action_fault t present after e) (numbers _ 1)

  pub step_faults : step_fault t e present after ≡ fault_or (pick (is_initial t e) (first_untrue t present 30 e) no_fault) (fault_or (first_untrue t present 50 e) (first_not_allowed t present after e))
  unfolding step_fault first_fault
  step_faults =
      first_join (pick (is_initial t e) (map root machine.axioms) []) _
      ∙ ap₂ fault_or (initially (is_initial t e)) (first_join (map root (machine.guards e)) _ ∙ ap₂ fault_or guards_first actions_first)
    where
      initially : (b : Bool) → first_fault (pick b (map root machine.axioms) []) ≡ pick b (first_untrue t present 30 e) no_fault
      initially true = axioms_first
      initially false = refl

  pub press_faults : press_fault t e present after ≡ fault_or (first_untrue t present 30 e) (step_fault t e present after)
  unfolding press_fault first_fault
  press_faults = first_join (map root machine.axioms) (step_fault t e present after ∷ []) ∙ ap₂ fault_or axioms_first (alone (step_fault t e present after))

  -- ---- a variable's action, from the row that was found
  module _ (x i : ℕ) (found : i ≡ first (sets t e x) t.size 0) where
    abbrev typed : ℤ → AnyValue
    typed z = wrap (type_numbered (type_of t x)) (stored_value (type_numbered (type_of t x)) z)

    abbrev both : Env machine.type
    both = stored_env machine.type present after

    abbrev fault : Action → ℕ
    fault a = not_allowed both machine.tree x a

    pub unassigned_fault : t.size ≤ i → differs (typed (get_or after x (pos 0))) (typed (get_or present x (pos 0))) ≡ action_fault t present after e x
    unfolding action_fault not_allowed machine_of stored
    unassigned_fault h = sym (ap fault (action_by_row t e x i found false (tagged t 51 i) (le-ltb i t.size h) refl))

    pub equal_fault : suc i ≤ t.size → t.tag i ≡ 51 → fault_of (typed (get_or after x (pos 0))) (answer both (tree_of t (t.c i))) ≡ action_fault t present after e x
    unfolding action_fault not_allowed machine_of stored
    equal_fault h k = sym (ap fault (action_by_row t e x i found true true (lt-ltb i t.size h) (eq-eqb (t.tag i) 51 k)))

    pub such_fault : suc i ≤ t.size → (t.tag i ≡ 51 → ⊥) → fault_of (truth true) (answer both (tree_of t (t.c i))) ≡ action_fault t present after e x
    unfolding action_fault not_allowed untrue machine_of
    such_fault h k = sym (ap fault (action_by_row t e x i found true false (lt-ltb i t.size h) (ne_eqb (t.tag i) 51 k)))

-- of two faults, the first that is one
module _ {x a : ℕ} (b : ℕ) (p : x ≡ a) where
  pub former : (x ≡ 0 → ⊥) → x ≡ fault_or a b
  former h = p ∙ sym (ap (λ t. pick t b a) (ne_eqb a 0 (λ z. h (p ∙ z))))

  pub latter : x ≡ 0 → b ≡ fault_or a b
  latter z = sym (ap (λ t. pick t b a) (eq-eqb a 0 (sym p ∙ z)))

-- of three
module _ {x a : ℕ} (c : ℕ) (p : x ≡ a) where
  pub first_of : (b : ℕ) → (x ≡ 0 → ⊥) → x ≡ fault_or a (fault_or b c)
  first_of b h = former (fault_or b c) p h

  pub second_of : {y b : ℕ} → x ≡ 0 → y ≡ b → (y ≡ 0 → ⊥) → y ≡ fault_or a (fault_or b c)
  second_of {b = b} z q h = former c q h ∙ latter (fault_or b c) p z

  pub third_of : {y b : ℕ} → x ≡ 0 → y ≡ b → y ≡ 0 → c ≡ fault_or a (fault_or b c)
  third_of {b = b} z q w = latter c q w ∙ latter (fault_or b c) p z
