-- What the formulas that a replay judges mention, in a table that meets every rule: an axiom constants, a guard or an action of an event what that event sees, its own
-- parameters and no other event's among it.
use Prim.Native.Nat.{ℕ, ◌+◌, ◌<◌}
use mathlib.Core.Path.{◌≡◌, sym, ◌∙◌, subst}
use mathlib.Core.Bool.{Bool, false, not, ◌&&◌, ◌||◌}
use mathlib.Core.List.{map}
use lib.Dec.{T, eqb, eqb→eq, not_T}
use Rattle.lists.specs.All.{All}
use Rattle.lists.proofs.All.{all_in, all_map}
use Rattle.lists.proofs.Below.{some_found}
use Rattle.formula.specs.Tree.{Tree}
use Rattle.formula.specs.Mentions.{mentions}
use Rattle.formula.proofs.Truth.{eq→eqb, and_split, and_join, or_right}
use Rattle.formula.proofs.Mentions.{mentions_imp}
use Rattle.table.specs.Rows.{Rows, named, section, machine_number, class_of}
use Rattle.table.proofs.Sections.{section_row}
use Rattle.machine.specs.Machine.{Action, unassigned, becomes_equal, becomes_such_that}
use Rattle.machine.specs.Described.{tree_of, sets, action_of, belonging}
use Rattle.machine.proofs.Described.{action_row_lem, belonging_row}
use Rattle.rules.specs.Sight.{has_kind, has_variable_kind, own_parameter, present_variable, event_sees}
use Rattle.rules.specs.Rules.{named_variable}
use Rattle.rules.proofs.Obeys.{Obeys}
use Rattle.rules.proofs.References.{root_tag, root_of}
use Rattle.rules.proofs.Sight.{seen, seen_after, root_seen}
use Rattle.rules.proofs.Missing.{initial_action}

abbrev pub never : ℕ → Bool
never x = false

-- an action for the variable x mentions what passes P; a variable that keeps its value reads it
abbrev pub ActionSeen : (ℕ → Tree) → (ℕ → Bool) → ℕ → Action → Type 0
ActionSeen tree P x unassigned = T (P x)
ActionSeen tree P x (becomes_equal r) = T (mentions P never (tree r))
ActionSeen tree P x (becomes_such_that r) = T (mentions P (eqb x) (tree r))

module _ (t : Rows) where
  -- what an event sees
  abbrev pub sees : ℕ → ℕ → Bool
  sees e x = named t 10 x && event_sees t e x

  abbrev pub a_constant : ℕ → Bool
  a_constant x = named t 10 x && has_kind t 1 x

  module _ (ok : Obeys t) where
    -- the formula of a row, from what its tag lets it mention
    row_sees : (k i : ℕ) (P Q : ℕ → Bool) → i < t.size → t.tag i ≡ k → T (root_tag k)
        → ((x : ℕ) → T (named t 10 x && seen t k i x) → T (P x)) → ((x : ℕ) → T (seen_after t k i x) → T (Q x)) → T (mentions P Q (tree_of t (root_of t k i)))
    row_sees k i P Q h e r f g =
        mentions_imp (λ x. named t 10 x && seen t k i x) (λ x. named_variable t x && seen_after t k i x) P Q f
        (λ x s. g x (and_split (named_variable t x) (seen_after t k i x) s).1)
        (tree_of t (root_of t k i)) (root_seen t ok k i h e r)

    pub axioms_seen : All (λ r. T (mentions a_constant never (tree_of t r))) (map t.a (section t 30))
    axioms_seen = all_map t.a (all_in (section t 30) (λ i j.
        let q = section_row t 30 i j in row_sees 30 i a_constant never q.0 q.1 tt (λ x s. s) (λ x s. s)))

    -- a row of the event e
    own_row_sees : (k e i : ℕ) (Q : ℕ → Bool) → i < t.size → t.tag i ≡ k → t.a i ≡ e → T (root_tag k)
        → ((x : ℕ) → T (named t 10 x && seen t k i x) → T (sees (t.a i) x)) → ((x : ℕ) → T (seen_after t k i x) → T (Q x)) → T (mentions (sees e) Q (tree_of t (root_of t k i)))
    own_row_sees k e i Q h p q r f g = row_sees k i (sees e) Q h p r (λ x s. subst (λ e. T (sees e x)) q (f x s)) g

    pub guards_seen : (e : ℕ) → All (λ r. T (mentions (sees e) never (tree_of t r))) (map t.b (belonging t 50 e))
    guards_seen e = all_map t.b (all_in (belonging t 50 e) (λ i j.
        let q = belonging_row t 50 e i j in own_row_sees 50 e i never q.0 q.1 q.2 tt (λ x s. s) (λ x s. s)))

    -- a variable that its event leaves alone is seen: the event is no initialisation, which assigns all
    unassigned_seen : (e x : ℕ) → T (named t 40 e) → T (named t 10 x) → T (has_variable_kind t (1 + machine_number t e) x)
        → ((i : ℕ) → i < t.size → T (sets t e x i) → ⊥) → T (sees e x)
    unassigned_seen e x n m k none =
        and_join (named t 10 x) (event_sees t e x) m
        (or_right (has_kind t 1 x) (own_parameter t e x || present_variable t e x) (or_right (own_parameter t e x) (present_variable t e x)
        (and_join (has_variable_kind t (1 + machine_number t e) x) (not (eqb (class_of t e) 0)) k (not_T (eqb (class_of t e) 0) initial))))
      where
        initial : T (eqb (class_of t e) 0) → ⊥
        initial c =
            let r = some_found (sets t e x) t.size (initial_action t ok e x n (eqb→eq (class_of t e) 0 c) m k) in
            none r.0 r.1 r.2

    pub action_seen : (e x : ℕ) → T (named t 40 e) → T (named t 10 x) → T (has_variable_kind t (1 + machine_number t e) x) → ActionSeen (tree_of t) (sees e) x (action_of t e x)
    action_seen e x n m k =
        action_row_lem t e x (ActionSeen (tree_of t) (sees e) x)
        (λ i by. own_row_sees 51 e i never by.inside by.tag_is by.event_is tt (λ y s. s) (λ y s. s))
        (λ i by. own_row_sees 52 e i (eqb x) by.inside by.tag_is by.event_is tt (λ y s. s) (λ y s. eq→eqb x y (sym (eqb→eq y (t.b i) s ∙ by.variable_is))))
        (λ none. unassigned_seen e x n m k none)
