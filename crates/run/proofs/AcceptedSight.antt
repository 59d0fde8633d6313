-- What the formulas of a table that meets every rule mention, by the kinds of identifiers: what a row lets its formula mention, number by number, is a
-- set of kinds, since a parameter's owner and a variable's machine are those of the event.
use Prim.Native.Nat.{ℕ, ◌+◌, ◌<◌}
use mathlib.Core.Path.{◌≡◌, refl, sym, ap, ◌∙◌, subst}
use mathlib.Core.Bool.{Bool, true, false, not, ◌&&◌, ◌||◌}
use mathlib.Core.List.{map}
use mathlib.Core.Logic.{◌⊎◌, inl, inr}
use native.Mathlib.Omega.{arith}
use lib.Dec.{T, eqb, eqb→eq, not_T}
use borrow.Author.Tests.{eqb-true}
use Rattle.lists.specs.All.{All, In}
use Rattle.lists.proofs.All.{all_in, all_map, all_imp}
use Rattle.lists.proofs.Below.{some_found}
use Rattle.table.specs.Names.{is_variable_of}
use Rattle.table.specs.Rows.{Rows, named, section, kind_of, type_of, machine_number, class_of, refined_by}
use Rattle.table.proofs.Sections.{section_row, named_bounds}
use Rattle.formula.specs.Mentions.{mentions}
use Rattle.formula.specs.Identifiers.{identifiers}
use Rattle.formula.proofs.Sort.{tree_type}
use Rattle.formula.proofs.Mentions.{mentions_imp}
use Rattle.formula.proofs.Identifiers.{mentions_identifiers}
use Rattle.formula.proofs.Truth.{eq→eqb, and_split, and_join, true_test, or_left, or_right, or_cases}
use Rattle.machine.specs.Machine.{Kind, constant_kind, abstractVariable, concreteVariable, abstractParameter, concreteParameter, sharedVariable}
use Rattle.machine.specs.Machine.{is_variable, is_shared, shared_variables}
use Rattle.machine.specs.Machine.{Role, abstract_initialisation, abstract_ordinary, concrete_initialisation, refining, convergent, anticipated}
use Rattle.machine.specs.Described.{type_numbered, kind_numbered, role_numbered, tree_of, sets, action_of, belonging, variables_of, machine_of}
use Rattle.machine.proofs.Described.{SetBy, action_row_lem, belonging_row, variable_named}
use Rattle.machine.proofs.Roles.{RoleSays}
use Rattle.machine.proofs.Variables.{shared_kind, named_shared}
use Rattle.sequent.specs.Order.{is_in}
use Rattle.sequent.specs.Required.{own_variables}
use Rattle.sequent.proofs.Places.{is_in_member}
use Rattle.rules.specs.Sorts.{sort_of}
use Rattle.rules.specs.Sight.{has_kind, has_variable_kind, present_variable, own_parameter, event_sees}
use Rattle.rules.specs.Rules.{named_variable}
use Rattle.rules.proofs.Obeys.{Obeys}
use Rattle.rules.proofs.Events.{event_says}
use Rattle.rules.proofs.Identifiers.{is_type, identifier_type, parameter_owner}
use Rattle.rules.proofs.References.{root_tag, root_of, root_row_lem, witness_row}
use Rattle.rules.proofs.Sorts.{sort_type_lem, root_sort_lem}
use Rattle.rules.proofs.Sight.{seen, seen_after, root_seen}
use Rattle.rules.proofs.Missing.{initial_action}
use Rattle.run.proofs.WellFormed.{only_constants, abstract_event_kinds, concrete_event_kinds, concrete_variable_kinds, hidden_kinds, own_kinds, never, among, ActionSees}

-- the kinds of a machine's variables and of its parameters
abbrev OwnKind : ℕ → ℕ → Type 0
OwnKind machine k = T (is_variable_of (1 + machine) k) ⊎ (k ≡ 3 + machine)

kind_in_lem : (S : Kind → Bool) (k j : ℕ) → k ≡ j → T (S (kind_numbered j)) → T (S (kind_numbered k))
kind_in_lem S k j e h = subst (λ k. T (S (kind_numbered k))) (sym e) h

variable_in : (S : Kind → Bool) (own k : ℕ) → T (S (kind_numbered own)) → T (S (kind_numbered 6)) → T (is_variable_of own k) → T (S (kind_numbered k))
variable_in S own k v z h = or_cases (eqb k own) (eqb k 6) h (λ p. kind_in_lem S k own (eqb→eq k own p) v) (λ p. kind_in_lem S k 6 (eqb→eq k 6 p) z)

machine_in : (S : Kind → Bool) (n machine k : ℕ) → machine ≡ n → T (S (kind_numbered (1 + n))) → T (S (kind_numbered 6)) → T (S (kind_numbered (3 + n)))
    → OwnKind machine k → T (S (kind_numbered k))
machine_in S n machine k e v z p (inl h) = variable_in S (1 + n) k v z (subst (λ n. T (is_variable_of (1 + n) k)) e h)
machine_in S n machine k e v z p (inr h) = kind_in_lem S k (3 + n) (omega (arith, e)) p

-- an event that is no initialisation sees its machine's variables and parameters, and every event sees constants
own_seen : (ro : Role) (machine class refined k : ℕ) → RoleSays machine class refined ro → T (not (eqb class 0)) → OwnKind machine k
    → T (own_kinds ro (kind_numbered k))
unfolding kind_numbered
own_seen abstract_initialisation machine class refined k s n d = absurd (subst (λ c. T (not (eqb c 0))) s.1 n)
own_seen abstract_ordinary machine class refined k s n d = machine_in abstract_event_kinds 1 machine k s.0 tt tt tt d
own_seen (concrete_initialisation f) machine class refined k s n d = absurd (subst (λ c. T (not (eqb c 0))) s.1 n)
own_seen (refining f) machine class refined k s n d = machine_in concrete_event_kinds 2 machine k s.0 tt tt tt d
own_seen convergent machine class refined k s n d = machine_in concrete_event_kinds 2 machine k s.0 tt tt tt d
own_seen anticipated machine class refined k s n d = machine_in concrete_event_kinds 2 machine k s.0 tt tt tt d

constant_seen : (ro : Role) → T (own_kinds ro constant_kind)
constant_seen abstract_initialisation = tt
constant_seen abstract_ordinary = tt
constant_seen (concrete_initialisation f) = tt
constant_seen (refining f) = tt
constant_seen convergent = tt
constant_seen anticipated = tt

module _ (t : Rows) where
  abbrev kind_in : ℕ → Kind
  kind_in x = kind_numbered (kind_of t x)

  abbrev pub role_in : ℕ → Role
  role_in e = role_numbered (machine_number t e) (class_of t e) (refined_by t e)

  abbrev Seen : (Kind → Bool) → (ℕ → Bool) → ℕ → Type 0
  Seen S S' r = T (mentions (among (machine_of t) S) S' (tree_of t r))

  pub kind_seen : (S : Kind → Bool) (k x : ℕ) → T (S (kind_numbered k)) → T (has_kind t k x) → T (S (kind_in x))
  kind_seen S k x s h = kind_in_lem S (kind_of t x) k (eqb→eq (kind_of t x) k h) s

  pub variable_seen : (S : Kind → Bool) (own x : ℕ) → T (S (kind_numbered own)) → T (S (kind_numbered 6)) → T (has_variable_kind t own x) → T (S (kind_in x))
  variable_seen S own x v z h = variable_in S own (kind_of t x) v z h

  -- what is named and of a set of kinds is among them: a shared variable that is named is one of the machine's
  pub named_among : (S : Kind → Bool) (x : ℕ) → T (named t 10 x) → T (S (kind_in x)) → T (among (machine_of t) S x)
  unfolding machine_of
  named_among S x n s = and_join (S (kind_in x)) _ s (go (is_shared (kind_in x)) refl)
    where
      go : (b : Bool) → is_shared (kind_in x) ≡ b → T (not b || is_in (shared_variables (machine_of t)) x)
      go true e = true_test _ (is_in_member (named_shared t x n (eqb-true (kind_of t x) 6 (sym (shared_kind (kind_of t x)) ∙ e))))
      go false e = tt

  module _ (ok : Obeys t) where
    -- the formula of a row, from what its tag lets it mention
    row_sees : (k i : ℕ) (P Q : ℕ → Bool) → i < t.size → t.tag i ≡ k → T (root_tag k)
        → ((x : ℕ) → T (named t 10 x) → T (seen t k i x) → T (P x)) → ((x : ℕ) → T (seen_after t k i x) → T (Q x)) → T (mentions P Q (tree_of t (root_of t k i)))
    row_sees k i P Q h e r f g =
        mentions_imp (λ x. named t 10 x && seen t k i x) (λ x. named_variable t x && seen_after t k i x) P Q
        (λ x s. let p = and_split (named t 10 x) (seen t k i x) s in f x p.0 p.1)
        (λ x s. g x (and_split (named_variable t x) (seen_after t k i x) s).1)
        (tree_of t (root_of t k i)) (root_seen t ok k i h e r)

    -- axioms, invariants and the variant, which name their roots in column a
    pub formulas_see : (k : ℕ) (S : Kind → Bool) → T (root_tag k) → ((i : ℕ) → root_of t k i ≡ t.a i)
        → ((i x : ℕ) → T (seen t k i x) → T (S (kind_in x))) → ((i x : ℕ) → T (seen_after t k i x) → ⊥)
        → All (λ r. T (mentions (among (machine_of t) S) never (tree_of t r))) (map t.a (section t k))
    formulas_see k S r root f g =
        all_map t.a (all_in (section t k) (λ i j.
        let q = section_row t k i j in
        subst (Seen S never) (root i)
        (row_sees k i (among (machine_of t) S) never q.0 q.1 r (λ x n s. named_among S x n (f i x s)) (λ x s. g i x s))))

    -- the variables that axioms, invariants and the variant mention
    pub formulas_list : (k : ℕ) (L : ℕ → Type 0) → T (root_tag k) → ((i : ℕ) → root_of t k i ≡ t.a i)
        → ((i x : ℕ) → T (named t 10 x) → T (seen t k i x) → T (is_variable (kind_in x)) → L x) → ((i x : ℕ) → T (seen_after t k i x) → ⊥)
        → All (λ r. All (λ x. T (is_variable (kind_in x)) → L x) (identifiers (tree_of t r))) (map t.a (section t k))
    formulas_list k L r root f g =
        all_map t.a (all_in (section t k) (λ i j.
        let q = section_row t k i j in
        let P : ℕ → Bool = λ x. named t 10 x && seen t k i x in
        let Q : ℕ → Bool = λ x. named_variable t x && seen_after t k i x in
        subst (λ r. All (λ x. T (is_variable (kind_in x)) → L x) (identifiers (tree_of t r))) (root i)
        (all_imp
        (λ x s v. or_cases (P x) (Q x) s (λ p. let (n, m) = and_split (named t 10 x) (seen t k i x) p in f i x n m v)
        (λ p. absurd (g i x (and_split (named_variable t x) (seen_after t k i x) p).1)))
        (mentions_identifiers P Q (tree_of t (root_of t k i)) (root_seen t ok k i q.0 q.1 r)))))

    -- "guard and action, constants, the event's own parameters and its machine's variables"
    pub event_sees_lem : (e x : ℕ) → T (named t 40 e) → T (named t 10 x) → T (event_sees t e x) → T (own_kinds (role_in e) (kind_in x))
    unfolding kind_numbered
    event_sees_lem e x n m s =
        or_cases (has_kind t 1 x) (own_parameter t e x || present_variable t e x) s (kind_seen (own_kinds (role_in e)) 1 x (constant_seen (role_in e)))
        (λ s. or_cases (own_parameter t e x) (present_variable t e x) s
        (λ s. let p = parameter_owner t ok e x m s in own_seen (role_in e) (machine_number t e) (class_of t e) (refined_by t e) (kind_of t x) says p.1 (inr p.0))
        (λ s. let p = and_split (has_variable_kind t (1 + machine_number t e) x) (not (eqb (class_of t e) 0)) s in
        own_seen (role_in e) (machine_number t e) (class_of t e) (refined_by t e) (kind_of t x) says p.1 (inl p.0)))
      where
        says : RoleSays (machine_number t e) (class_of t e) (refined_by t e) (role_in e)
        says = event_says t ok e (role_in e) n refl

    -- a guard or an action of an event
    own_row_sees : (k e i : ℕ) (Q : ℕ → Bool) → T (named t 40 e) → i < t.size → t.tag i ≡ k → t.a i ≡ e → T (root_tag k)
        → ((x : ℕ) → T (seen t k i x) → T (event_sees t (t.a i) x)) → ((x : ℕ) → T (seen_after t k i x) → T (Q x))
        → T (mentions (among (machine_of t) (own_kinds (role_in e))) Q (tree_of t (root_of t k i)))
    own_row_sees k e i Q n h p q r f g =
        row_sees k i (among (machine_of t) (own_kinds (role_in e))) Q h p r
        (λ x m s. named_among (own_kinds (role_in e)) x m (event_sees_lem e x n m (subst (λ e. T (event_sees t e x)) q (f x s)))) g

    pub guards_see_lem : (e : ℕ) → T (named t 40 e)
        → All (λ r. T (mentions (among (machine_of t) (own_kinds (role_in e))) never (tree_of t r))) (map t.b (belonging t 50 e))
    guards_see_lem e n =
        all_map t.b (all_in (belonging t 50 e) (λ i j.
        let q = belonging_row t 50 e i j in own_row_sees 50 e i never n q.0 q.1 q.2 tt (λ x s. s) (λ x s. s)))

    -- the variables of an event's machine
    pub variable_kind_lem : (e x : ℕ) → T (named t 40 e) → In x (own_variables (machine_of t) (role_in e)) → T (named t 10 x) × T (has_variable_kind t (1 + machine_number t e) x)
    unfolding machine_of
    variable_kind_lem e x n = go (role_in e) (event_says t ok e (role_in e) n refl)
      where
        of : (own : ℕ) → own ≡ 1 + machine_number t e → In x (variables_of t own) → T (named t 10 x) × T (has_variable_kind t (1 + machine_number t e) x)
        of own q i = let p = variable_named t own x i in (p.0, subst (λ own. T (has_variable_kind t own x)) q p.1)

        go : (ro : Role) → RoleSays (machine_number t e) (class_of t e) (refined_by t e) ro → In x (own_variables (machine_of t) ro)
            → T (named t 10 x) × T (has_variable_kind t (1 + machine_number t e) x)
        go abstract_initialisation s i = of 2 (omega (arith, s.0)) i
        go abstract_ordinary s i = of 2 (omega (arith, s.0)) i
        go (concrete_initialisation f) s i = of 3 (omega (arith, s.0)) i
        go (refining f) s i = of 3 (omega (arith, s.0)) i
        go convergent s i = of 3 (omega (arith, s.0)) i
        go anticipated s i = of 3 (omega (arith, s.0)) i

    -- "51 takes the variable's type"
    equal_type : (e x i : ℕ) → T (named t 10 x) → SetBy t 51 e x i → tree_type (λ x. type_numbered (type_of t x)) (tree_of t (t.c i)) ≡ type_numbered (type_of t x)
    equal_type e x i m by =
        let root = (root_row_lem t ok 51 i by.inside by.tag_is tt).1 in
        let q : sort_of t (t.c i) ≡ type_of t x = root_sort_lem t ok 51 i by.inside by.tag_is tt ∙ ap (type_of t) by.variable_is in
        sort_type_lem t (t.c i) (named_bounds t 20 (t.c i) root).0 (subst (λ s. T (is_type s)) (sym q) (identifier_type t ok x m)) ∙ ap type_numbered q

    -- a variable that its event leaves alone is seen: the event is no initialisation, which assigns all
    unassigned_seen : (e x : ℕ) → T (named t 40 e) → T (named t 10 x) → T (has_variable_kind t (1 + machine_number t e) x)
        → ((i : ℕ) → i < t.size → T (sets t e x i) → ⊥) → T (own_kinds (role_in e) (kind_in x))
    unassigned_seen e x n m k none =
        own_seen (role_in e) (machine_number t e) (class_of t e) (refined_by t e) (kind_of t x) (event_says t ok e (role_in e) n refl)
        (not_T (eqb (class_of t e) 0) initial) (inl k)
      where
        initial : T (eqb (class_of t e) 0) → ⊥
        initial c =
            let r = some_found (sets t e x) t.size (initial_action t ok e x n (eqb→eq (class_of t e) 0 c) m k) in
            none r.0 r.1 r.2

    pub action_sees : (e x : ℕ) → T (named t 40 e) → T (named t 10 x) → T (has_variable_kind t (1 + machine_number t e) x)
        → ActionSees (machine_of t) (own_kinds (role_in e)) x (action_of t e x)
    unfolding machine_of
    action_sees e x n m k =
        action_row_lem t e x (ActionSees (machine_of t) (own_kinds (role_in e)) x)
        (λ i by. (own_row_sees 51 e i never n by.inside by.tag_is by.event_is tt (λ y s. s) (λ y s. s), equal_type e x i m by))
        (λ i by. own_row_sees 52 e i (eqb x) n by.inside by.tag_is by.event_is tt (λ y s. s)
        (λ y s. eq→eqb x y (sym (eqb→eq y (t.b i) s ∙ by.variable_is))))
        (λ none. named_among (own_kinds (role_in e)) x m (unassigned_seen e x n m k none))

    -- "parameter witness, constants, concrete variables, the concrete event's parameters and its own identifier; variable witness, the same with concrete
    -- after values, and its own after value in place of the identifier"
    concrete_seen : (e x : ℕ) → T (named t 40 e) → T (named t 10 x) → machine_number t e ≡ 2 → T (event_sees t e x) → T (concrete_event_kinds (kind_in x))
    concrete_seen e x n m q s = go (role_in e) (event_says t ok e (role_in e) n refl) (event_sees_lem e x n m s)
      where
        only : (K : Kind) → T (only_constants K) → T (concrete_event_kinds K)
        only constant_kind h = tt
        only abstractVariable h = absurd h
        only concreteVariable h = tt
        only abstractParameter h = absurd h
        only concreteParameter h = tt
        only sharedVariable h = tt

        go : (ro : Role) → RoleSays (machine_number t e) (class_of t e) (refined_by t e) ro → T (own_kinds ro (kind_in x))
            → T (concrete_event_kinds (kind_in x))
        go abstract_initialisation s h = only (kind_in x) h
        go abstract_ordinary s h = absurd (omega (arith, s.0))
        go (concrete_initialisation f) s h = only (kind_in x) h
        go (refining f) s h = h
        go convergent s h = h
        go anticipated s h = h

    pub witness_target_lem : (e i : ℕ) → In i (belonging t 60 e)
        → T (named t 40 e) × (machine_number t e ≡ 2) × T (has_kind t 2 (t.b i) || has_kind t 4 (t.b i))
    witness_target_lem e i j =
        let q = belonging_row t 60 e i j in
        let w = witness_row t ok i q.0 q.1 in
        (subst (λ e. T (named t 40 e)) q.2 w.0, subst (λ e. machine_number t e ≡ 2) q.2 w.1, w.2)

    pub witness_hidden : (e i : ℕ) → In i (belonging t 60 e) → T (hidden_kinds (kind_numbered (kind_of t (t.b i))))
    unfolding kind_numbered
    witness_hidden e i j =
        or_cases (has_kind t 2 (t.b i)) (has_kind t 4 (t.b i)) (witness_target_lem e i j).2
        (kind_seen hidden_kinds 2 (t.b i) tt) (kind_seen hidden_kinds 4 (t.b i) tt)

    pub witness_sees : (e i : ℕ) → In i (belonging t 60 e)
        → T (mentions (λ y. concrete_event_kinds (kind_numbered (kind_of t y)) || eqb y (t.b i))
        (λ y. concrete_variable_kinds (kind_numbered (kind_of t y)) || eqb y (t.b i)) (tree_of t (t.c i)))
    unfolding kind_numbered
    witness_sees e i j = row_sees 60 i _ _ q.0 q.1 tt present after
      where
        q : (i < t.size) × (t.tag i ≡ 60) × (t.a i ≡ e)
        q = belonging_row t 60 e i j

        w : T (named t 40 e) × (machine_number t e ≡ 2) × T (has_kind t 2 (t.b i) || has_kind t 4 (t.b i))
        w = witness_target_lem e i j

        present : (y : ℕ) → T (named t 10 y) → T (seen t 60 i y) → T (concrete_event_kinds (kind_in y) || eqb y (t.b i))
        present y m s =
            or_cases (event_sees t (t.a i) y) (has_kind t 4 y && eqb y (t.b i)) s
            (λ p. or_left (concrete_event_kinds (kind_in y)) (eqb y (t.b i))
            (concrete_seen e y w.0 m w.1 (subst (λ e. T (event_sees t e y)) q.2 p)))
            (λ p. or_right (concrete_event_kinds (kind_in y)) (eqb y (t.b i)) (and_split (has_kind t 4 y) (eqb y (t.b i)) p).1)

        after : (y : ℕ) → T (seen_after t 60 i y) → T (concrete_variable_kinds (kind_in y) || eqb y (t.b i))
        after y s =
            or_cases (has_variable_kind t 3 y) (eqb y (t.b i)) (and_split (has_kind t 2 (t.b i)) (has_variable_kind t 3 y || eqb y (t.b i)) s).1
            (λ p. or_left (concrete_variable_kinds (kind_in y)) (eqb y (t.b i)) (variable_seen concrete_variable_kinds 3 y tt tt p))
            (or_right (concrete_variable_kinds (kind_in y)) (eqb y (t.b i)))
