-- A table that meets every rule describes well-formed machines: what its formulas mention and how its events belong together.
use Prim.Native.Nat.{ℕ, ◌+◌, ◌<◌}
use mathlib.Core.Path.{◌≡◌, refl, sym, ap, ap₂, ◌∙◌, subst, subst₂}
use mathlib.Core.Bool.{Bool, true, false, not, ◌&&◌, ◌||◌}
use mathlib.Core.List.{List, [], ◌∷◌, map}
use mathlib.Core.Logic.{◌⊎◌, inl, inr}
use native.Mathlib.Omega.{arith}
use lib.Dec.{T, eqb, eqb→eq}
use borrow.Author.Tests.{eqb-false}
use Rattle.lists.specs.Choice.{pick}
use Rattle.lists.specs.All.{In, here, there}
use Rattle.lists.proofs.All.{all_in, all_map, in_nil, in_cons, in_map, in_unmap, in_none}
use Rattle.table.specs.Rows.{Rows, named, section, kind_of, type_of, machine_number, class_of, refined_by}
use Rattle.table.proofs.Sections.{section_row, row_section, named_bounds}
use Rattle.formula.specs.Values.{integer}
use Rattle.formula.proofs.Sort.{tree_type}
use Rattle.formula.proofs.Truth.{and_split, or_cases, true_test}
use Rattle.machine.specs.Machine.{is_variable, shared_variables, unshared_variables}
use Rattle.machine.specs.Machine.{Witness, unassigned, Role, abstract_initialisation, abstract_ordinary, concrete_initialisation, refining, convergent, anticipated}
use Rattle.machine.specs.Described.{type_numbered, kind_numbered, role_numbered, tree_of, action_of, belonging, variables_of, machine_of}
use Rattle.machine.proofs.Described.{SetBy, action_row_lem, belonging_row, variable_named, named_variable_lem, event_named, named_event}
use Rattle.machine.proofs.Roles.{RoleSays}
use Rattle.machine.proofs.Variables.{named_shared, named_unshared, unshared_kind}
use Rattle.sequent.specs.Entry.{witness_root}
use Rattle.sequent.specs.Required.{is_new, own_variables}
use Rattle.rules.specs.Sight.{has_kind, has_variable_kind}
use Rattle.rules.specs.Rules.{guard_event, action_target}
use Rattle.rules.proofs.Obeys.{Obeys}
use Rattle.rules.proofs.Events.{event_says, event_refines, first_event, concrete_initialisation_lem}
use Rattle.rules.proofs.Identifiers.{is_type}
use Rattle.rules.proofs.References.{root_tag, target_test, root_row_lem}
use Rattle.rules.proofs.Sorts.{sort_type_lem, root_sort_lem}
use Rattle.rules.proofs.Twice.{witness_once}
use Rattle.rules.proofs.Missing.{convergent_variant_lem}
use Rattle.run.proofs.WellFormed.{only_constants, abstract_state_kinds, concrete_state_kinds, both_state_kinds, WellFormed}
use Rattle.run.proofs.AcceptedSight.{role_in, kind_seen, variable_seen, formulas_see, formulas_list, guards_see_lem, variable_kind_lem, action_sees, witness_target_lem, witness_hidden, witness_sees}

-- the root of a witness whose target no other witness has
root_of_witness : (ws : List Witness) (w : Witness) → In w ws → ((v : Witness) → In v ws → v.target ≡ w.target → v.root ≡ w.root)
    → witness_root ws w.target ≡ w.root
root_of_witness [] w i once = absurd (in_nil i)
root_of_witness (v ∷ vs) w i once = go (eqb v.target w.target) refl (in_cons i) (λ j. root_of_witness vs w j (λ u k. once u (there k)))
  where
    go : (b : Bool) → eqb v.target w.target ≡ b → (w ≡ v) ⊎ In w vs → (In w vs → witness_root vs w.target ≡ w.root)
        → ◌≡◌ {A = ℕ} (pick b v.root (witness_root vs w.target)) w.root
    go true q j rest = once v (here refl) (eqb→eq v.target w.target (true_test _ q))
    go false q (inl e) rest = absurd (eqb-false v.target w.target q (ap (λ u. u.target) (sym e)))
    go false q (inr j) rest = rest j

module _ (t : Rows) where
  -- the parts of the machine that `machine_of` gives, by name
  abbrev witness_at : ℕ → Witness
  witness_at i = record { target = t.b i; root = t.c i }

  abbrev guards_of : ℕ → List ℕ
  guards_of e = map t.b (belonging t 50 e)

  abbrev witnesses_of : ℕ → List Witness
  witnesses_of e = map witness_at (belonging t 60 e)

  -- the role of an event with known numbers
  role_is : (e machine class : ℕ) → machine_number t e ≡ machine → class_of t e ≡ class → role_in t e ≡ role_numbered machine class (refined_by t e)
  role_is e machine class p q = ap₂ (λ m c. role_numbered m c (refined_by t e)) p q

  -- a constant is no variable
  constant_unvarying : (x : ℕ) → T (has_kind t 1 x) → T (is_variable (kind_numbered (kind_of t x))) → ⊥
  unfolding kind_numbered
  constant_unvarying x p v = subst (λ k. T (is_variable (kind_numbered k))) (eqb→eq (kind_of t x) 1 p) v

  -- a variable of a machine is of its own kind or shared
  variable_either : (own x : ℕ) → T (named t 10 x) → T (has_variable_kind t own x)
      → (kind_numbered (kind_of t x) ≡ kind_numbered own) ⊎ ((kind_numbered (kind_of t x) ≡ kind_numbered 6) × In x (shared_variables (machine_of t)))
  variable_either own x n h =
      or_cases (eqb (kind_of t x) own) (eqb (kind_of t x) 6) h (λ p. inl (ap kind_numbered (eqb→eq (kind_of t x) own p)))
      (λ p. let q = eqb→eq (kind_of t x) 6 p in inr (ap kind_numbered q, named_shared t x n q))

  abbrev EventSays : ℕ → Role → Type 0
  EventSays e ro = RoleSays (machine_number t e) (class_of t e) (refined_by t e) ro

  new_concrete : (e : ℕ) (ro : Role) → EventSays e ro → T (is_new ro) → machine_number t e ≡ 2
  new_concrete e abstract_initialisation s new = absurd new
  new_concrete e abstract_ordinary s new = absurd new
  new_concrete e (concrete_initialisation f) s new = absurd new
  new_concrete e (refining f) s new = absurd new
  new_concrete e convergent s new = s.0
  new_concrete e anticipated s new = s.0

module _ (t : Rows) (ok : Obeys t) where
  -- the variant is an integer
  variant_type : (i : ℕ) → i < t.size → t.tag i ≡ 70 → tree_type (λ x. type_numbered (type_of t x)) (tree_of t (t.a i)) ≡ integer
  unfolding type_numbered
  variant_type i h e =
      let q = root_sort_lem t ok 70 i h e tt in
      sort_type_lem t (t.a i) (named_bounds t 20 (t.a i) (root_row_lem t ok 70 i h e tt).1).0 (subst (λ s. T (is_type s)) (sym q) tt) ∙ ap type_numbered q

  -- an initialisation has no guards, an abstract event no witnesses
  initial_guards : (e : ℕ) → class_of t e ≡ 0 → guards_of t e ≡ []
  initial_guards e c = ap (map t.b) (in_none (belonging t 50 e) none)
    where
      none : (i : ℕ) → In i (belonging t 50 e) → ⊥
      none i j =
          let q = belonging_row t 50 e i j in
          let g = subst (λ e. T (guard_event t e)) q.2 (root_row_lem t ok 50 i q.0 q.1 tt).0 in
          subst (λ c. T (not (eqb c 0))) c (and_split (named t 40 e) (not (eqb (class_of t e) 0)) g).1

  abstract_witnesses : (e : ℕ) → machine_number t e ≡ 1 → witnesses_of t e ≡ []
  abstract_witnesses e m = ap (map (witness_at t)) (in_none (belonging t 60 e) (λ i j. let p = (witness_target_lem t ok e i j).1 in omega arith))

  witness_found : (e i : ℕ) → In i (belonging t 60 e) → witness_root (witnesses_of t e) (t.b i) ≡ t.c i
  witness_found e i j = root_of_witness (witnesses_of t e) (witness_at t i) (in_map (witness_at t) j) once
    where
      once : (v : Witness) → In v (witnesses_of t e) → v.target ≡ t.b i → v.root ≡ t.c i
      once v k e' =
          let r = in_unmap (witness_at t) (belonging t 60 e) k in
          let p = belonging_row t 60 e i j in
          let q = belonging_row t 60 e r.0 r.1 in
          let same : r.0 ≡ i = witness_once t ok r.0 i q.0 p.0 q.1 p.1 (q.2 ∙ sym p.2) (sym (ap (λ u. u.target) r.2) ∙ e') in
          ap (λ u. u.root) r.2 ∙ ap t.c same

  -- a concrete event sets no abstract variable but the shared ones
  abstract_stays : (e x : ℕ) → machine_number t e ≡ 2 → kind_of t x ≡ 2 → action_of t e x ≡ unassigned
  abstract_stays e x m j =
      action_row_lem t e x (λ a. a ≡ unassigned) (λ i by. absurd (never_set 51 i by tt (λ h. h))) (λ i by. absurd (never_set 52 i by tt (λ h. h))) (λ none. refl)
    where
      never_set : (k i : ℕ) → SetBy t k e x i → T (root_tag k) → (T (target_test t k i) → T (action_target t (t.a i) (t.b i))) → ⊥
      never_set k i by r f =
          let h = subst₂ (λ e x. T (action_target t e x)) by.event_is by.variable_is (f (root_row_lem t ok k i by.inside by.tag_is r).0) in
          let own = has_variable_kind t (1 + machine_number t e) x in
          let p = (and_split (named t 10 x) own (and_split (named t 40 e) (named t 10 x && own) h).1).1 in
          or_cases (eqb (kind_of t x) (1 + machine_number t e)) (eqb (kind_of t x) 6) p
          (λ q. omega (arith, eqb→eq (kind_of t x) (1 + machine_number t e) q)) (λ q. omega (arith, eqb→eq (kind_of t x) 6 q))

  -- what a concrete initialisation is matched by, and what a refining event refines
  initialisation_matched : (e f : ℕ) → EventSays t e (concrete_initialisation f)
      → T (named t 40 f) × (role_in t f ≡ abstract_initialisation) × (guards_of t e ≡ []) × (guards_of t f ≡ []) × (witnesses_of t f ≡ [])
  unfolding role_numbered
  initialisation_matched e f s =
      let one = first_event t ok in
      let m : machine_number t f ≡ 1 = ap (machine_number t) s.2 ∙ one.1 in
      let c : class_of t f ≡ 0 = ap (class_of t) s.2 ∙ one.2 in
      (subst (λ f. T (named t 40 f)) (sym s.2) one.0, role_is t f 1 0 m c, initial_guards e s.1, initial_guards f c, abstract_witnesses f m)

  refined_ordinary : (e f : ℕ) → T (named t 40 e) → EventSays t e (refining f) → T (named t 40 f) × (role_in t f ≡ abstract_ordinary) × (witnesses_of t f ≡ [])
  unfolding role_numbered
  refined_ordinary e f n s =
      let r = event_refines t ok e n s.0 s.1 in
      let m : machine_number t f ≡ 1 = ap (machine_number t) s.2 ∙ r.1 in
      (subst (λ f. T (named t 40 f)) (sym s.2) r.0, role_is t f 1 1 m (ap (class_of t) s.2 ∙ r.2), abstract_witnesses f m)

  initialisation_there : (e : ℕ) × (f : ℕ) × T (named t 40 e) × (role_in t e ≡ concrete_initialisation f)
  unfolding role_numbered
  initialisation_there = let r = concrete_initialisation_lem t ok in (r.0, 1, r.1, role_is t r.0 2 0 r.2 r.3)

pub accepted_well_formed : (t : Rows) → Obeys t → WellFormed (machine_of t)
unfolding machine_of kind_numbered
accepted_well_formed t ok = record {
  axioms_see = formulas_see t ok 30 only_constants tt (λ i. refl) (λ i x s. kind_seen t only_constants 1 x tt s) (λ i x s. s);
  abstract_invariants_see =
      formulas_see t ok 31 abstract_state_kinds tt (λ i. refl)
      (λ i x s. or_cases (has_kind t 1 x) (has_variable_kind t 2 x) s (kind_seen t abstract_state_kinds 1 x tt) (variable_seen t abstract_state_kinds 2 x tt tt)) (λ i x s. s);
  concrete_invariants_see =
      formulas_see t ok 32 both_state_kinds tt (λ i. refl)
      (λ i x s. or_cases (has_kind t 1 x) (has_kind t 2 x || has_variable_kind t 3 x) s (kind_seen t both_state_kinds 1 x tt)
      (λ s. or_cases (has_kind t 2 x) (has_variable_kind t 3 x) s (kind_seen t both_state_kinds 2 x tt) (variable_seen t both_state_kinds 3 x tt tt)))
      (λ i x s. s);
  invariants_listed = record {
    abstract_ones =
        formulas_list t ok 31 (λ x. In x (variables_of t 2)) tt (λ i. refl)
        (λ i x n s v. or_cases (has_kind t 1 x) (has_variable_kind t 2 x) s (λ p. absurd (constant_unvarying t x p v)) (λ p. named_variable_lem t 2 x n p)) (λ i x s. s);
    concrete_ones =
        formulas_list t ok 32 (λ x. In x (variables_of t 3) ⊎ In x (unshared_variables (machine_of t))) tt (λ i. refl)
        (λ i x n s v. or_cases (has_kind t 1 x) (has_kind t 2 x || has_variable_kind t 3 x) s (λ p. absurd (constant_unvarying t x p v))
        (λ s. or_cases (has_kind t 2 x) (has_variable_kind t 3 x) s (λ p. inr (named_unshared t x n (eqb→eq (kind_of t x) 2 p))) (λ p. inl (named_variable_lem t 3 x n p))))
        (λ i x s. s);
  };
  variants_see =
      formulas_see t ok 70 concrete_state_kinds tt (λ i. refl)
      (λ i x s. or_cases (has_kind t 1 x) (has_variable_kind t 3 x) s (kind_seen t concrete_state_kinds 1 x tt) (variable_seen t concrete_state_kinds 3 x tt tt)) (λ i x s. s);
  variants_integer = all_map t.a (all_in (section t 70) (λ i j. let q = section_row t 70 i j in variant_type t ok i q.0 q.1));
  guards_see = λ e i. guards_see_lem t ok e (event_named t e i);
  actions_see = λ e i. all_in (own_variables (machine_of t) (role_in t e)) (λ x j.
      let n = event_named t e i in
      let p = variable_kind_lem t ok e x n j in
      action_sees t ok e x n p.0 p.1);
  witnesses_see = λ e i. all_map (witness_at t) (all_in (belonging t 60 e) (λ i j.
      record { hidden = witness_hidden t ok e i j; mentioned = witness_sees t ok e i j; found = witness_found t ok e i j }));
  abstract_variables_kind = all_in (variables_of t 2) (λ x i. let p = variable_named t 2 x i in variable_either t 2 x p.0 p.1);
  concrete_variables_kind = all_in (variables_of t 3) (λ x i. let p = variable_named t 3 x i in variable_either t 3 x p.0 p.1);
  initialised = (let r = initialisation_there t ok in (r.0, r.1, named_event t r.0 r.2, r.3));
  initialises = λ e f i q.
      let r = initialisation_matched t ok e f (event_says t ok e (concrete_initialisation f) (event_named t e i) q) in
      (named_event t f r.0, r.1, r.2, r.3, r.4);
  refines = λ e f i q.
      let n = event_named t e i in
      let r = refined_ordinary t ok e f n (event_says t ok e (refining f) n q) in
      (named_event t f r.0, r.1, r.2);
  new_stays = λ e i new. all_in (unshared_variables (machine_of t)) (λ x j.
      abstract_stays t ok e x (new_concrete t e (role_in t e) (event_says t ok e (role_in t e) (event_named t e i) refl) new) (unshared_kind t x j));
  convergent_variant = λ e i q.
      let n = event_named t e i in
      let r = convergent_variant_lem t ok e n (event_says t ok e convergent n q).1 in
      (t.a r.0, in_map t.a (row_section t 70 r.0 r.1 r.2));
}
