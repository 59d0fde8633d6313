-- What check 5 gives of an event, and with it check 12 of the initialisations: the abstract one is event 1, since no event of either machine can stand
-- before it, and the concrete one is there.
use Prim.Native.Nat.{ℕ, zero, suc, ◌≤◌, ◌<◌}
use mathlib.Core.Path.{◌≡◌, sym, ap, ◌∙◌, subst}
use mathlib.Core.Bool.{false, not, ◌&&◌, ◌||◌}
use mathlib.Core.Logic.{◌⊎◌, inl, inr}
use native.Mathlib.Omega.{arith}
use lib.Dec.{T, ltb, eqb, eqb→eq, ltb→lt}
use Rattle.lists.specs.Below.{some_below}
use Rattle.lists.proofs.Below.{some_found, some_shown}
use Rattle.formula.proofs.Truth.{eq→eqb, and_split, and_join, or_cases, or_neither, and_not_right, false_refutes, rule_met, test_false, choice_true}
use Rattle.table.specs.Rows.{Rows, tagged, start, named, row_of, number_in, machine_number, class_of, refined_by}
use Rattle.table.proofs.Sections.{bounds_named, named_row, row_named, row_of_number, tagged_place, place_tagged}
use Rattle.machine.specs.Machine.{Role}
use Rattle.machine.specs.Described.{role_numbered}
use Rattle.machine.proofs.Roles.{EventNumbers, RoleSays, role_says}
use Rattle.rules.specs.Rules.{is_event, good_machine, good_class, abstract_ordinary_event, good_refined, out_of_order, event_offends, initialises}
use Rattle.rules.proofs.Missing.{nothing_missing}
use Rattle.rules.proofs.Obeys.{Obeys}
use Rattle.rules.proofs.Tags.{tagged_test, tags_rising}

-- the parts of the check, of a row
record GoodEvent (t : Rows) (i : ℕ) : Type 0 where
  numbers : EventNumbers (t.a i) (t.b i)
  refined : T (good_refined t i)
  ordered : out_of_order t i ≡ false

-- the machines and classes that 01 and 02 name pass the check
pub good_numbers : (t : Rows) (i : ℕ) → EventNumbers (t.a i) (t.b i) → T (good_machine t i) × T (good_class t i)
good_numbers t i n = either (t.a i) (t.b i) n.machine_is n.abstract_class n.concrete_class
  where
    Good : ℕ → ℕ → Type 0
    Good a b = T (eqb a 1 || eqb a 2) × T (ltb b 2 || ((eqb b 2 || eqb b 3) && eqb a 2))

    abstract : (b : ℕ) → b ≤ 1 → Good 1 b
    abstract zero h = (tt, tt)
    abstract (suc zero) h = (tt, tt)
    abstract (suc (suc b)) h = absurd (omega arith)

    concrete : (b : ℕ) → b ≤ 3 → Good 2 b
    concrete zero h = (tt, tt)
    concrete (suc zero) h = (tt, tt)
    concrete (suc (suc zero)) h = (tt, tt)
    concrete (suc (suc (suc zero))) h = (tt, tt)
    concrete (suc (suc (suc (suc b)))) h = absurd (omega arith)

    either : (a b : ℕ) → (a ≡ 1) ⊎ (a ≡ 2) → (a ≡ 1 → b ≤ 1) → b ≤ 3 → Good a b
    either a b (inl e) f h = subst (λ a. Good a b) (sym e) (abstract b (f e))
    either a b (inr e) f h = subst (λ a. Good a b) (sym e) (concrete b h)

-- an initialisation's row
abbrev InitialRow : Rows → ℕ → ℕ → Type 0
InitialRow t machine i = (i < t.size) × (t.tag i ≡ 40) × (t.a i ≡ machine) × (t.b i ≡ 0)

module _ (t : Rows) (ok : Obeys t) where
  event_row : (i : ℕ) → i < t.size → t.tag i ≡ 40 → GoodEvent t i
  unfolding event_offends
  event_row i h e =
      let in_order = not (out_of_order t i) in
      let rest = good_class t i && (good_refined t i && in_order) in
      let s = and_split (good_machine t i) rest (rule_met (tagged t 40 i) (good_machine t i && rest) (ok.events i h) (tagged_test t 40 i e)) in
      let u = and_split (good_class t i) (good_refined t i && in_order) s.1 in
      let w = and_split (good_refined t i) in_order u.1 in
      record { numbers = good s.0 u.0; refined = w.0; ordered = test_false (out_of_order t i) w.1 }
    where
      machine : T (good_machine t i) → (t.a i ≡ 1) ⊎ (t.a i ≡ 2)
      machine g = or_cases (eqb (t.a i) 1) (eqb (t.a i) 2) g (λ p. inl (eqb→eq (t.a i) 1 p)) (λ p. inr (eqb→eq (t.a i) 2 p))

      new : T (eqb (t.b i) 2 || eqb (t.b i) 3) → t.b i ≤ 3
      new g = or_cases (eqb (t.b i) 2) (eqb (t.b i) 3) g (λ p. omega (arith, eqb→eq (t.b i) 2 p)) (λ p. omega (arith, eqb→eq (t.b i) 3 p))

      class : T (good_class t i) → (t.b i < 2) ⊎ ((t.b i ≤ 3) × (t.a i ≡ 2))
      class g =
          or_cases (ltb (t.b i) 2) ((eqb (t.b i) 2 || eqb (t.b i) 3) && eqb (t.a i) 2) g (λ p. inl (ltb→lt (t.b i) 2 p))
          (λ p. let s = and_split (eqb (t.b i) 2 || eqb (t.b i) 3) (eqb (t.a i) 2) p in inr (new s.0, eqb→eq (t.a i) 2 s.1))

      both : (t.a i ≡ 1) ⊎ (t.a i ≡ 2) → (t.b i < 2) ⊎ ((t.b i ≤ 3) × (t.a i ≡ 2)) → EventNumbers (t.a i) (t.b i)
      both m (inl c) = record { machine_is = m; abstract_class = λ e. omega arith; concrete_class = omega arith }
      both m (inr c) = record { machine_is = m; abstract_class = λ e. omega (arith, c.1); concrete_class = c.0 }

      good : T (good_machine t i) → T (good_class t i) → EventNumbers (t.a i) (t.b i)
      good g c = both (machine g) (class c)

  named_event_row : (e : ℕ) → T (named t 40 e) → GoodEvent t (row_of t 40 e)
  named_event_row e h = let r = named_row t (tags_rising t ok) 40 e h in event_row (row_of t 40 e) r.0 r.1

  -- what an event's role says of its numbers
  pub event_says : (e : ℕ) (ro : Role) → T (named t 40 e) → role_numbered (machine_number t e) (class_of t e) (refined_by t e) ≡ ro
      → RoleSays (machine_number t e) (class_of t e) (refined_by t e) ro
  event_says e ro h q =
      subst (RoleSays (machine_number t e) (class_of t e) (refined_by t e)) q
      (role_says (machine_number t e) (class_of t e) (refined_by t e) (named_event_row e h).numbers)

  -- "refined event (abstract, class 1) of a concrete ordinary one"
  pub event_refines : (e : ℕ) → T (named t 40 e) → machine_number t e ≡ 2 → class_of t e ≡ 1
      → T (named t 40 (refined_by t e)) × (machine_number t (refined_by t e) ≡ 1) × (class_of t (refined_by t e) ≡ 1)
  event_refines e h p q =
      let f = refined_by t e in
      let ordinary = and_join (eqb (machine_number t e) 2) (eqb (class_of t e) 1) (eq→eqb (machine_number t e) 2 p) (eq→eqb (class_of t e) 1 q) in
      let chosen = choice_true (eqb (machine_number t e) 2 && eqb (class_of t e) 1) (abstract_ordinary_event t f) (eqb f 0) ordinary in
      let r = subst T chosen (named_event_row e h).refined in
      let s = and_split (named t 40 f) (eqb (machine_number t f) 1 && eqb (class_of t f) 1) r in
      let u = and_split (eqb (machine_number t f) 1) (eqb (class_of t f) 1) s.1 in
      (s.0, eqb→eq (machine_number t f) 1 u.0, eqb→eq (class_of t f) 1 u.1)

  initial_row : (machine : ℕ) → T (some_below (initialises t machine) t.size) → (i : ℕ) × InitialRow t machine i
  initial_row machine h =
      let r = some_found (initialises t machine) t.size h in
      let i = r.0 in
      let s = and_split (is_event t machine i) (eqb (t.b i) 0) r.2 in
      let u = and_split (tagged t 40 i) (eqb (t.a i) machine) s.0 in
      (i, (r.1, eqb→eq (t.tag i) 40 u.0, eqb→eq (t.a i) machine u.1, eqb→eq (t.b i) 0 s.1))

  -- no event stands before the abstract initialisation
  nothing_before : (i : ℕ) → InitialRow t 1 i → (j : ℕ) → j < i → t.tag j ≡ 40 → ⊥
  nothing_before i r j h e = either (event_row j (omega (arith, r.0)) e).numbers.machine_is
    where
      parts : ((eqb (t.a i) 1 && some_below (is_event t 2) i) ≡ false) × ((eqb (t.b i) 0 && some_below (is_event t (t.a i)) i) ≡ false)
      parts = or_neither (eqb (t.a i) 1 && some_below (is_event t 2) i) (eqb (t.b i) 0 && some_below (is_event t (t.a i)) i) (event_row i r.0 r.1).ordered

      is_at : (machine : ℕ) → t.a j ≡ machine → T (some_below (is_event t machine) i)
      is_at machine q = some_shown (is_event t machine) i j h (and_join (tagged t 40 j) (eqb (t.a j) machine) (tagged_test t 40 j e) (eq→eqb (t.a j) machine q))

      either : (t.a j ≡ 1) ⊎ (t.a j ≡ 2) → ⊥
      either (inl q) =
          false_refutes (some_below (is_event t (t.a i)) i) (and_not_right (eqb (t.b i) 0) _ parts.1 (eq→eqb (t.b i) 0 r.3))
          (is_at (t.a i) (q ∙ sym r.2))
      either (inr q) = false_refutes (some_below (is_event t 2) i) (and_not_right (eqb (t.a i) 1) _ parts.0 (eq→eqb (t.a i) 1 r.2)) (is_at 2 q)

  -- the abstract initialisation is event 1
  pub first_event : T (named t 40 1) × (machine_number t 1 ≡ 1) × (class_of t 1 ≡ 0)
  first_event =
      let r = initial_row 1 (nothing_missing t ok).abstract_initialised in
      let i = r.0 in
      let up = tags_rising t ok in
      let p = tagged_place t up 40 i r.1.0 r.1.1 in
      let f : start t 40 < i → ⊥ = λ l. nothing_before i r.1 (start t 40) l (place_tagged t up 40 (start t 40) (omega arith) (omega (arith, p.1))).1 in
      let e : start t 40 ≡ i = omega (arith, p.0) in
      let row : row_of t 40 1 ≡ i = omega arith in
      (bounds_named t 40 1 (omega arith) (omega (arith, p.1)), ap t.a row ∙ r.1.2, ap t.b row ∙ r.1.3)

  -- there is a concrete initialisation
  pub concrete_initialisation_lem : (e : ℕ) × T (named t 40 e) × (machine_number t e ≡ 2) × (class_of t e ≡ 0)
  concrete_initialisation_lem =
      let r = initial_row 2 (nothing_missing t ok).concrete_initialised in
      let i = r.0 in
      let e = row_of_number t (tags_rising t ok) 40 i r.1.0 r.1.1 in
      (number_in t 40 i, row_named t (tags_rising t ok) 40 i r.1.0 r.1.1, ap t.a e ∙ r.1.2, ap t.b e ∙ r.1.3)
