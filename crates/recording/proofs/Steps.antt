-- One step of a replay, both ways: a step that is read and has no fault is a step of the run with the values of its rows, and the rows of a step of the run are read
-- and have no fault. The values at hand stay those of the constants and of the state that the last step left.
use Prim.Native.Nat.{ℕ, ◌<◌}
use mathlib.Core.Path.{◌≡◌, refl, sym, ap, ◌∙◌, subst}
use mathlib.Core.Bool.{Bool, true, false, not, ◌&&◌, ◌||◌}
use mathlib.Core.List.{List}
use native.Mathlib.Omega.{arith}
use lib.Dec.{T, eqb, eqb→eq}
use lib.IntN.{pos}
use lib.ListN.{get_or}
use Rattle.lists.specs.Choice.{pick}
use Rattle.lists.specs.All.{All, In}
use Rattle.lists.specs.Below.{numbers}
use Rattle.lists.proofs.All.{all_in}
use Rattle.lists.proofs.Below.{keep_in, in_keep, numbers_in, in_numbers}
use Rattle.lists.proofs.Distinct.{Distinct, pairwise_keep, numbers_distinct}
use Rattle.row.specs.Reading.{Line}
use Rattle.formula.proofs.Truth.{and_split, and_join, or_cases, or_left, or_right, test_true, true_test, eq→eqb}
use Rattle.answer.specs.Stored.{stored_value, stored}
use Rattle.table.specs.Names.{is_variable_of}
use Rattle.table.specs.Rows.{Rows, count, named, kind_of, owner_of}
use Rattle.table.proofs.Sections.{named_bounds, bounds_named}
use Rattle.machine.specs.Machine.{Machine}
use Rattle.machine.specs.Described.{kind_numbered, machine_of}
use Rattle.machine.proofs.Described.{variable_named, named_variable_lem}
use Rattle.rules.specs.Sight.{own_parameter}
use Rattle.rules.proofs.Obeys.{Obeys}
use Rattle.rules.proofs.Full.{few_identifiers}
use Rattle.rules.proofs.Identifiers.{parameter_owner}
use Rattle.run.specs.Run.{by_kind, State, blank}
use Rattle.recording.specs.Rows.{is_state_variable, is_initial, is_given, logged}
use Rattle.recording.specs.Replay.{Values, found, read_values, moved}
use Rattle.recording.specs.Recorded.{logged_value}
use Rattle.recording.proofs.Step.{Held}
use Rattle.recording.proofs.Values.{Sized, value_at, read_present, move_moved}

-- ---- kinds: a variable isn't given, a constant is at the initialisation alone, a parameter at its event
variable_not_given : (k : ℕ) (initial own : Bool) → T (is_variable_of 3 k) → pick initial (eqb k 1) (eqb k 5 && own) ≡ false
variable_not_given k initial own h =
    or_cases (eqb k 3) (eqb k 6) h (λ i. subst Not (sym (eqb→eq k 3 i)) (either initial)) (λ i. subst Not (sym (eqb→eq k 6 i)) (either initial))
  where
    Not : ℕ → Type 0
    Not k = pick initial (eqb k 1) (eqb k 5 && own) ≡ false

    either : (b : Bool) → pick b false false ≡ false
    either true = refl
    either false = refl

-- the variables of the concrete machine
pub variable_of_lem : (t : Rows) (x : ℕ) → In x (machine_of t).concrete_variables → T (is_state_variable t x)
unfolding machine_of
variable_of_lem t x i = (variable_named t 3 x i).1

pub of_variable : (t : Rows) (x : ℕ) → T (named t 10 x) → T (is_state_variable t x) → In x (machine_of t).concrete_variables
unfolding machine_of
of_variable t x n v = named_variable_lem t 3 x n v

module _ (t : Rows) where
  abbrev machine : Machine
  machine = machine_of t

  -- ---- the identifiers of a step's rows
  pub in_logged : (e x : ℕ) → In x (logged t e) → T (named t 10 x) × T (is_given t e x || is_state_variable t x)
  unfolding logged
  in_logged e x i =
      let p = in_keep (λ x. is_given t e x || is_state_variable t x) (numbers (count t 10) 1) i in
      let r = in_numbers (count t 10) 1 x p.0 in
      (bounds_named t 10 x r.0 (omega (arith, r.1)), p.1)

  pub logged_in : (e x : ℕ) → T (named t 10 x) → T (is_given t e x || is_state_variable t x) → In x (logged t e)
  unfolding logged
  logged_in e x n h =
      let b = named_bounds t 10 x n in
      keep_in (λ x. is_given t e x || is_state_variable t x) (numbers_in (count t 10) 1 x b.0 (omega (arith, b.1))) h

  pub logged_distinct : (e : ℕ) → Distinct (logged t e)
  unfolding logged
  logged_distinct e = pairwise_keep (λ x. is_given t e x || is_state_variable t x) (numbers_distinct (count t 10) 1)

  -- ---- the values at hand between two steps: the constants c and the state s
  pub record Ready (vs : Values) (c s : State machine) : Type 0 where
    pub size : Sized vs
    pub constants : (x : ℕ) → T (named t 10 x) → kind_of t x ≡ 1 → stored machine.type vs.present x ≡ c x
    pub variables : (x : ℕ) → T (named t 10 x) → T (is_state_variable t x) → stored machine.type vs.present x ≡ s x

  -- the values of a step's rows are those of constants c, parameters q and the state k
  abbrev pub LoggedAre : ℕ → Values → State machine → State machine → State machine → Type 0
  LoggedAre e ws c q k = (x : ℕ) → In x (logged t e) → value_at t e ws x ≡ logged_value t c q k x

  abbrev pub presently : Values → State machine
  presently vs = stored machine.type vs.present

  abbrev pub afterwards : Values → State machine
  afterwards vs = stored machine.type vs.after

  pub value_given : (e : ℕ) (ws : Values) (x : ℕ) → is_given t e x ≡ true → value_at t e ws x ≡ presently ws x
  unfolding stored
  value_given e ws x g = ap (λ b. stored_value (machine.type x) (get_or (pick b ws.present ws.after) x (pos 0))) g

  pub value_after : (e : ℕ) (ws : Values) (x : ℕ) → is_given t e x ≡ false → value_at t e ws x ≡ afterwards ws x
  unfolding stored
  value_after e ws x g = ap (λ b. stored_value (machine.type x) (get_or (pick b ws.present ws.after) x (pos 0))) g

  pub not_given : (e x : ℕ) → T (is_state_variable t x) → is_given t e x ≡ false
  not_given e x h = variable_not_given (kind_of t x) (is_initial t e) (eqb (owner_of t x) e) h

  -- what is logged, by kind
  pub logged_variable : (c q k : State machine) (x : ℕ) → T (is_state_variable t x) → logged_value t c q k x ≡ k x
  unfolding machine_of kind_numbered
  logged_variable c q k x h =
      or_cases (eqb (kind_of t x) 3) (eqb (kind_of t x) 6) h
      (λ i. ap (λ n. by_kind (kind_numbered n) (c x) (blank machine x) (k x) (blank machine x) (q x) (k x)) (eqb→eq (kind_of t x) 3 i))
      (λ i. ap (λ n. by_kind (kind_numbered n) (c x) (blank machine x) (k x) (blank machine x) (q x) (k x)) (eqb→eq (kind_of t x) 6 i))

  pub logged_constant : (c q k : State machine) (x : ℕ) → kind_of t x ≡ 1 → logged_value t c q k x ≡ c x
  unfolding machine_of kind_numbered
  logged_constant c q k x i = ap (λ n. by_kind (kind_numbered n) (c x) (blank machine x) (k x) (blank machine x) (q x) (k x)) i

  pub logged_parameter : (c q k : State machine) (x : ℕ) → kind_of t x ≡ 5 → logged_value t c q k x ≡ q x
  unfolding machine_of kind_numbered
  logged_parameter c q k x i = ap (λ n. by_kind (kind_numbered n) (c x) (blank machine x) (k x) (blank machine x) (q x) (k x)) i

  -- the values of a step's rows, chosen from what is stored
  pub stored_logged : (e : ℕ) (ws : Values) (c q : State machine) → (T (is_initial t e) → c ≡ presently ws) → (T (not (is_initial t e)) → q ≡ presently ws) → LoggedAre e ws c q (afterwards ws)
  stored_logged e ws c q f g x i = go (is_initial t e) refl (in_logged e x i).1
    where
      after : T (is_state_variable t x) → value_at t e ws x ≡ logged_value t c q (afterwards ws) x
      after h = value_after e ws x (not_given e x h) ∙ sym (logged_variable c q (afterwards ws) x h)

      go : (b : Bool) → is_initial t e ≡ b → T (is_given t e x || is_state_variable t x) → value_at t e ws x ≡ logged_value t c q (afterwards ws) x
      go true b h = or_cases (is_given t e x) (is_state_variable t x) h
          (λ j. let k : kind_of t x ≡ 1 = eqb→eq (kind_of t x) 1 (subst (λ b. T (pick b (eqb (kind_of t x) 1) (eqb (kind_of t x) 5 && eqb (owner_of t x) e))) b j) in
          value_given e ws x (test_true _ j) ∙ ap (λ (c : State machine). c x) (sym (f (true_test _ b))) ∙ sym (logged_constant c q (afterwards ws) x k))
          after
      go false b h = or_cases (is_given t e x) (is_state_variable t x) h
          (λ j. let p = and_split (eqb (kind_of t x) 5) (eqb (owner_of t x) e) (subst (λ b. T (pick b (eqb (kind_of t x) 1) (eqb (kind_of t x) 5 && eqb (owner_of t x) e))) b j) in
          value_given e ws x (test_true _ j) ∙ ap (λ (q : State machine). q x) (sym (g (true_test _ (ap not b)))) ∙ sym (logged_parameter c q (afterwards ws) x (eqb→eq (kind_of t x) 5 p.0)))
          after

  module _ (ok : Obeys t) where
    pub named_small : (x : ℕ) → T (named t 10 x) → x < 65
    named_small x n = let b = named_bounds t 10 x n in let f = few_identifiers t ok.full in omega (arith, b.1, f)

    pub logged_small : (e : ℕ) → All (λ x. x < 65) (logged t e)
    logged_small e = all_in (logged t e) (λ x i. named_small x (in_logged e x i).0)

    pub variables_small : All (λ x. x < 65) machine.concrete_variables
    unfolding machine_of
    variables_small = all_in machine.concrete_variables (λ x i. named_small x (variable_named t 3 x i).0)

    module _ (e : ℕ) (ws : Values) (c q k : State machine) (are : LoggedAre e ws c q k) where
      -- what the rows give
      present_is : (x : ℕ) → T (named t 10 x) → is_given t e x ≡ true → presently ws x ≡ logged_value t c q k x
      present_is x n g = sym (value_given e ws x g) ∙ are x (logged_in e x n (or_left (is_given t e x) (is_state_variable t x) (true_test _ g)))

      after_is : (x : ℕ) → T (named t 10 x) → T (is_state_variable t x) → afterwards ws x ≡ k x
      after_is x n h =
          sym (value_after e ws x (not_given e x h)) ∙ are x (logged_in e x n (or_right (is_given t e x) (is_state_variable t x) h)) ∙ logged_variable c q k x h

      -- the initialisation
      pub held_first : is_initial t e ≡ true → (s : State machine) → Held t e ws.present ws.after c s q k
      held_first b s = record {
        constants = λ x n i. present_is x n (ap (λ b. pick b (eqb (kind_of t x) 1) (eqb (kind_of t x) 5 && eqb (owner_of t x) e)) b ∙ ap (λ k. eqb k 1) i) ∙ logged_constant c q k x i;
        variables = λ h. absurd (subst (λ b. T (not b)) b h);
        parameters = λ x n i o.
            let own : T (own_parameter t e x) = and_join (eqb (kind_of t x) 4 || eqb (kind_of t x) 5) (eqb (owner_of t x) e)
            (or_right (eqb (kind_of t x) 4) (eqb (kind_of t x) 5) (eq→eqb (kind_of t x) 5 i)) (eq→eqb (owner_of t x) e o) in
            absurd (subst (λ b. T (not b)) b (parameter_owner t ok e x n own).1);
        after_values = after_is;
      }

      -- another event: what it isn't given is as the last step left it
      pub held_later : is_initial t e ≡ false → (s : State machine) (i : ℕ) (ls rest : List Line) (vs : Values) → Ready vs c s
          → read_values t e (logged t e) i ls vs ≡ found ws rest → Held t e ws.present ws.after c s q k
      unfolding stored
      held_later b s i ls rest vs ready reads = record {
        constants = λ x n j. same x (given_by x ∙ ap (λ k. eqb k 5 && eqb (owner_of t x) e) j) ∙ ready.constants x n j;
        variables = λ h x n v. same x (not_given e x v) ∙ ready.variables x n v;
        parameters = λ x n j o.
            present_is x n (given_by x ∙ test_true _ (and_join (eqb (kind_of t x) 5) (eqb (owner_of t x) e) (eq→eqb (kind_of t x) 5 j) (eq→eqb (owner_of t x) e o)))
            ∙ logged_parameter c q k x j;
        after_values = after_is;
      }
        where
          given_by : (x : ℕ) → is_given t e x ≡ (eqb (kind_of t x) 5 && eqb (owner_of t x) e)
          given_by x = ap (λ b. pick b (eqb (kind_of t x) 1) (eqb (kind_of t x) 5 && eqb (owner_of t x) e)) b

          same : (x : ℕ) → is_given t e x ≡ false → presently ws x ≡ presently vs x
          same x g = ap (stored_value (machine.type x)) (read_present t e (logged t e) i ls vs ws rest x g reads)

    -- the values at hand after a step
    pub ready_next : (e : ℕ) (ws : Values) (c s q k : State machine) → Sized ws → Held t e ws.present ws.after c s q k → Ready (moved t ws) c k
    unfolding stored
    ready_next e ws c s q k size held =
        let m = move_moved machine.concrete_variables ws size variables_small in
        record {
          size = m.size;
          constants = λ x n i. ap (stored_value (machine.type x)) (m.others x (λ j. unlike x i (variable_of_lem t x j))) ∙ held.constants x n i;
          variables = λ x n v. ap (stored_value (machine.type x)) (m.moved x (of_variable t x n v)) ∙ held.after_values x n v;
        }
      where
        unlike : (x : ℕ) → kind_of t x ≡ 1 → T (is_state_variable t x) → ⊥
        unlike x i v = subst (λ k. T (is_variable_of 3 k)) i v
