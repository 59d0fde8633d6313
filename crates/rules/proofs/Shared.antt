-- What the rules say of a shared variable, in the words of 02, request 2: its owner, its witnesses, its initial actions, which events may assign it, and where a
-- formula may mention it. By the numbers of its kind, and of a table that meets every rule by its checks.
use Prim.Native.Nat.{ℕ, ◌+◌, ◌<◌}
use mathlib.Core.Path.{◌≡◌, refl, sym, ap, ◌∙◌, subst}
use mathlib.Core.Bool.{Bool, true, false, not, ◌&&◌, ◌||◌}
use mathlib.Core.Logic.{◌⊎◌, inl, inr}
use native.Mathlib.Omega.{arith}
use lib.Dec.{T, eqb, eqb→eq}
use Rattle.lists.specs.Choice.{pick}
use Rattle.table.specs.Names.{is_variable_of}
use Rattle.table.specs.Rows.{Rows, tagged, named, kind_of, owner_of, machine_number, class_of}
use Rattle.formula.proofs.Truth.{and_join, or_right, or_cases}
use Rattle.rules.specs.Sight.{has_kind, has_variable_kind, may_mention, may_mention_after}
use Rattle.rules.specs.Rules.{named_variable, action_target, assigned}
use Rattle.rules.proofs.Obeys.{Obeys}
use Rattle.rules.proofs.Identifiers.{unowned}
use Rattle.rules.proofs.References.{witness_row}
use Rattle.rules.proofs.Missing.{initial_action}

module _ (t : Rows) where
  -- a shared variable is one of either machine, by the kind of its own
  shared_of : (own x : ℕ) → kind_of t x ≡ 6 → T (has_variable_kind t own x)
  shared_of own x k = subst (λ k. T (is_variable_of own k)) (sym k) (go (eqb 6 own))
    where
      go : (b : Bool) → T (b || true)
      go true = tt
      go false = tt

  -- "3 after value of a variable" takes it
  pub shared_named : (x : ℕ) → T (named t 10 x) → kind_of t x ≡ 6 → T (named_variable t x)
  shared_named x n k =
      and_join (named t 10 x) (has_kind t 2 x || has_variable_kind t 3 x) n (or_right (has_kind t 2 x) (has_variable_kind t 3 x) (shared_of 3 x k))

  -- "both machines' events may assign it"
  pub shared_assignable : (e x : ℕ) → T (named t 40 e) → T (named t 10 x) → kind_of t x ≡ 6 → T (action_target t e x)
  shared_assignable e x n m k =
      let own = has_variable_kind t (1 + machine_number t e) x in
      and_join (named t 40 e) (named t 10 x && own) n (and_join (named t 10 x) own m (shared_of (1 + machine_number t e) x k))

  -- what a table that meets every rule has of a shared variable
  pub record SharedVariable (x : ℕ) : Type 0 where
    pub owner : owner_of t x ≡ 0
    -- "It has no witness"
    pub unwitnessed : (i : ℕ) → i < t.size → t.tag i ≡ 60 → t.b i ≡ x → ⊥
    -- "both initialisations must" assign it
    pub initialised : (e : ℕ) → T (named t 40 e) → class_of t e ≡ 0 → T (assigned t e x)

  pub shared_variable : Obeys t → (x : ℕ) → T (named t 10 x) → kind_of t x ≡ 6 → SharedVariable x
  shared_variable ok x n k = record {
    owner = unowned t ok x n (λ p. omega (arith, p)) (λ p. omega (arith, p));
    unwitnessed = λ i h e q.
        let same : kind_of t (t.b i) ≡ 6 = ap (kind_of t) q ∙ k in
        or_cases (has_kind t 2 (t.b i)) (has_kind t 4 (t.b i)) (witness_row t ok i h e).2
        (λ p. omega (arith, eqb→eq (kind_of t (t.b i)) 2 p)) (λ p. omega (arith, eqb→eq (kind_of t (t.b i)) 4 p));
    initialised = λ e m c. initial_action t ok e x m c n (shared_of (1 + machine_number t e) x k);
  }

  -- "formulas may mention it where either kind of variable is allowed": x is shared, y an abstract and z a concrete variable, and the event of the row, where it
  -- has one, is of one of the machines
  module _ (x y z : ℕ) (kx : kind_of t x ≡ 6) (ky : kind_of t y ≡ 2) (kz : kind_of t z ≡ 3) where
    abbrev present : ℕ → Bool → ℕ → Bool
    present machine initial kind = is_variable_of (1 + machine) kind && not initial

    either_machine : (machine : ℕ) (initial : Bool) → (machine ≡ 1) ⊎ (machine ≡ 2)
        → present machine initial 6 ≡ (present machine initial 2 || present machine initial 3)
    either_machine machine true (inl e) = rw e
    either_machine machine false (inl e) = rw e
    either_machine machine true (inr e) = rw e
    either_machine machine false (inr e) = rw e

    pub shared_mentioned : (i : ℕ) → (machine_number t (t.a i) ≡ 1) ⊎ (machine_number t (t.a i) ≡ 2)
        → may_mention t i x ≡ (may_mention t i y || may_mention t i z)
    unfolding may_mention
    shared_mentioned i m =
        let machine = machine_number t (t.a i) in
        let initial = eqb (class_of t (t.a i)) 0 in
        rw (kx, ky, kz) (go (present machine initial 6) (present machine initial 2) (present machine initial 3) (tagged t 30 i) (tagged t 31 i) (tagged t 32 i)
        (tagged t 70 i) (tagged t 60 i) (either_machine machine initial m))
      where
        both : (b c : Bool) → ((b || c) || false) ≡ ((b || false) || (c || false))
        both true c = refl
        both false c = refl

        go : (a b c alone abstract concrete variant witness : Bool) → a ≡ (b || c)
            → pick alone false (pick abstract true (pick concrete true (pick variant true (pick witness (a || false) a))))
            ≡ (pick alone false (pick abstract true (pick concrete true (pick variant false (pick witness (b || false) b))))
            || pick alone false (pick abstract false (pick concrete true (pick variant true (pick witness (c || false) c)))))
        go a b c true abstract concrete variant witness e = refl
        go a b c false true concrete variant witness e = refl
        go a b c false false true variant witness e = refl
        go a b c false false false true witness e = refl
        go a b c false false false false true e = ap (λ a. a || false) e ∙ both b c
        go a b c false false false false false e = e

    -- its after value may be mentioned in witnesses as a concrete variable's
    pub shared_after : (i : ℕ) → t.tag i ≡ 60 → may_mention_after t i x ≡ may_mention_after t i z
    unfolding may_mention_after
    shared_after i e = rw (e, kx, kz)
