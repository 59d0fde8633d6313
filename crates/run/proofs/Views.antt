-- Worlds that agree on the kinds that a formula mentions, and the view that an event's guards and actions have of a world, by cases on the kind.
use mathlib.Core.Path.{◌≡◌, refl, sym, ap, ◌∙◌, subst}
use mathlib.Core.Bool.{Bool, not, ◌||◌}
use mathlib.Core.Logic.{inl, inr}
use Prim.Native.Nat.{ℕ}
use lib.Dec.{T, eqb, eqb→eq}
use Rattle.lists.specs.All.{In}
use Rattle.lists.proofs.All.{all_in, all_at, all_imp}
use Rattle.formula.specs.Evaluate.{Env}
use Rattle.formula.proofs.Mentions.{Agree}
use Rattle.formula.proofs.Truth.{and_split}
use Rattle.machine.specs.Machine.{Kind, constant_kind, abstractVariable, concreteVariable, abstractParameter, concreteParameter, sharedVariable, Machine}
use Rattle.machine.specs.Machine.{is_shared, shared_variables}
use Rattle.machine.specs.Machine.{Role, abstract_initialisation, abstract_ordinary, concrete_initialisation, refining, convergent, anticipated}
use Rattle.sequent.specs.Order.{is_in}
use Rattle.sequent.specs.Required.{is_concrete}
use Rattle.sequent.proofs.Places.{is_in_in}
use Rattle.run.specs.Run.{by_kind, State, blank, world, view, AgreeOnShared}
use Rattle.run.specs.SafeRun.{own_state, not_initial}
use Rattle.run.proofs.WellFormed.{own_kinds, never, variable_kind, among, Variable, only_constants, abstract_event_kinds, concrete_event_kinds}

-- choices that agree at each kind of a set agree at every kind in it
pub by_kind_agree : {A : Type 0} (S : Kind → Bool) (K : Kind) {c a k q p z c₂ a₂ k₂ q₂ p₂ z₂ : A} →
    (T (S constant_kind) → c ≡ c₂) → (T (S abstractVariable) → a ≡ a₂) → (T (S concreteVariable) → k ≡ k₂) →
    (T (S abstractParameter) → q ≡ q₂) → (T (S concreteParameter) → p ≡ p₂) → (K ≡ sharedVariable → T (S sharedVariable) → z ≡ z₂) →
    T (S K) → by_kind K c a k q p z ≡ by_kind K c₂ a₂ k₂ q₂ p₂ z₂
by_kind_agree S constant_kind hc ha hk hq hp hz t = hc t
by_kind_agree S abstractVariable hc ha hk hq hp hz t = ha t
by_kind_agree S concreteVariable hc ha hk hq hp hz t = hk t
by_kind_agree S abstractParameter hc ha hk hq hp hz t = hq t
by_kind_agree S concreteParameter hc ha hk hq hp hz t = hp t
by_kind_agree S sharedVariable hc ha hk hq hp hz t = hz refl t

module _ (m : Machine) where
  pub same_shared : (s : State m) → AgreeOnShared m s s
  same_shared s = all_in (shared_variables m) (λ x i. refl)

  -- a shared variable that is seen is one of the machine's
  among_shared : (S : Kind → Bool) (x : ℕ) → T (among m S x) → m.kind x ≡ sharedVariable → In x (shared_variables m)
  among_shared S x t e =
      is_in_in (shared_variables m)
      (subst (λ K. T (not (is_shared K) || is_in (shared_variables m) x)) e (and_split (S (m.kind x)) (not (is_shared (m.kind x)) || is_in (shared_variables m) x) t).1)

  pub world_agree : (S : Kind → Bool) (c a k q p a' k' a₂ k₂ q₂ p₂ a₂' k₂' : State m) →
      (T (S abstractVariable) → a ≡ a₂) → (T (S concreteVariable) → k ≡ k₂) → (T (S abstractParameter) → q ≡ q₂) → (T (S concreteParameter) → p ≡ p₂) →
      (T (S sharedVariable) → AgreeOnShared m k k₂) → Agree (among m S) never (world m c a k q p a' k') (world m c a₂ k₂ q₂ p₂ a₂' k₂')
  world_agree S c a k q p a' k' a₂ k₂ q₂ p₂ a₂' k₂' ha hk hq hp hz = record {
    present = λ x t. by_kind_agree S (m.kind x) (λ s. refl) (λ s. ap (λ f. f x) (ha s)) (λ s. ap (λ f. f x) (hk s))
        (λ s. ap (λ f. f x) (hq s)) (λ s. ap (λ f. f x) (hp s)) (λ e s. all_at (hz s) (among_shared S x t e)) (and_split (S (m.kind x)) _ t).0;
    after = λ x t. absurd t;
  }

  pub own_same : (ro : Role) (s : State m) → own_state m ro s s ≡ s
  own_same abstract_initialisation s = refl
  own_same abstract_ordinary s = refl
  own_same (concrete_initialisation f) s = refl
  own_same (refining f) s = refl
  own_same convergent s = refl
  own_same anticipated s = refl

  -- the abstract machine's state has the concrete one's values of the shared variables, where the event is abstract
  abbrev pub Shares : Role → State m → State m → Type 0
  Shares ro a k = T (not (is_concrete ro)) → AgreeOnShared m a k

  -- the after value of an event's own variable, in a world and in the event's view
  pub world_after : (ro : Role) (c a k q p a' k' : State m) → Shares ro a' k' → (x : ℕ) → Variable m (variable_kind ro) x
      → (world m c a k q p a' k').after x ≡ own_state m ro a' k' x
  world_after ro c a k q p a' k' z x v = go ro z v
    where
      abstract : AgreeOnShared m a' k' → Variable m abstractVariable x → (world m c a k q p a' k').after x ≡ a' x
      abstract z (inl e) = rw e
      abstract z (inr e) = rw e.0 (sym (all_at z e.1))

      concrete : Variable m concreteVariable x → (world m c a k q p a' k').after x ≡ k' x
      concrete (inl e) = rw e
      concrete (inr e) = rw e.0

      go : (ro : Role) → Shares ro a' k' → Variable m (variable_kind ro) x → (world m c a k q p a' k').after x ≡ own_state m ro a' k' x
      go abstract_initialisation z v = abstract (z tt) v
      go abstract_ordinary z v = abstract (z tt) v
      go (concrete_initialisation f) z v = concrete v
      go (refining f) z v = concrete v
      go convergent z v = concrete v
      go anticipated z v = concrete v

  pub view_after : (ro : Role) (c s r n : State m) (x : ℕ) → Variable m (variable_kind ro) x → (view m ro c s r n).after x ≡ n x
  view_after abstract_initialisation c s r n = world_after abstract_initialisation c s s r (blank m) n n (λ t. same_shared n)
  view_after abstract_ordinary c s r n = world_after abstract_ordinary c s s r (blank m) n n (λ t. same_shared n)
  view_after (concrete_initialisation f) c s r n = world_after (concrete_initialisation f) c (blank m) s (blank m) r (blank m) n (λ t. absurd t)
  view_after (refining f) c s r n = world_after (refining f) c (blank m) s (blank m) r (blank m) n (λ t. absurd t)
  view_after convergent c s r n = world_after convergent c (blank m) s (blank m) r (blank m) n (λ t. absurd t)
  view_after anticipated c s r n = world_after anticipated c (blank m) s (blank m) r (blank m) n (λ t. absurd t)

-- an event with the parameters r sees its own machine's part of a world, whatever the after values are; an initialisation sees no parameters
module _ (m : Machine) (ro : Role) (c a k q p a' k' r : State m) (h : T (not_initial m ro) → own_state m ro q p ≡ r) (z : Shares m ro a k) where
  abbrev W : Env m.type
  W = world m c a k q p a' k'

  pub guard_agree : (n : State m) → Agree (among m (own_kinds ro)) never W (view m ro c (own_state m ro a k) r n)
  guard_agree n = go ro h z
    where
      initial : (a₂ k₂ q₂ p₂ a₂' k₂' : State m) → Agree (among m only_constants) never W (world m c a₂ k₂ q₂ p₂ a₂' k₂')
      initial a₂ k₂ q₂ p₂ a₂' k₂' =
          world_agree m only_constants c a k q p a' k' a₂ k₂ q₂ p₂ a₂' k₂' (λ t. absurd t) (λ t. absurd t) (λ t. absurd t) (λ t. absurd t) (λ t. absurd t)

      concrete : p ≡ r → Agree (among m concrete_event_kinds) never W (world m c (blank m) k (blank m) r (blank m) n)
      concrete e =
          world_agree m concrete_event_kinds c a k q p a' k' (blank m) k (blank m) r (blank m) n (λ t. absurd t) (λ t. refl) (λ t. absurd t) (λ t. e)
          (λ t. same_shared m k)

      go : (ro : Role) → (T (not_initial m ro) → own_state m ro q p ≡ r) → Shares m ro a k
          → Agree (among m (own_kinds ro)) never W (view m ro c (own_state m ro a k) r n)
      go abstract_initialisation g z = initial a a r (blank m) n n
      go abstract_ordinary g z =
          world_agree m abstract_event_kinds c a k q p a' k' a a r (blank m) n n (λ t. refl) (λ t. absurd t) (λ t. g tt) (λ t. absurd t)
          (λ t. all_imp (λ x e. sym e) (z tt))
      go (concrete_initialisation f) g z = initial (blank m) k (blank m) r (blank m) n
      go (refining f) g z = concrete (g tt)
      go convergent g z = concrete (g tt)
      go anticipated g z = concrete (g tt)

  pub action_agree : Shares m ro a' k' → (x : ℕ) → Variable m (variable_kind ro) x →
      Agree (among m (own_kinds ro)) (eqb x) W (view m ro c (own_state m ro a k) r (own_state m ro a' k'))
  action_agree z' x kx = record {
    present = (guard_agree (own_state m ro a' k')).present;
    after = λ y t. subst (λ u. W.after u ≡ (view m ro c (own_state m ro a k) r (own_state m ro a' k')).after u) (eqb→eq x y t)
        (world_after m ro c a k q p a' k' z' x kx ∙ sym (view_after m ro c (own_state m ro a k) r (own_state m ro a' k') x kx));
  }
