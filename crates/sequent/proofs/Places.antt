-- What the order looks up: the places of a list's members rise if they are distinct, a test tells members from others, and the variable of an action's root is
-- the one that the action sets. Each by recursion on the list, of which the first member is the number looked for or not.
use mathlib.Core.Path.{◌≡◌, refl, sym, ap, subst, ◌∙◌}
use mathlib.Core.Bool.{Bool, true, false}
use mathlib.Core.List.{List, [], ◌∷◌, map, flat_map}
use Prim.Native.Nat.{ℕ, suc, ◌<◌}
use native.Mathlib.Omega.{arith}
use lib.Dec.{T, eqb}
use lib.ListN.{length}
use borrow.Author.Tests.{lt-ltb, le-ltb, eq-eqb, ne_eqb}
use Rattle.lists.specs.Choice.{pick}
use Rattle.lists.specs.All.{In, here, there}
use Rattle.lists.proofs.Distinct.{Distinct, pairwise_head, pairwise_tail, pairwise_right, pairwise_across, pairwise_imp}
use Rattle.lists.specs.Pairwise.{Pairwise, pairwise_nil, pairwise_cons}
use Rattle.lists.proofs.Choice.{chosen, not_chosen}
use Rattle.lists.proofs.All.{all_in, all_at, in_map, in_flat, in_dec}
use Rattle.machine.specs.Machine.{Action}
use Rattle.sequent.specs.Order.{place_in, is_in, action_roots, variable_of}

place_first : {x r : ℕ} (xs : List ℕ) → r ≡ x → place_in (x ∷ xs) r ≡ 0
unfolding place_in
place_first {x} {r} xs e = chosen (eqb r x) 0 (suc (place_in xs r)) (eq-eqb r x e)

place_later : {x r : ℕ} (xs : List ℕ) → ¬ (r ≡ x) → place_in (x ∷ xs) r ≡ suc (place_in xs r)
unfolding place_in
place_later {x} {r} xs d = not_chosen (eqb r x) 0 (suc (place_in xs r)) (ne_eqb r x d)

pub places_rise : {xs : List ℕ} → Distinct xs → Pairwise (λ r q. place_in xs r < place_in xs q) xs
places_rise pairwise_nil = pairwise_nil
places_rise (pairwise_cons {x = x} {xs = xs} h hs) =
    pairwise_cons {x = x} (all_in xs (λ r i. omega (arith, place_first {x = x} xs refl, later r i)))
    (pairwise_imp (places_rise hs) (λ r q i j less. omega (arith, later r i, later q j)))
  where
    later : (r : ℕ) → In r xs → place_in (x ∷ xs) r ≡ suc (place_in xs r)
    later r i = place_later xs (λ e. all_at h i (sym e))

-- of two numbers that each member of a list has, each member's two stand at one place
pub places_agree : {A : Type 0} (f g : A → ℕ) {x : A} {xs : List A} → Distinct (map f xs) → Distinct (map g xs) → In x xs
    → place_in (map f xs) (f x) ≡ place_in (map g xs) (g x)
places_agree f g h k (here {xs = xs} e) = place_first (map f xs) (ap f e) ∙ sym (place_first (map g xs) (ap g e))
places_agree f g h k (there {xs = xs} i) =
    place_later (map f xs) (λ e. all_at (pairwise_head h) (in_map f i) (sym e))
    ∙ ap suc (places_agree f g (pairwise_tail h) (pairwise_tail k) i)
    ∙ sym (place_later (map g xs) (λ e. all_at (pairwise_head k) (in_map g i) (sym e)))

place_inside : {r : ℕ} {xs : List ℕ} → In r xs → place_in xs r < length xs
unfolding place_in
place_inside (here {xs = xs} e) = omega (arith, place_first xs e)
place_inside {r} (there {x = x} {xs = xs} i) = by_test (eqb r x) (place_inside i)
  where
    by_test : (b : Bool) → place_in xs r < length xs → pick b 0 (suc (place_in xs r)) < suc (length xs)
    by_test true h = omega arith
    by_test false h = omega arith

place_outside : {r : ℕ} (xs : List ℕ) → ¬ In r xs → place_in xs r ≡ length xs
unfolding place_in
place_outside [] out = refl
place_outside (x ∷ xs) out = place_later xs (λ e. out (here e)) ∙ ap suc (place_outside xs (λ i. out (there i)))

pub is_in_member : {r : ℕ} {xs : List ℕ} → In r xs → is_in xs r ≡ true
unfolding is_in
is_in_member {r} {xs} i = lt-ltb (place_in xs r) (length xs) (place_inside i)

pub is_in_other : {r : ℕ} (xs : List ℕ) → ¬ In r xs → is_in xs r ≡ false
unfolding is_in
is_in_other {r} xs out = le-ltb (place_in xs r) (length xs) (omega (arith, place_outside xs out))

pub is_in_in : {r : ℕ} (xs : List ℕ) → T (is_in xs r) → In r xs
is_in_in {r} xs h = go (in_dec r xs)
  where
    go : Dec (In r xs) → In r xs
    go (yes i) = i
    go (no out) = absurd (subst T (is_in_other xs out) h)

pub variable_found : (action : ℕ → Action) {x r : ℕ} {xs : List ℕ} → Distinct (flat_map (λ x. action_roots (action x)) xs) → In x xs → In r (action_roots (action x))
    → variable_of action xs r ≡ x
unfolding variable_of flat_map
variable_found action {r = r} d (here e) j = chosen _ _ _ (is_in_member (subst (λ x. In r (action_roots (action x))) e j)) ∙ sym e
variable_found action d (there {x = y} i) j =
    not_chosen _ _ _ (is_in_other (action_roots (action y)) (λ k. pairwise_across (action_roots (action y)) d k (in_flat _ i j) refl))
    ∙ variable_found action (pairwise_right (action_roots (action y)) d) i j
