-- Capped counts, by whether the count is below the cap: adding keeps them so, and they decide whether a buffer has room.
use Prim.Native.Nat.{ℕ, ◌+◌, ◌*◌, ◌/◌, ◌≤◌, ◌<◌, ◌^◌}
use mathlib.Core.Path.{◌≡◌, refl, sym, ◌∙◌}
use mathlib.Core.Bool.{Bool, true, false}
use native.Mathlib.Omega.{arith}
use lib.Dec.{ltb}
use borrow.Author.Tests.{ltb-true, ltb-false, lt-ltb, le-ltb}
use Rattle.lists.specs.Choice.{pick}
use Rattle.spell.specs.Spell.{cap, capped, rest_start}

pub capped_below : (n : ℕ) → n < cap → capped n ≡ n
unfolding capped
capped_below n h = simp (lt-ltb n cap h)

pub capped_above : (n : ℕ) → cap ≤ n → capped n ≡ cap
unfolding capped
capped_above n h = simp (le-ltb n cap h)

-- by whether n is below the cap
capped_cases : (P : ℕ → Type 0) (n : ℕ) → (n < cap → P n) → (cap ≤ n → P cap) → P (capped n)
unfolding capped
capped_cases P n f g = go (ltb n cap) refl
  where
    go : (b : Bool) → ltb n cap ≡ b → P (pick b n cap)
    go true e = f (ltb-true n cap e)
    go false e = g (ltb-false n cap e)

pub capped_add : (m n : ℕ) → capped (capped m + capped n) ≡ capped (m + n)
capped_add m n =
    capped_cases (λ k. capped (k + capped n) ≡ capped (m + n)) m
    (λ h. capped_cases (λ k. capped (m + k) ≡ capped (m + n)) n (λ g. refl) (λ g. capped_above (m + cap) (omega arith) ∙ sym (capped_above (m + n) (omega arith))))
    (λ h. capped_above (cap + capped n) (omega arith) ∙ sym (capped_above (m + n) (omega arith)))

same_test : (x y u v : ℕ) → (x < y → u < v) → (y ≤ x → v ≤ u) → ltb x y ≡ ltb u v
same_test x y u v f g = go (ltb x y) refl
  where
    go : (b : Bool) → ltb x y ≡ b → b ≡ ltb u v
    go true e = sym (lt-ltb u v (f (ltb-true x y e)))
    go false e = sym (le-ltb u v (g (ltb-false x y e)))

-- refusal 15, room, decided by the capped count
pub capped_room : (size n : ℕ) → size < 2 ^ 64 → ltb (size / 38) (capped n) ≡ ltb size (38 * n)
capped_room size n h =
    capped_cases (λ k. ltb (size / 38) k ≡ ltb size (38 * n)) n
    (λ g. same_test (size / 38) n size (38 * n) (λ l. omega arith) (λ l. omega arith))
    (λ g. same_test (size / 38) cap size (38 * n) (λ l. omega arith) (λ l. absurd (omega arith)))

-- rows that have room leave what follows them
pub start_after : (size n : ℕ) → size < 2 ^ 64 → 38 * n ≤ size → rest_start size (capped n) ≡ 38 * n
unfolding rest_start
start_after size n h g =
    let below : n < cap = omega arith in
    rw capped_below (simp (le-ltb (size / 38) n (omega arith)))

-- rows that have no room leave nothing
pub start_full : (size n : ℕ) → size < 2 ^ 64 → size < 38 * n → rest_start size (capped n) ≡ size
unfolding rest_start
start_full size n h g = simp (capped_room size n h ∙ lt-ltb size (38 * n) g)
