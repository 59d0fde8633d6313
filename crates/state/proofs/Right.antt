-- Whether a record is wrong, of all identifiers, one after another; and whether that makes a state.
use mathlib.Core.Path.{◌≡◌, sym, ap, ap₂, ◌∙◌}
use mathlib.Core.Bool.{Bool, true, false, not, ◌&&◌, ◌||◌}
use mathlib.Core.List.{List}
use Prim.Native.Nat.{ℕ, suc, ◌+◌, ◌-◌, ◌≤◌, ◌<◌}
use native.Mathlib.Omega.{arith}
use native.Mathlib.Numerals.{add-one}
use lib.Dec.{eqb}
use lib.IntN.{ℤ}
use lib.ListN.{length}
use Rattle.lists.specs.Below.{numbers}
use Rattle.lists.specs.Different.{some_of}
use Rattle.table.specs.Rows.{Rows, count}
use Rattle.bench.specs.State.{is_wrong, is_state}

module _ (t : Rows) (zs : List ℤ) (types : List ℕ) where
  pub state_is : {n : ℕ} {right : Bool} → n ≡ count t 10 → right ≡ not (some_of (is_wrong t zs types) (numbers (count t 10) 1))
      → ((eqb (length zs) n && eqb (length types) n) && right) ≡ is_state t zs types
  unfolding is_state
  state_is p q = ap₂ (λ n right. (eqb (length zs) n && eqb (length types) n) && right) p q

module _ (P : ℕ → Bool) (n : ℕ) where
  some_from : (x : ℕ) → x < n → some_of P (numbers (n - x) (x + 1)) ≡ (P (x + 1) || some_of P (numbers (n - (x + 1)) (x + 1 + 1)))
  unfolding some_of numbers
  some_from x h =
      let m : n - x ≡ suc (n - (x + 1)) = omega arith in
      ap (λ m. some_of P (numbers m (x + 1))) m ∙ ap (λ y. P (x + 1) || some_of P (numbers (n - (x + 1)) y)) (sym (add-one (x + 1)))

  pub some_here : (x : ℕ) → x < n → P (x + 1) ≡ true → some_of P (numbers (n - x) (x + 1)) ≡ true
  some_here x h p = some_from x h ∙ ap (λ b. b || some_of P (numbers (n - (x + 1)) (x + 1 + 1))) p

  pub some_next : (x : ℕ) → x < n → P (x + 1) ≡ false → some_of P (numbers (n - x) (x + 1)) ≡ some_of P (numbers (n - (x + 1)) (x + 1 + 1))
  some_next x h p = some_from x h ∙ ap (λ b. b || some_of P (numbers (n - (x + 1)) (x + 1 + 1))) p

  pub some_end : (x : ℕ) → n ≤ x → some_of P (numbers (n - x) (x + 1)) ≡ false
  unfolding some_of numbers
  some_end x h = let m : n - x ≡ 0 = omega arith in ap (λ m. some_of P (numbers m (x + 1))) m
