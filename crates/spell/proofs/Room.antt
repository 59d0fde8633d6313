-- The capped count of rows decides whether a buffer has room for them, and is their count where it has: a buffer has fewer than 2^64 bytes.
use Prim.Native.Nat.{ℕ, ◌*◌, ◌/◌, ◌≤◌, ◌<◌, ◌^◌}
use mathlib.Core.Path.{◌≡◌, sym, ap, ◌∙◌}
use native.Mathlib.Omega.{arith}
use lib.Dec.{ltb}
use borrow.Author.Tests.{ltb-true, ltb-false, lt-ltb, le-ltb}
use Rattle.spell.specs.Spell.{capped}
use Rattle.spell.proofs.Capped.{capped_below, capped_room}

module _ (size n r : ℕ) (small : size < 2 ^ 64) (counted : r ≡ capped n) where
  same_test : ltb (size / 38) r ≡ ltb size (38 * n)
  same_test = ap (ltb (size / 38)) counted ∙ capped_room size n small

  pub rows_above : size / 38 < r → size / 38 < n
  rows_above h = omega (arith, ltb-true size (38 * n) (sym same_test ∙ lt-ltb (size / 38) r h))

  pub rows_within : r ≤ size / 38 → (n ≤ size / 38) × (r ≡ n)
  rows_within h =
      let fits : 38 * n ≤ size = ltb-false size (38 * n) (sym same_test ∙ le-ltb (size / 38) r h) in
      (omega arith, counted ∙ capped_below n (omega arith))
