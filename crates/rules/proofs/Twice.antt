-- What check 11 gives: an event has one witness for a target.
use Prim.Native.Nat.{ℕ, ◌<◌}
use mathlib.Core.Path.{◌≡◌, sym}
use mathlib.Core.Bool.{◌&&◌, ◌||◌}
use native.Mathlib.Omega.{arith}
use native.Mathlib.Decide.{dec_lt}
use lib.Dec.{eqb}
use Rattle.lists.proofs.Below.{some_shown}
use Rattle.lists.specs.Below.{some_below}
use Rattle.formula.proofs.Truth.{eq→eqb, and_join, or_right, false_refutes}
use Rattle.table.specs.Rows.{Rows, tagged, is_action}
use Rattle.rules.specs.Rules.{same_target, twice_offends}
use Rattle.rules.proofs.Obeys.{Obeys}
use Rattle.rules.proofs.Tags.{tagged_test}

module _ (t : Rows) (ok : Obeys t) where
  none_before : (i j : ℕ) → i < t.size → t.tag i ≡ 60 → t.tag j ≡ 60 → t.a j ≡ t.a i → t.b j ≡ t.b i → j < i → ⊥
  unfolding twice_offends
  none_before i j h p q a b l =
      let witnesses = and_join (tagged t 60 i) (tagged t 60 j) (tagged_test t 60 i p) (tagged_test t 60 j q) in
      let same = and_join (eqb (t.a j) (t.a i)) (eqb (t.b j) (t.b i)) (eq→eqb (t.a j) (t.a i) a) (eq→eqb (t.b j) (t.b i) b) in
      let sorts = or_right (is_action t i && is_action t j) (tagged t 60 i && tagged t 60 j) witnesses in
      false_refutes (some_below (same_target t i) i) (ok.twice i h)
      (some_shown (same_target t i) i j l
      (and_join ((is_action t i && is_action t j) || (tagged t 60 i && tagged t 60 j)) (eqb (t.a j) (t.a i) && eqb (t.b j) (t.b i)) sorts same))

  pub witness_once : (i j : ℕ) → i < t.size → j < t.size → t.tag i ≡ 60 → t.tag j ≡ 60 → t.a i ≡ t.a j → t.b i ≡ t.b j → i ≡ j
  witness_once i j h g p q a b = go (dec_lt i j) (dec_lt j i)
    where
      go : Dec (i < j) → Dec (j < i) → i ≡ j
      go (yes l) d = absurd (none_before j i g q p a b l)
      go (no f) (yes l) = absurd (none_before i j h p q (sym a) (sym b) l)
      go (no f) (no e) = omega arith
