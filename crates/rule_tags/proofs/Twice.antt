-- Check 11 concerns actions and witnesses alone: a row that is neither shares its target with none, and the tag of one that is either has a span.
use Prim.Native.Nat.{ℕ, ◌≤◌}
use mathlib.Core.Path.{◌≡◌, refl, ap, sym}
use mathlib.Core.Bool.{Bool, true, false, not, ◌&&◌, ◌||◌, true≢false}
use mathlib.Core.Logic.{◌⊎◌, inl, inr}
use native.Mathlib.Omega.{arith}
use borrow.Author.Tests.{eqb-true}
use lib.Dec.{ltb, eqb}
use Rattle.lists.proofs.Below.{count_never}
use Rattle.table.specs.Names.{becomes_equal_tag, becomes_such_tag, witness_tag, variant_tag}
use Rattle.table.specs.Rows.{Rows, tagged, is_action}
use Rattle.rules.specs.Rules.{same_target, twice_offends}
use Rattle.scan.specs.Query.{span_tag}

neither : (a w x y z : Bool) → not (a || w) ≡ true → (((a && x) || (w && y)) && z) ≡ false
neither true w x y z e = absurd (true≢false (sym e))
neither false true x y z e = absurd (true≢false (sym e))
neither false false x y z e = refl

pub twice_none : (t : Rows) (i : ℕ) → not (is_action t i || tagged t 60 i) ≡ true → twice_offends t i ≡ false
unfolding twice_offends
twice_none t i e = ap (ltb 0) (count_never (same_target t i) (λ j. neither (is_action t i) (tagged t 60 i) (is_action t j) (tagged t 60 j) _ e) i)

-- an action or a witness
target_kind : (x : ℕ) → ((eqb x becomes_equal_tag || eqb x becomes_such_tag) || eqb x witness_tag) ≡ true → (x ≡ becomes_equal_tag) ⊎ ((x ≡ becomes_such_tag) ⊎ (x ≡ witness_tag))
target_kind x e = go (eqb x becomes_equal_tag) (eqb x becomes_such_tag) refl refl e
  where
    go : (p q : Bool) → eqb x becomes_equal_tag ≡ p → eqb x becomes_such_tag ≡ q → ((p || q) || eqb x witness_tag) ≡ true → (x ≡ becomes_equal_tag) ⊎ ((x ≡ becomes_such_tag) ⊎ (x ≡ witness_tag))
    go true q ep eq e = inl (eqb-true x becomes_equal_tag ep)
    go false true ep eq e = inr (inl (eqb-true x becomes_such_tag eq))
    go false false ep eq e = inr (inr (eqb-true x witness_tag e))

pub target_known : (x : ℕ) → ((eqb x becomes_equal_tag || eqb x becomes_such_tag) || eqb x witness_tag) ≡ true → span_tag x ≤ variant_tag
target_known x kind = go (target_kind x kind)
  where
    go : (x ≡ becomes_equal_tag) ⊎ ((x ≡ becomes_such_tag) ⊎ (x ≡ witness_tag)) → span_tag x ≤ variant_tag
    go (inl e) = rw e (omega arith)
    go (inr (inl e)) = rw e (omega arith)
    go (inr (inr e)) = rw e (omega arith)
