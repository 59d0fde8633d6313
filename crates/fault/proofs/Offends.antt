-- A row offends by the rule of its check; a number that is none of the checks 3 to 11 has no offender.
use Prim.Native.Nat.{ℕ, ◌≤◌, ◌<◌}
use mathlib.Core.Path.{◌≡◌, ap, sym, ◌∙◌}
use mathlib.Core.Bool.{Bool, false}
use native.Mathlib.Omega.{arith}
use borrow.Author.Tests.{ne_eqb}
use lib.Dec.{eqb}
use Rattle.lists.proofs.Choice.{not_chosen}
use Rattle.table.specs.Names.{variant_tag}
use Rattle.table.specs.Rows.{Rows, Rising}
use Rattle.rules.specs.Rules.{offends, tag_offends}
use Rattle.rules.specs.Verdict.{PassedBefore}
use Rattle.rules.proofs.Tags.{rows_rising, tag_known}

-- the rule of the check k
pub by_check : (t : Rows) (check i k : ℕ) {r : Bool} → check ≡ k → r ≡ offends t k i → r ≡ offends t check i
by_check t check i k e h = h ∙ ap (λ c. offends t c i) (sym e)

-- none of the checks
pub record Other (check : ℕ) : Type 0 where
  pub not3 : check ≡ 3 → ⊥
  pub not4 : check ≡ 4 → ⊥
  pub not5 : check ≡ 5 → ⊥
  pub not6 : check ≡ 6 → ⊥
  pub not7 : check ≡ 7 → ⊥
  pub not8 : check ≡ 8 → ⊥
  pub not9 : check ≡ 9 → ⊥
  pub not10 : check ≡ 10 → ⊥
  pub not11 : check ≡ 11 → ⊥

pub offends_none : (t : Rows) (check i : ℕ) → Other check → offends t check i ≡ false
unfolding offends
offends_none t check i o =
    not_chosen (eqb check 3) _ _ (ne_eqb check 3 o.not3) ∙ not_chosen (eqb check 4) _ _ (ne_eqb check 4 o.not4) ∙ not_chosen (eqb check 5) _ _ (ne_eqb check 5 o.not5)
    ∙ not_chosen (eqb check 6) _ _ (ne_eqb check 6 o.not6) ∙ not_chosen (eqb check 7) _ _ (ne_eqb check 7 o.not7) ∙ not_chosen (eqb check 8) _ _ (ne_eqb check 8 o.not8)
    ∙ not_chosen (eqb check 9) _ _ (ne_eqb check 9 o.not9) ∙ not_chosen (eqb check 10) _ _ (ne_eqb check 10 o.not10) ∙ not_chosen (eqb check 11) _ _ (ne_eqb check 11 o.not11)

-- where check 3 has passed, no row offends against it, so tags are known and never fall
module _ (t : Rows) (check : ℕ) (passed : PassedBefore t check) (h : 3 < check) where
  tags_passed : (i : ℕ) → i < t.size → tag_offends t i ≡ false
  unfolding offends
  tags_passed i l = passed 3 i (omega arith) h l

  pub passed_rising : Rising t
  passed_rising = rows_rising t tags_passed

  pub passed_known : (i : ℕ) → i < t.size → t.tag i ≤ variant_tag
  passed_known i l = tag_known t i (tags_passed i l)
