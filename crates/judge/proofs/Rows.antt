-- The rows of axioms and guards, of which none outside the span of their tag has a fault; and the variables.
use mathlib.Core.Path.{◌≡◌, sym, ap, subst, ◌∙◌}
use mathlib.Core.Bool.{false, ◌&&◌, ◌||◌}
use mathlib.Core.List.{List}
use Prim.Native.Nat.{ℕ, ◌+◌, ◌≤◌, ◌<◌}
use native.Mathlib.Omega.{arith}
use native.Mathlib.Decide.{dec_lt}
use borrow.Author.Tests.{ne_eqb}
use lib.Dec.{eqb}
use lib.IntN.{ℤ}
use Rattle.lists.specs.Choice.{pick}
use Rattle.table.specs.Rows.{Rows, tagged, is_action, count}
use Rattle.scan.specs.declared.Span.{Span}
use Rattle.scan.specs.Spans.{of_tag, tag_span}
use Rattle.scan.proofs.Spans.{tag_spans}
use Rattle.recording.specs.Faults.{no_fault}
use Rattle.judge.specs.Judge.{judged_root, root_fault, row_fault, first_untrue, variable_fault, first_not_allowed}
use Rattle.judge.proofs.Faults.{NoneFrom, first_none, first_found}

module _ (t : Rows) (present : List ℤ) (tag e : ℕ) (small : tag ≤ 50) where
  untagged : (i : ℕ) → of_tag t tag i ≡ false → row_fault t present tag e i ≡ no_fault
  untagged i h =
      let k : tagged t tag i ≡ false = sym (ap (λ b. pick b (is_action t i) (tagged t tag i)) (ne_eqb tag 51 (λ z. omega (arith, small)))) ∙ h in
      ap (λ b. pick (b && (eqb tag 30 || eqb (t.a i) e)) (root_fault t present (judged_root t tag i)) no_fault) k

  -- before the span, and from its end on
  pub before_span : {s : Span} → s ≡ tag_span t tag → NoneFrom (row_fault t present tag e) 0 s.from
  before_span {s} q j l k = untagged j ((tag_spans t tag).below j (subst (λ s. j < s.from) q k))

  pub fault_found : {s : Span} → s ≡ tag_span t tag → (i : ℕ) → NoneFrom (row_fault t present tag e) 0 i → i < s.to → (row_fault t present tag e i ≡ 0 → ⊥)
      → row_fault t present tag e i ≡ first_untrue t present tag e
  unfolding first_untrue
  fault_found {s} q i h k f =
      let w = (tag_spans t tag).within in
      let l : i < (tag_span t tag).to = subst (λ s. i < s.to) q k in
      first_found (row_fault t present tag e) t.size 0 i (omega arith) (omega (arith, w, l)) h f

  pub no_fault_lem : {s : Span} → s ≡ tag_span t tag → (i : ℕ) → NoneFrom (row_fault t present tag e) 0 i → s.to ≤ i → no_fault ≡ first_untrue t present tag e
  unfolding first_untrue
  no_fault_lem {s} q i h k = sym (first_none (row_fault t present tag e) t.size 0 (λ j l m. go j m))
    where
      go : (j : ℕ) → j < 0 + t.size → row_fault t present tag e j ≡ no_fault
      go j m = either (dec_lt j i)
        where
          either : Dec (j < i) → row_fault t present tag e j ≡ no_fault
          either (yes b) = h j (omega arith) b
          either (no a) = untagged j ((tag_spans t tag).above j (subst (λ s. s.to ≤ j) q (omega (arith, a, k))) (omega (arith, m)))

-- ---- the variables
module _ (t : Rows) (present after : List ℤ) (e : ℕ) where
  pub variable_found : {n : ℕ} → n ≡ count t 10 → (x : ℕ) → NoneFrom (variable_fault t present after e) 1 (x + 1) → x < n → (variable_fault t present after e (x + 1) ≡ 0 → ⊥)
      → variable_fault t present after e (x + 1) ≡ first_not_allowed t present after e
  unfolding first_not_allowed
  variable_found q x h k f = first_found (variable_fault t present after e) (count t 10) 1 (x + 1) (omega arith) (omega (arith, q, k)) h f

  pub variables_none : {n : ℕ} → n ≡ count t 10 → (x : ℕ) → NoneFrom (variable_fault t present after e) 1 (x + 1) → n ≤ x → no_fault ≡ first_not_allowed t present after e
  unfolding first_not_allowed
  variables_none q x h k = sym (first_none (variable_fault t present after e) (count t 10) 1 (λ j l m. h j l (omega (arith, q, k, m))))
