-- The tables of goals and segments, read at a known number and at one that is none of those that a match names; where the rows of a segment end.
use Prim.Native.Nat.{ℕ, ◌≤◌, ◌<◌}
use mathlib.Core.Path.{◌≡◌, refl, sym, ap, ◌∙◌}
use mathlib.Core.Bool.{Bool, true, false}
use native.Mathlib.Omega.{arith}
use lib.Dec.{ltb, eqb}
use lib.ListN.{get_or-eq_default}
use borrow.Author.Tests.{eq-eqb, ne_eqb, ltb-true, ltb-false}
use Rattle.lists.specs.Choice.{pick}
use Rattle.lists.specs.All.{All, all_nil, all_cons}
use Rattle.lists.specs.Below.{numbers}
use Rattle.lists.proofs.All.{all_at}
use Rattle.lists.proofs.Below.{numbers_in}
use Rattle.lists.proofs.Choice.{chosen, not_chosen}
use Rattle.lists.proofs.Range.{table_rest}
use Rattle.table.specs.Rows.{Rows}
use Rattle.sequent.specs.Entry.{defined}
use Rattle.sequent.specs.Numbers.{numbers as numbers_at, numbers_of, written_form, moves_form}
use Rattle.select.specs.declared.Selection.TheVariants.{None}
use Rattle.select.specs.declared.Item.TheVariants.{A}
use Rattle.select.specs.Each.{item_at}
use Rattle.walk.specs.declared.Slot.{Slot}
use Rattle.segments.specs.declared.Segment.{Segment}
use Rattle.segments.specs.Segments.{goals, goal_of, segments, segment_of, segment_table, segment_at, segment_entry}

module _ (t : Rows) where
  pub goal_rest : (k e x : ℕ) → (k ≡ 2 → ⊥) → (k ≡ 3 → ⊥) → (k ≡ 4 → ⊥) → (k ≡ 5 → ⊥) → (k ≡ 6 → ⊥) → (k ≡ 7 → ⊥) → (k ≡ 8 → ⊥) → defined x ≡ goal_of t k e x
  unfolding numbers goal_of
  goal_rest k e x n2 n3 n4 n5 n6 n7 n8 =
      sym (ap (λ f. f e x)
      (table_rest (goals t) (λ e x. defined x) k
      (all_cons (λ p. refl) (all_cons (λ p. refl) (all_cons (λ p. absurd (n2 p)) (all_cons (λ p. absurd (n3 p)) (all_cons (λ p. absurd (n4 p))
      (all_cons (λ p. absurd (n5 p)) (all_cons (λ p. absurd (n6 p)) (all_cons (λ p. absurd (n7 p)) (all_cons (λ p. absurd (n8 p)) all_nil)))))))))))

  -- a segment whose number is known
  pub at_number : (s : Slot) {g : ℕ} (k : ℕ) → g ≡ k → {r : Segment} → r ≡ segment_at t s k → r ≡ segment_at t s g
  at_number s k p q = q ∙ sym (ap (segment_at t s) p)

  -- the entry of a row, by whether the segment's are moves
  module _ (s : Slot) (k j x : ℕ) (r : Segment) (p : r ≡ segment_at t s k) (q : x ≡ item_at t r.item s.event j) where
    item : x ≡ item_at t (segment_at t s k).item s.event j
    item = q ∙ ap (λ r. item_at t r.item s.event j) p

    pub entry_moves : r.form ≡ moves_form → numbers_at moves_form s.event x ≡ numbers_of (segment_entry t s k j)
    unfolding segment_entry
    entry_moves h =
        ap (numbers_at moves_form s.event) item
        ∙ ap numbers_of (sym (chosen (eqb (segment_at t s k).form moves_form) _ _ (eq-eqb _ moves_form (ap (λ r. r.form) (sym p) ∙ h))))

    pub entry_written : (r.form ≡ moves_form → ⊥) → numbers_at written_form x 0 ≡ numbers_of (segment_entry t s k j)
    unfolding segment_entry
    entry_written h =
        ap (λ x. numbers_at written_form x 0) item
        ∙ ap numbers_of (sym (not_chosen (eqb (segment_at t s k).form moves_form) _ _ (ne_eqb _ moves_form (λ e. h (ap (λ r. r.form) p ∙ e)))))

module _ (t : Rows) (s : Slot) where
  abbrev pub end : ℕ → ℕ
  end k = (segment_at t s k).before

  -- a segment's rows are the table's
  pub end_within : s.row < t.size → (k : ℕ) → end k ≤ t.size
  unfolding segment_at numbers
  end_within h k = by_number (ltb k segments) refl
    where
      own : (b : Bool) → pick b s.row t.size ≤ t.size
      own true = omega arith
      own false = omega arith

      all : All (λ k. (segment_at t s k).before ≤ t.size) (numbers segments 0)
      all = all_cons (own (eqb s.group 0)) (all_cons (own (eqb s.group 1)) (all_cons (own (eqb s.group 2)) (all_cons (own (eqb s.group 4)) (all_cons (own false) (all_cons (own false) (all_cons (own false) all_nil))))))

      by_number : (b : Bool) → ltb k segments ≡ b → (segment_at t s k).before ≤ t.size
      by_number true p = all_at all (numbers_in segments 0 k (omega arith) (omega (arith, ltb-true k segments p)))
      by_number false p =
          let none : (segment_at t s k).before ≡ 0 = ap (λ r. r.before) (get_or-eq_default (segment_table t s) (segment_of None 0 1 A) (ltb-false k segments p)) in
          omega (arith, none)
