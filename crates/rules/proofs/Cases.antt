-- The cases of the judgement of a table's rows, and of the verdict of bytes: each is the branch that its tests choose.
use Prim.Native.Nat.{ℕ, ◌+◌, ◌≤◌, ◌<◌}
use mathlib.Core.Path.{◌≡◌, refl, sym, subst, ◌∙◌}
use mathlib.Core.Bool.{Bool, true, false}
use mathlib.Core.List.{List}
use mathlib.Core.Logic.{⊎_elim}
use native.Mathlib.Nat.{eq-or-lt_of_le}
use native.Mathlib.Omega.{arith}
use borrow.Author.Tests.{lt-ltb, le-ltb, ltb-true, ltb-false}
use lib.Dec.{ltb}
use lib.ListN.{length}
use Rattle.std.specs.Prelude.{Ok, Err}
use Rattle.lists.specs.Below.{first}
use Rattle.lists.proofs.Choice.{chosen, not_chosen}
use Rattle.lists.proofs.First.{first_least}
use Rattle.table.specs.Rows.{Rows}
use Rattle.machine.specs.Described.{machine_of}
use Rattle.sequent.specs.Listed.{sequents}
use Rattle.rules.specs.Refusal.{refused}
use Rattle.rules.specs.Decoded.{framed, row_count, line_of, not_row, decoded}
use Rattle.rules.specs.Rules.{offends, missing}
use Rattle.rules.specs.Verdict.{first_row, first_check, PassedBefore, Passes, judge, verdict}

module _ (t : Rows) where
  pub judge_row : first_check t < 12 → judge t ≡ Err (refused (first_check t) (first_row t (first_check t) + 1))
  unfolding judge
  judge_row h = chosen (ltb (first_check t) 12) _ _ (lt-ltb (first_check t) 12 h)

  pub judge_missing : 12 ≤ first_check t → missing t ≡ true → judge t ≡ Err (refused 12 0)
  unfolding judge
  judge_missing h q = not_chosen (ltb (first_check t) 12) _ _ (le-ltb (first_check t) 12 h) ∙ chosen (missing t) _ _ q

  pub judge_accepted : 12 ≤ first_check t → missing t ≡ false → judge t ≡ Ok (length (sequents (machine_of t)))
  unfolding judge
  judge_accepted h q = not_chosen (ltb (first_check t) 12) _ _ (le-ltb (first_check t) 12 h) ∙ not_chosen (missing t) _ _ q

  pub row_at_most : (check : ℕ) → first_row t check ≤ t.size
  row_at_most check = omega (arith, (first_least (offends t check) t.size 0).to)

  -- a check that no row offends against has passed
  row_passes : (k i : ℕ) → t.size ≤ first_row t k → i < t.size → offends t k i ≡ false
  row_passes k i h l = (first_least (offends t k) t.size 0).before i (omega arith) (omega arith)

  pub passed_next : (check : ℕ) → PassedBefore t check → t.size ≤ first_row t check → PassedBefore t (check + 1)
  passed_next check passed h k i low high l =
      ⊎_elim (λ (e : k ≡ check). row_passes k i (subst (λ k. t.size ≤ first_row t k) (sym e) h) l) (λ (m : k < check). passed k i low m l) (eq-or-lt_of_le (omega arith))

  pub first_passed : PassedBefore t (first_check t)
  unfolding first_check
  first_passed k i low high l =
      row_passes k i (ltb-false (first_row t k) t.size ((first_least (λ check. ltb (first_row t check) t.size) 9 3).before k low high)) l

  -- an accepted table passes all, and is accepted with the count of its sequents
  judge_all : (n : ℕ) → judge t ≡ Ok n → (12 ≤ first_check t) × (missing t ≡ false)
  judge_all n e = go (ltb (first_check t) 12) refl (missing t) refl
    where
      differ : (c r : ℕ) → judge t ≡ Err (refused c r) → ⊥
      differ c r q = let z : ◌≡◌ {A = ℕ} 0 1 = (let w : Err (refused c r) ≡ Ok n = sym q ∙ e in cc) in omega arith

      go : (b : Bool) → ltb (first_check t) 12 ≡ b → (d : Bool) → missing t ≡ d → (12 ≤ first_check t) × (missing t ≡ false)
      go true p d q = absurd (differ _ _ (judge_row (ltb-true (first_check t) 12 p)))
      go false p true q = absurd (differ 12 0 (judge_missing (ltb-false (first_check t) 12 p) q))
      go false p false q = (ltb-false (first_check t) 12 p, q)

  pub judge_passes : (n : ℕ) → judge t ≡ Ok n → Passes t
  judge_passes n e = let (h, q) = judge_all n e in (λ k i low high l. first_passed k i low (omega arith) l, q)

  pub judged_count : (n : ℕ) → judge t ≡ Ok n → n ≡ length (sequents (machine_of t))
  judged_count n e = let (h, q) = judge_all n e in let w : Ok n ≡ Ok (length (sequents (machine_of t))) = sym e ∙ judge_accepted h q in cc

module _ (bytes : List ℕ) where
  -- the first row that is not in the row form, or the number of rows
  abbrev bad_row : ℕ
  bad_row = first (λ i. not_row (line_of bytes i)) (row_count bytes) 0

  pub verdict_frame : framed bytes ≡ false → verdict bytes ≡ Err (refused 1 0)
  unfolding verdict
  verdict_frame f = not_chosen (framed bytes) _ _ f

  pub verdict_column : framed bytes ≡ true → bad_row < row_count bytes → verdict bytes ≡ Err (refused 2 (bad_row + 1))
  unfolding verdict
  verdict_column f h = chosen (framed bytes) _ _ f ∙ chosen (ltb bad_row (row_count bytes)) _ _ (lt-ltb bad_row (row_count bytes) h)

  pub verdict_judge : framed bytes ≡ true → row_count bytes ≤ bad_row → verdict bytes ≡ judge (decoded bytes)
  unfolding verdict
  verdict_judge f h = chosen (framed bytes) _ _ f ∙ not_chosen (ltb bad_row (row_count bytes)) _ _ (le-ltb bad_row (row_count bytes) h)
