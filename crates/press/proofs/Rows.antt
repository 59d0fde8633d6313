-- What the rows of a step choose, as the code reads them: a row 90, the rows 91 behind it, and nothing more.
use mathlib.Core.Path.{◌≡◌, refl, sym, ap, ap₂, ◌∙◌}
use mathlib.Core.Bool.{Bool, true, false}
use mathlib.Core.List.{List, [], ◌∷◌, ◌++◌, append-nil}
use mathlib.Core.Logic.{inr}
use Prim.Native.Nat.{ℕ, ◌≤◌}
use native.Mathlib.Omega.{arith}
use borrow.Author.Tests.{ltb-true, ltb-false}
use lib.Dec.{ltb}
use Rattle.std.specs.Prelude.{Ok, Err, Option, Some, None}
use lib.ListN.{length, drop, length-drop}
use Rattle.lists.specs.Choice.{pick}
use Rattle.row.specs.Row.{greatest, width, row_length}
use Rattle.row.specs.Reading.{read_at, Line}
use Rattle.row.specs.declared.Row.{Row}
use Rattle.row.specs.declared.Place.{Place}
use Rattle.row.specs.declared.Read.{Read}
use Rattle.row.specs.declared.Read.TheVariants as read
use Rattle.table.specs.Rows.{Rows}
use Rattle.recording.specs.Lines.{lines}
use Rattle.recording.specs.Rows.{is_step_row}
use Rattle.recording.specs.Replay.{Values, Found, found, read_values}
use Rattle.recording.proofs.Lines.{lines_none, lines_nothing}
use Rattle.values.specs.declared.BadRow.{BadRow}
use Rattle.values.specs.Values.{Reached, wanted, lines_at, row_at, read_on, ReadsValues}
use Rattle.values.proofs.Reading.{end_lines, malformed_lines, row_lines, next_place, wanted_asked}
use Rattle.bench.specs.Choice.{Choice, none, asked, choice, choice_of as choice_found}
use Rattle.press.specs.Numbers.{choice_of}

-- ---- the rows 91
module _ (t : Rows) (e : ℕ) (step : List ℕ) (at : ℕ) (vs us : Values) (first : at ≡ row_length width) (r : Reached)
    (told : ReadsValues t e (wanted t true e) step at vs r us) where
  abbrev rows_read : Found
  rows_read = read_values t e (asked t e) 2 (lines_at step at) vs

  -- what was read
  read_is : read_on t r e [] step us ≡ rows_read
  read_is =
      ap (λ bytes. read_on t r e [] bytes us) (sym (append-nil step)) ∙ told [] (inr refl)
      ∙ ap₂ (λ xs bytes. read_values t e xs (row_at at) (lines_at bytes at) vs) (wanted_asked t e) (append-nil step)
      ∙ ap (λ i. read_values t e (asked t e) i (lines_at step at) vs) (ap row_at first)

  pub values_bad : (wrong : BadRow) → r ≡ Err wrong → choice_of None us ≡ choice_found e rows_read
  unfolding read_on
  values_bad wrong q = ap (choice_found e) (ap (λ r. read_on t r e [] step us) (sym q) ∙ read_is)

  -- they are the step's last where nothing is left
  pub values_end : (p : Place) → r ≡ Ok p → {c : Option ℕ} → c ≡ pick (ltb p.at (length step)) None (Some e) → choice_of c us ≡ choice_found e rows_read
  unfolding read_on read_values
  values_end p q is = ap (λ c. choice_of c us) is ∙ go (ltb p.at (length step)) refl ∙ ap (choice_found e) (ap (λ r. read_on t r e [] step us) (sym q) ∙ read_is)
    where
      left : length (lines_at step p.at) ≡ 0 → length step ≤ p.at
      left z = let d = length-drop p.at step in let n = ap length (lines_nothing (drop p.at step) (none_left (lines_at step p.at) z)) in omega (arith, d, n)
        where
          none_left : (ls : List Line) → length ls ≡ 0 → ls ≡ []
          none_left [] z = refl
          none_left (l ∷ ls) z = absurd (omega (arith, z))

      by_lines : (ls : List Line) → (length ls ≡ 0 → length step ≤ p.at) → ltb p.at (length step) ≡ true → none ≡ choice_found e (found us ls)
      by_lines [] f h = absurd (let l = ltb-true p.at (length step) h in let k = f refl in omega (arith, l, k))
      by_lines (l ∷ ls) f h = refl

      go : (b : Bool) → ltb p.at (length step) ≡ b → choice_of (pick b None (Some e)) us ≡ choice_found e (found us (lines_at step p.at))
      go true h = by_lines (lines_at step p.at) left h
      go false h =
          let l = ltb-false p.at (length step) h in
          let d = length-drop p.at step in
          sym (ap (λ ls. choice_found e (found us ls)) (lines_none (drop p.at step) (omega (arith, l, d))))

-- ---- the row 90
module _ (t : Rows) (step : List ℕ) (vs : Values) {f : Read} (seen : f ≡ read_at greatest width step 0) where
  lines_are : {ls : List Line} → lines (step ++ []) ≡ ls → lines step ≡ ls
  lines_are e = ap lines (sym (append-nil step)) ∙ e

  pub no_row : f ≡ read.End → none ≡ choice t (lines step) vs
  unfolding choice
  no_row q = sym (ap (λ ls. choice t ls vs) (lines_are (end_lines step [] 0 (inr refl) seen q)))

  pub bad_row_lem : f ≡ read.Malformed → none ≡ choice t (lines step) vs
  unfolding choice
  bad_row_lem q = let m = malformed_lines step [] 0 (inr refl) seen q in sym (ap (λ ls. choice t ls vs) (lines_are m.1))

  module _ (r : Row) (p : Place) (q : f ≡ read.Next r p) where
    pub row_place : (p.at ≡ row_length width) × (p.at ≤ length step)
    row_place = next_place step 0 seen r p q

    abbrev rest : Choice
    rest = choice_found r.a (read_values t r.a (asked t r.a) 2 (lines_at step p.at) vs)

    by_row : choice t (lines step) vs ≡ pick (is_step_row t false r) rest none
    unfolding choice
    by_row =
        ap (λ ls. choice t ls vs) (lines_are (row_lines step [] 0 (inr refl) seen r p q))
        ∙ ap (λ bytes. pick (is_step_row t false r) (choice_found r.a (read_values t r.a (asked t r.a) 2 (lines_at bytes p.at) vs)) none) (append-nil step)

    pub row_chosen : {good : Bool} {c : Choice} → good ≡ is_step_row t false r → good ≡ true → c ≡ rest → c ≡ choice t (lines step) vs
    row_chosen g h e = e ∙ sym (by_row ∙ ap (λ b. pick b rest none) (sym g ∙ h))

    pub row_other : {good : Bool} → good ≡ is_step_row t false r → good ≡ false → none ≡ choice t (lines step) vs
    row_other g h = sym (by_row ∙ ap (λ b. pick b rest none) (sym g ∙ h))
