-- An entry is known by its form and its numbers: by cases.
use mathlib.Core.Path.{◌≡◌, refl}
use Rattle.sequent.specs.Entry.{Entry, written, primed, defined, moves, feasible, witnessed, natural, decreases, not_increased, unchanged}
use Rattle.sequent.specs.Numbers.{numbers_of}
use Rattle.sequent.specs.Forms.{entry_of}

pub entry_of_numbers : (h : Entry) → entry_of (numbers_of h) ≡ h
unfolding entry_of
entry_of_numbers (written r) = refl
entry_of_numbers (primed r) = refl
entry_of_numbers (defined r) = refl
entry_of_numbers (moves e x) = refl
entry_of_numbers (feasible e x) = refl
entry_of_numbers (witnessed e x) = refl
entry_of_numbers (natural r) = refl
entry_of_numbers (decreases r) = refl
entry_of_numbers (not_increased r) = refl
entry_of_numbers (unchanged x) = refl
