-- 01, Sequents: "An entry has a form and two numbers": an entry as the code holds it and as rows 81 and 82 write it.
use Rattle.std.specs.Prelude.{ℕ}
use Rattle.sequent.specs.declared.Entry.{Entry as Numbers}
use Rattle.sequent.specs.Entry.{Entry, written, primed, defined, moves, feasible, witnessed, natural, decreases, not_increased, unchanged}

abbrev pub numbers : ℕ → ℕ → ℕ → Numbers
numbers form a b = record { form = form; first = a; second = b }

-- the forms of hypotheses
abbrev pub written_form : ℕ
written_form = 1

abbrev pub moves_form : ℕ
moves_form = 4

-- "Forms 1, 2, 3, 7, 8 name a root, then 0.", and so does 9; form 10 names a variable, then 0
abbrev pub numbers_of : Entry → Numbers
numbers_of (written r) = numbers written_form r 0
numbers_of (primed r) = numbers 2 r 0
numbers_of (defined r) = numbers 3 r 0
numbers_of (moves e x) = numbers moves_form e x
numbers_of (feasible e x) = numbers 5 e x
numbers_of (witnessed e x) = numbers 6 e x
numbers_of (natural r) = numbers 7 r 0
numbers_of (decreases r) = numbers 8 r 0
numbers_of (not_increased r) = numbers 9 r 0
numbers_of (unchanged x) = numbers 10 x 0
