-- 01, Rows: the operators that well-definedness and the forms of entries add to a formula, by name.
use Rattle.std.specs.Prelude.{ℕ}
use Rattle.formula.specs.Tree.{equal, less, at_most, logicalNot, and, or, implies}
use Rattle.reply.specs.Spelled.{unary_number, binary_number, connective_number}

abbrev pub literal_number : ℕ
literal_number = 1

abbrev pub identifier_number : ℕ
identifier_number = 2

abbrev pub after_number : ℕ
after_number = 3

abbrev pub equals_number : ℕ
equals_number = binary_number equal

abbrev pub less_number : ℕ
less_number = binary_number less

abbrev pub at_most_number : ℕ
at_most_number = binary_number at_most

abbrev pub bottom_number : ℕ
bottom_number = 31

abbrev pub not_number : ℕ
not_number = unary_number logicalNot

abbrev pub and_number : ℕ
and_number = connective_number and

abbrev pub or_number : ℕ
or_number = connective_number or

abbrev pub implies_number : ℕ
implies_number = connective_number implies
