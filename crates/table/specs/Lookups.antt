-- What the code asks of nodes and identifiers, and how many rows and words it has room for.
use Rattle.std.specs.Prelude.{ℕ, ◌*◌, ◌/◌, Bool, ◌&&◌, ◌||◌, ltb, eqb}
use Rattle.lists.specs.Choice.{pick}
use Rattle.row.specs.Row.{width, row_length}
use Rattle.table.specs.Names.{abstract_variable_kind, concrete_variable_kind, is_variable_of}
use Rattle.table.specs.Rows.{Rows, kind_of}
use Rattle.table.specs.Limits.{most_bytes}

-- 01: "Operands have smaller numbers than their node": the operand x of the node n; 0, which names no node, where x is no earlier one
abbrev pub operand_node : ℕ → ℕ → ℕ
operand_node n x = pick (ltb 0 x && ltb x n) x 0

-- "2 abstract variable, 3 concrete variable", 6 shared variable: whether an identifier is one of them
abbrev pub is_variable_number : Rows → ℕ → Bool
is_variable_number t x = eqb (kind_of t x) abstract_variable_kind || is_variable_of concrete_variable_kind (kind_of t x)

-- the most rows that a table has, and their words, four a row
abbrev pub most_rows : ℕ
most_rows = most_bytes / row_length width

abbrev pub most_words : ℕ
most_words = 4 * most_rows
