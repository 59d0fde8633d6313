-- The worked table is accepted with 25 sequents, and its rows are these numbers: both computed.
use mathlib.Core.Path.{◌≡◌, refl}
use mathlib.Core.List.{flat_map}
use Rattle.std.specs.Prelude.{Ok}
use Rattle.lists.specs.Below.{count_below, first, numbers, keep}
use Rattle.lists.specs.Different.{some_of}
use Rattle.number.specs.Number.{columns_of}
use Rattle.number.specs.Reading.{number_of, scan_from}
use Rattle.row.specs.Row.{row_bytes}
use Rattle.table.specs.Rows.{section, count, start}
use Rattle.formula.specs.Mentions.{mentions}
use Rattle.formula.specs.Identifiers.{identifiers, divides}
use Rattle.machine.specs.Operator.{operator_numbered, operand_sort, result_sort}
use Rattle.machine.specs.Described.{type_numbered, kind_numbered, role_numbered, tree_to, tree_of, action_of, belonging, variables_of, machine_of}
use Rattle.sequent.specs.Listed.{in_order, event_sequents, obligations, sequents}
use Rattle.rules.specs.Decoded.{line_of, words_of}
use Rattle.rules.specs.Tags.{columns_used, row_limit}
use Rattle.rules.specs.Sorts.{shape_of, sort_of}
use Rattle.rules.specs.Sight.{may_mention, may_mention_after, sees_only}
use Rattle.rules.specs.Rules.{tag_offends, full_offends, event_offends, identifier_offends, root_at, reference_offends, root_sort, sort_offends, uses_to}
use Rattle.rules.specs.Rules.{use_offends, sight_offends, twice_offends, offends, missing}
use Rattle.rules.specs.Verdict.{first_check, judge, verdict}
use Rattle.reply.specs.Printed.{rows_bytes}
use Prim.Native.Nat.{ℕ}
use mathlib.Core.List.{List, [], ◌∷◌}
use Rattle.worked.specs.Worked.{bytes}

unfoldable pub words : List ℕ
words = 10 ∷ 1 ∷ 1 ∷ 0 ∷ 10 ∷ 6 ∷ 1 ∷ 0 ∷ 10 ∷ 2 ∷ 2 ∷ 0 ∷ 10 ∷ 3 ∷ 1 ∷ 0 ∷ 10 ∷ 4 ∷ 1 ∷ 2 ∷ 10 ∷ 5 ∷ 1 ∷ 4 ∷ 10 ∷ 5 ∷ 1 ∷ 6 ∷ 20 ∷ 1 ∷ 0 ∷ 0 ∷ 20 ∷ 2 ∷ 1 ∷ 0 ∷ 20 ∷ 22 ∷ 1 ∷ 2 ∷ 20 ∷ 1 ∷ 0 ∷ 0 ∷ 20 ∷ 2 ∷ 2 ∷ 0 ∷ 20 ∷ 22 ∷ 4 ∷ 5 ∷ 20 ∷ 2 ∷ 3 ∷ 0 ∷ 20 ∷ 5 ∷ 0 ∷ 0 ∷ 20 ∷ 20 ∷ 7 ∷ 8 ∷ 20 ∷ 2 ∷ 4 ∷ 0 ∷ 20 ∷ 2 ∷ 1 ∷ 0 ∷ 20 ∷ 22 ∷ 10 ∷ 11 ∷ 20 ∷ 2 ∷ 1 ∷ 0 ∷ 20 ∷ 5 ∷ 0 ∷ 0 ∷ 20 ∷ 2 ∷ 5 ∷ 0 ∷ 20 ∷ 1 ∷ 0 ∷ 0 ∷ 20 ∷ 20 ∷ 15 ∷ 16 ∷ 20 ∷ 32 ∷ 17 ∷ 0 ∷ 20 ∷ 1 ∷ 0 ∷ 0 ∷ 20 ∷ 2 ∷ 2 ∷ 0 ∷ 20 ∷ 2 ∷ 5 ∷ 0 ∷ 20 ∷ 13 ∷ 20 ∷ 21 ∷ 20 ∷ 22 ∷ 19 ∷ 22 ∷ 20 ∷ 1 ∷ 0 ∷ 0 ∷ 20 ∷ 3 ∷ 2 ∷ 0 ∷ 20 ∷ 22 ∷ 24 ∷ 25 ∷ 20 ∷ 2 ∷ 1 ∷ 0 ∷ 20 ∷ 2 ∷ 1 ∷ 0 ∷ 20 ∷ 3 ∷ 3 ∷ 0 ∷ 20 ∷ 5 ∷ 0 ∷ 0 ∷ 20 ∷ 20 ∷ 29 ∷ 30 ∷ 20 ∷ 2 ∷ 6 ∷ 0 ∷ 20 ∷ 1 ∷ 0 ∷ 0 ∷ 20 ∷ 22 ∷ 32 ∷ 33 ∷ 20 ∷ 32 ∷ 34 ∷ 0 ∷ 20 ∷ 1 ∷ 0 ∷ 0 ∷ 20 ∷ 2 ∷ 2 ∷ 0 ∷ 20 ∷ 2 ∷ 6 ∷ 0 ∷ 20 ∷ 13 ∷ 37 ∷ 38 ∷ 20 ∷ 22 ∷ 36 ∷ 39 ∷ 20 ∷ 2 ∷ 2 ∷ 0 ∷ 20 ∷ 2 ∷ 6 ∷ 0 ∷ 20 ∷ 14 ∷ 41 ∷ 42 ∷ 20 ∷ 2 ∷ 5 ∷ 0 ∷ 20 ∷ 2 ∷ 6 ∷ 0 ∷ 20 ∷ 20 ∷ 44 ∷ 45 ∷ 20 ∷ 3 ∷ 3 ∷ 0 ∷ 20 ∷ 5 ∷ 0 ∷ 0 ∷ 20 ∷ 20 ∷ 47 ∷ 48 ∷ 20 ∷ 1 ∷ 0 ∷ 0 ∷ 20 ∷ 2 ∷ 4 ∷ 0 ∷ 20 ∷ 21 ∷ 50 ∷ 51 ∷ 20 ∷ 2 ∷ 4 ∷ 0 ∷ 20 ∷ 1 ∷ 1 ∷ 0 ∷ 20 ∷ 11 ∷ 53 ∷ 54 ∷ 20 ∷ 2 ∷ 4 ∷ 0 ∷ 20 ∷ 1 ∷ 0 ∷ 0 ∷ 20 ∷ 2 ∷ 7 ∷ 0 ∷ 20 ∷ 22 ∷ 57 ∷ 58 ∷ 20 ∷ 2 ∷ 4 ∷ 0 ∷ 20 ∷ 2 ∷ 7 ∷ 0 ∷ 20 ∷ 11 ∷ 60 ∷ 61 ∷ 30 ∷ 3 ∷ 0 ∷ 0 ∷ 31 ∷ 6 ∷ 0 ∷ 0 ∷ 31 ∷ 9 ∷ 0 ∷ 0 ∷ 32 ∷ 12 ∷ 0 ∷ 0 ∷ 40 ∷ 1 ∷ 0 ∷ 0 ∷ 40 ∷ 1 ∷ 1 ∷ 0 ∷ 40 ∷ 2 ∷ 0 ∷ 0 ∷ 40 ∷ 2 ∷ 1 ∷ 2 ∷ 40 ∷ 2 ∷ 2 ∷ 0 ∷ 40 ∷ 2 ∷ 3 ∷ 0 ∷ 50 ∷ 2 ∷ 18 ∷ 0 ∷ 50 ∷ 2 ∷ 23 ∷ 0 ∷ 50 ∷ 4 ∷ 35 ∷ 0 ∷ 50 ∷ 4 ∷ 40 ∷ 0 ∷ 50 ∷ 5 ∷ 52 ∷ 0 ∷ 50 ∷ 6 ∷ 59 ∷ 0 ∷ 51 ∷ 1 ∷ 2 ∷ 13 ∷ 51 ∷ 1 ∷ 3 ∷ 14 ∷ 51 ∷ 3 ∷ 2 ∷ 27 ∷ 51 ∷ 3 ∷ 4 ∷ 28 ∷ 51 ∷ 4 ∷ 2 ∷ 43 ∷ 51 ∷ 5 ∷ 4 ∷ 55 ∷ 51 ∷ 6 ∷ 4 ∷ 62 ∷ 52 ∷ 2 ∷ 2 ∷ 26 ∷ 60 ∷ 3 ∷ 3 ∷ 31 ∷ 60 ∷ 4 ∷ 5 ∷ 46 ∷ 60 ∷ 4 ∷ 3 ∷ 49 ∷ 70 ∷ 56 ∷ 0 ∷ 0 ∷ []

pub decodes : words_of bytes ≡ words
unfolding words flat_map numbers columns_of number_of scan_from row_bytes line_of words_of rows_bytes
decodes = refl

pub accepted : verdict bytes ≡ Ok 25
unfolding flat_map count_below first numbers keep columns_of number_of scan_from row_bytes section count start mentions operator_numbered type_numbered kind_numbered role_numbered tree_to tree_of action_of belonging variables_of machine_of in_order event_sequents obligations sequents some_of identifiers divides line_of words_of columns_used row_limit shape_of operand_sort result_sort sort_of may_mention may_mention_after sees_only tag_offends full_offends event_offends identifier_offends root_at reference_offends root_sort sort_offends uses_to use_offends sight_offends twice_offends offends missing first_check judge verdict rows_bytes
accepted = refl
