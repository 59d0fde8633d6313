-- The marked cases P1 to P10 and those of replays, presses, remainders and the order of faults hold of the definitions: all are computed, by one proof.
use mathlib.Core.Path.{◌≡◌, refl}
use mathlib.Core.List.{flat_map}
use mathlib.Core.Bool.{true}
use Rattle.lists.specs.Over.{over}
use Rattle.lists.specs.Below.{count_below, first, numbers, keep}
use Rattle.lists.specs.Different.{some_of, different, lowest, highest}
use Rattle.number.specs.Number.{columns_of}
use Rattle.number.specs.Reading.{number_of, scan_from}
use Rattle.row.specs.Row.{row_bytes}
use Rattle.table.specs.Rows.{section, count, start}
use Rattle.formula.specs.Evaluate.{evaluate, read_tree}
use Rattle.formula.specs.Mentions.{mentions}
use Rattle.formula.specs.WellDefined.{well_defined}
use Rattle.formula.specs.AfterValues.{at_after}
use Rattle.formula.specs.Identifiers.{identifiers, divides}
use Rattle.machine.specs.Operator.{operator_numbered, operand_sort, result_sort}
use Rattle.machine.specs.Described.{type_numbered, kind_numbered, role_numbered, tree_to, tree_of, action_of, belonging, variables_of, machine_of}
use Rattle.sequent.specs.Listed.{in_order, event_sequents, obligations, sequents}
use Rattle.rules.specs.Decoded.{line_of, words_of}
use Rattle.rules.specs.Tags.{columns_used, row_limit}
use Rattle.rules.specs.Sorts.{shape_of, sort_of}
use Rattle.rules.specs.Sight.{may_mention, may_mention_after, sees_only}
use Rattle.rules.specs.Rules.{tag_offends, full_offends, event_offends, identifier_offends, root_at, reference_offends, root_sort, sort_offends, uses_to}
use Rattle.rules.specs.Rules.{use_offends, sight_offends, twice_offends, offends, missing}
use Rattle.rules.specs.Verdict.{first_check, judge, verdict}
use Rattle.reply.specs.Spelled.{spell_tree, spell}
use Rattle.reply.specs.Printed.{identifiers_in, sequent_rows, rows_bytes}
use Rattle.reply.specs.Replies.{write_rows, write_sequent, spell_entry, output}
use Rattle.answer.specs.Answer.{within, operands, binary_answer, division_answer, connective_answer, unary_answer, answer}
use Rattle.answer.specs.Stored.{stored}
use Rattle.recording.specs.Rows.{logged}
use Rattle.recording.specs.Lines.{lines_to, lines}
use Rattle.recording.specs.Faults.{first_fault, untrue, not_allowed, step_fault}
use Rattle.recording.specs.Replay.{move, read_values, replay_from, replay_log, replay}
use Rattle.bench.specs.State.{values_in, types_in, laid, placed, is_state, updated, with_values_of}
use Rattle.bench.specs.Choice.{asked, choice}
use Rattle.bench.specs.Press.{after_by, complete, press_fault, press_on, outcome, records_outcome, press, preview}
use Rattle.marked.specs.Cases.{falling, cases, all_agree}

marked : all_agree cases ≡ true
unfolding cases falling flat_map over count_below first numbers keep columns_of number_of scan_from row_bytes section count start evaluate read_tree mentions operator_numbered type_numbered kind_numbered role_numbered tree_to tree_of action_of belonging variables_of machine_of in_order event_sequents obligations sequents some_of different lowest highest identifiers divides well_defined at_after spell_tree spell identifiers_in line_of words_of columns_used row_limit shape_of operand_sort result_sort sort_of may_mention may_mention_after sees_only tag_offends full_offends event_offends identifier_offends root_at reference_offends root_sort sort_offends uses_to use_offends sight_offends twice_offends offends missing first_check judge verdict sequent_rows rows_bytes write_rows write_sequent spell_entry output within operands binary_answer division_answer connective_answer unary_answer answer stored logged lines_to lines first_fault untrue not_allowed step_fault move read_values replay_from replay_log replay values_in types_in laid placed is_state updated with_values_of asked choice after_by complete press_fault press_on outcome records_outcome press preview
marked = refl
