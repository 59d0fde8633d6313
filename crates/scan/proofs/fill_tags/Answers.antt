use mathlib.Core.Path.{◌∙◌}
use Rattle.table.specs.Rows.{rows_of}
use Rattle.scan.proofs.Spans.{spanned_none}
use Rattle.scan.proofs.Actions.{actions_none_lem}
use Rattle.scan.proofs.fill_tags.Goals as goal

pub loop-i-init : goal.loop-i-init
loop-i-init c =
    (spanned_none (rows_of c.args.words.now) c.clear.new.numbers (c.clear.ensures.0 ∙ c.requires) c.clear.ensures.1, actions_none_lem (rows_of c.args.words.now) c.clear.new.numbers c.clear.ensures.1)
