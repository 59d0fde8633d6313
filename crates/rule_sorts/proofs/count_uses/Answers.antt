use mathlib.Core.Path.{◌∙◌}
use Rattle.table.specs.Rows.{rows_of}
use Rattle.rule_sorts.proofs.Uses.{used_none}
use Rattle.rule_sorts.proofs.count_uses.Goals as goal

pub loop-i-init : goal.loop-i-init
loop-i-init c =
    (used_none (rows_of c.args.words.now) c.clear.new.numbers (c.clear.ensures.0 ∙ c.requires) c.clear.ensures.1)
