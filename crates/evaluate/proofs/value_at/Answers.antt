-- 0 past the end.
use mathlib.Core.Path.{sym}
use lib.IntN.{pos}
use lib.ListN.{get_or-eq_default}
use Rattle.evaluate.proofs.value_at.Goals as goal

pub returns-else-i-values : goal.returns-else-i-values
returns-else-i-values c =
    sym (get_or-eq_default c.args.values.now (pos 0) c.if-i-values.false)
