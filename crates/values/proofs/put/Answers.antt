-- Past the end of the list nothing changes.
use mathlib.Core.Path.{sym}
use lib.Seq.{set_out}
use Rattle.values.proofs.put.Goals as goal

pub returns-else-i-values : goal.returns-else-i-values
returns-else-i-values c =
    sym (set_out c.args.values.now c.args.x c.args.value c.if-i-values.false)
