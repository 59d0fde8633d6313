-- The whole of the run, with no values known before.
use mathlib.Core.Path.{◌∙◌}
use Rattle.table.specs.Rows.{rows_of}
use Rattle.steps.proofs.Parts.{replay_whole}
use Rattle.steps.proofs.replay_log.Goals as goal

pub returns : goal.returns
returns c =
    c.replay_steps.ensures ∙ replay_whole (rows_of c.args.scanned.now.table.words.now) c.args.run.now
