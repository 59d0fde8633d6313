-- From the row of the action.
use Rattle.table.specs.Rows.{rows_of}
use Rattle.values.proofs.Reading.{such_that}
use Rattle.values.proofs.is_such_that.Goals as goal

pub returns : goal.returns
returns c =
    such_that (rows_of c.args.scanned.now.table.words.now) c.args.e c.args.x c.action_row-i.ensures c.size.ensures c.tag_at.ensures
