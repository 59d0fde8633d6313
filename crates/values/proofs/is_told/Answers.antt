-- By whether the rows are those of a choice.
use Rattle.table.specs.Rows.{rows_of}
use Rattle.values.proofs.Reading.{told_choice, told_log}
use Rattle.values.proofs.is_told.Goals as goal

pub returns-then-pressing : goal.returns-then-pressing
returns-then-pressing c =
    told_choice (rows_of c.args.scanned.now.table.words.now) c.args.pressing c.args.e c.args.x c.is_variable_of-variable.ensures c.requires c.if-pressing.true c.is_such_that.ensures

pub returns : goal.returns
returns c =
    told_log (rows_of c.args.scanned.now.table.words.now) c.args.pressing c.args.e c.args.x c.is_variable_of-variable.ensures c.requires c.if-pressing.false
