-- By whether there is an identifier j + 1.
use mathlib.Core.Path.{ap}
use lib.Dec.{eqb}
use Rattle.table.specs.Rows.{rows_of}
use Rattle.select.proofs.Selected.{identifier_there, identifier_gone}
use Rattle.select.proofs.identifier_at.Goals as goal

pub returns-then-x-table : goal.returns-then-x-table
returns-then-x-table c =
    identifier_there (rows_of c.args.table.now.words.now) c.args.table.now.counted c.args.j _ _ c.if-x-table.true (ap (λ n. eqb n c.args.kind) c.identifier_field.ensures)

pub returns : goal.returns
returns c =
    identifier_gone (rows_of c.args.table.now.words.now) c.args.table.now.counted c.args.j _ c.if-x-table.false
