-- Column c of the first row that witnesses, which stands among the witnesses.
use mathlib.Core.Path.{sym, subst}
use Rattle.table.specs.Rows.{rows_of}
use Rattle.scan.specs.Span.{Spans}
use Rattle.scan.specs.declared.Query.TheVariants.{Witnesses}
use Rattle.scan.specs.Query.{passes_of}
use Rattle.scan.proofs.Queries.{query_spans}
use Rattle.spell.proofs.Witnesses.{witness_found}
use Rattle.mentioned.proofs.witness_root.Goals as goal

pub find_within-requires : goal.find_within-requires
find_within-requires c =
    let a = c.args in
    let t = rows_of a.rows.now.words.now in
    let query = Witnesses a.event a.x in
    subst (Spans (passes_of t query) t.size) (sym c.span_at-witnesses.ensures) (query_spans t query)

pub returns : goal.returns
returns c =
    let a = c.args in
    witness_found a.rows.now.words.now a.event a.x c.find_within.result c.c_at.result c.find_within.ensures c.c_at.ensures
