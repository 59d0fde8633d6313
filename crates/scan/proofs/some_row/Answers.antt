-- No row that passes stands outside the span of the query's tag (Queries).
use Prim.Native.Nat.{min}
use mathlib.Core.Path.{ap, sym, subst, ◌∙◌}
use Rattle.lists.specs.Below.{NoneBelow, some_below}
use Rattle.table.specs.Rows.{rows_of}
use Rattle.scan.specs.Query.{passes_of}
use Rattle.scan.specs.Spans.{tag_span}
use Rattle.scan.proofs.Queries.{query_spans, some_to}
use Rattle.scan.proofs.some_row.Goals as goal

pub some_within-requires : goal.some_within-requires
some_within-requires c =
    let t = rows_of c.args.words.now in
    let span = c.span_at-span.ensures ∙ ap (tag_span t) c.query_tag.ensures in
    subst (NoneBelow (passes_of t c.args.query)) (sym (ap (λ r. r.from) span)) (query_spans t c.args.query).below

pub returns : goal.returns
returns c =
    let t = rows_of c.args.words.now in
    let P = passes_of t c.args.query in
    let span = c.span_at-span.ensures ∙ ap (tag_span t) c.query_tag.ensures in
    c.some_within.ensures
    ∙ ap (some_below P) (c.min-to.ensures ∙ ap (λ r. min c.args.n r.to) span)
    ∙ some_to t c.args.query c.args.n c.requires.1
