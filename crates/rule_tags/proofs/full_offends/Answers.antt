-- The limit is that of the row's tag, and the count by where the rows of the tag begin (Full).
use Prim.Native.Nat.{◌≤◌}
use mathlib.Core.Path.{◌≡◌, ap, sym, subst, ◌∙◌}
use native.Mathlib.Omega.{arith}
use Rattle.table.specs.Names.{variant_tag}
use Rattle.table.specs.Rows.{rows_of}
use Rattle.rules.specs.Rules.{full_offends}
use Rattle.scan.specs.Spans.{tag_span}
use Rattle.scan.specs.Query.{span_tag}
use Rattle.rule_tags.proofs.Full.{from_before, rows_counted, span_tag_known}
use borrow.Author.Rules.{rules}
use Rattle.rule_tags.proofs.full_offends.Goals as goal

pub tag_at-tag-requires : goal.tag_at-tag-requires
unfolding full_offends
tag_at-tag-requires c = search rules

pub span_tag-requires : goal.span_tag-requires
unfolding full_offends
span_tag-requires c = search rules

pub span_at-requires : goal.span_at-requires
unfolding full_offends
span_at-requires c =
    subst (λ k. k ≤ variant_tag) (sym (c.span_tag.ensures ∙ ap span_tag c.tag_at-tag.ensures)) (span_tag_known _ c.requires.2)

pub overflow_sub-before : goal.overflow_sub-before
unfolding full_offends
overflow_sub-before c =
    let t = rows_of c.args.scanned.now.table.words.now in
    let from : c.span_at.result.from ≡ (tag_span t (span_tag (t.tag c.args.i))).from =
    ap (λ r. r.from) c.span_at.ensures ∙ ap (λ k. (tag_span t k).from) (c.span_tag.ensures ∙ ap span_tag c.tag_at-tag.ensures) in
    omega (arith, from, from_before t c.requires.0 c.args.i c.requires.1)

pub tag_limits-requires : goal.tag_limits-requires
unfolding full_offends
tag_limits-requires c = search rules

pub returns : goal.returns
unfolding full_offends
returns c =
    let t = rows_of c.args.scanned.now.table.words.now in
    let from : c.span_at.result.from ≡ (tag_span t (span_tag (t.tag c.args.i))).from =
    ap (λ r. r.from) c.span_at.ensures ∙ ap (λ k. (tag_span t k).from) (c.span_tag.ensures ∙ ap span_tag c.tag_at-tag.ensures) in
    simp (c.tag_limits.ensures.1, c.tag_at-tag.ensures, from, rows_counted t c.requires.0 c.args.i c.requires.1)
