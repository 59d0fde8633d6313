-- Of a WFIS, else the group's.
use mathlib.Core.Path.{sym, ap, ◌∙◌}
use Rattle.walk.specs.Headers.{header_kind}
use borrow.Author.Rules.{rules}
use Rattle.walk.proofs.header_kind.Goals as goal

pub returns-then-is_wfis : goal.returns-then-is_wfis
unfolding header_kind
returns-then-is_wfis c = rw (sym c.is_wfis.ensures ∙ c.if-is_wfis.true)

pub returns : goal.returns
unfolding header_kind
returns c =
    rw (sym c.is_wfis.ensures ∙ c.if-is_wfis.false) (ap (λ g. g.kind) c.group_at.ensures)
