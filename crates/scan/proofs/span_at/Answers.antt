-- By what the list of the spans holds.
use mathlib.Core.Path.{ap₂}
use Rattle.scan.proofs.span_at.Goals as goal

pub returns : goal.returns
returns c =
    ap₂ (λ x y. record { from = x; to = y }) (c.requires.1.tags.starts c.args.tag c.requires.0) (c.requires.1.tags.ends c.args.tag c.requires.0)
