-- By the query.
use Rattle.scan.proofs.query_tag.Goals as goal

pub returns-in-SameTarget : goal.returns-in-SameTarget
returns-in-SameTarget c = cc c.span_tag.ensures
