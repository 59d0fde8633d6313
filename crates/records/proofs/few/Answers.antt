-- By the test.
use mathlib.Core.Path.{sym}
use Rattle.records.proofs.FewOf.{few_all, few_many}
use Rattle.records.proofs.few.Goals as goal

pub returns-then-n-lt-PLACES : goal.returns-then-n-lt-PLACES
returns-then-n-lt-PLACES c = sym (few_all c.args.n c.if-n-lt-PLACES.true)

pub returns : goal.returns
returns c = sym (few_many c.args.n c.if-n-lt-PLACES.false)
