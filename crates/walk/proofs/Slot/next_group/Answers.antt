-- By whether the group is the last.
use borrow.Author.Tests.{lt-ltb, le-ltb}
use Rattle.groups.specs.Groups.{groups}
use Rattle.walk.proofs.Slot.next_group.Goals as goal

pub returns-then-self-lt-COUNT : goal.returns-then-self-lt-COUNT
returns-then-self-lt-COUNT c = rw (lt-ltb _ groups c.if-self-lt-COUNT.true)

pub returns : goal.returns
returns c = rw (le-ltb _ groups c.if-self-lt-COUNT.false)
