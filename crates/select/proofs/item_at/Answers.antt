-- By cases on the item.
use native.Mathlib.Omega.{arith}
use Rattle.select.proofs.item_at.Goals as goal

pub overflow_add-i : goal.overflow_add-i
overflow_add-i c = omega (arith, c.requires)

pub overflow_add-result : goal.overflow_add-result
overflow_add-result c = omega (arith, c.requires)

pub returns-in-A : goal.returns-in-A
returns-in-A c = simp (c.a_at.ensures, c.in-A.is)

pub returns-in-B : goal.returns-in-B
returns-in-B c = simp (c.b_at.ensures, c.in-B.is)

pub returns-in-C : goal.returns-in-C
returns-in-C c = simp (c.c_at.ensures, c.in-C.is)

pub returns-in-Action : goal.returns-in-Action
returns-in-Action c =
    simp (c.c_at-in-Action.ensures, c.action_row.ensures, c.in-Action.is)

pub returns-in-Identifier : goal.returns-in-Identifier
returns-in-Identifier c = simp c.in-Identifier.is
