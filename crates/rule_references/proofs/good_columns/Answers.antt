-- By the shape's case.
use Rattle.rule_references.proofs.good_columns.Goals as goal

pub returns-in-Value : goal.returns-in-Value
returns-in-Value c = simp (c.in-Value.is, c.c_at-c.ensures)

pub returns-in-Identifier : goal.returns-in-Identifier
returns-in-Identifier c =
    simp (
      c.named_identifier.ensures,
      c.in-Identifier.is,
      c.c_at-c.ensures,
      c.b_at-b.ensures,
    )

pub returns-in-Variable : goal.returns-in-Variable
returns-in-Variable c =
    simp (
      c.named_variable.ensures,
      c.in-Variable.is,
      c.c_at-c.ensures,
      c.b_at-b.ensures,
    )

pub returns-in-NoOperand : goal.returns-in-NoOperand
returns-in-NoOperand c = simp (c.in-NoOperand.is, c.c_at-c.ensures, c.b_at-b.ensures)

pub returns-in-OneOperand : goal.returns-in-OneOperand
returns-in-OneOperand c =
    simp (
      c.earlier_node.ensures,
      c.in-OneOperand.is,
      c.c_at-c.ensures,
      c.b_at-b.ensures,
    )

pub returns-in-TwoOperands : goal.returns-in-TwoOperands
returns-in-TwoOperands c =
    simp (
      c.earlier_node-in-TwoOperands-2.ensures,
      c.earlier_node-in-TwoOperands.ensures,
      c.in-TwoOperands.is,
      c.c_at-c.ensures,
      c.b_at-b.ensures,
    )

pub returns-in-Unknown : goal.returns-in-Unknown
returns-in-Unknown c = simp c.in-Unknown.is
