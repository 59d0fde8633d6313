use mathlib.Core.Path.{ap, ◌∙◌}
use native.Mathlib.Omega.{arith}
use lib.ListN.{length-drop}
use lib.Seq.{take_all}
use Rattle.std.specs.Prelude.{Some}
use Rattle.number.proofs.Scan.{digits_from, digits_start, digits_end, digits_none, digits_over, digits_next}
use Rattle.number.proofs.digits.Goals as goal

pub loop-b-init : goal.loop-b-init
loop-b-init c =
    let a = c.args in
    (omega arith, ap (digits_from a.greatest a.negative 0) (take_all _ _ (simp length-drop (omega arith))) ∙ digits_start a.greatest a.negative a.columns.now a.at c.requires.1 c.requires.2)

pub returns-then-b : goal.returns-then-b
returns-then-b c =
    digits_none c.args.greatest c.args.negative _ c.loop-b.b-index c.loop-b.m _ c.loop-b.invariant.1 c.loop-b-test.true c.if-b.true

pub returns-then-most-m : goal.returns-then-most-m
returns-then-most-m c =
    digits_over c.args.greatest c.args.negative _ c.loop-b.b-index c.loop-b.m _ c.loop-b.invariant.1 c.loop-b-test.true c.if-b.false
    (omega (arith, c.most-most.ensures))

pub returns-then-most-m-2 : goal.returns-then-most-m-2
returns-then-most-m-2 c =
    digits_over c.args.greatest c.args.negative _ c.loop-b.b-index c.loop-b.m _ c.loop-b.invariant.1 c.loop-b-test.true c.if-b.false
    (omega (arith, c.most-most.ensures))

pub loop-b-preserved : goal.loop-b-preserved
loop-b-preserved c = (
  omega arith,
  digits_next c.args.greatest c.args.negative _ c.loop-b.b-index c.loop-b.m _ c.loop-b.invariant.1 c.loop-b-test.true c.if-b.false
      (omega (arith, c.most-most.ensures)),
)

pub returns : goal.returns
returns c =
    ap Some c.word.ensures ∙ digits_end c.args.greatest c.args.negative _ c.loop-b.b-index c.loop-b.m _ c.loop-b.invariant.1 c.loop-b-test.false
