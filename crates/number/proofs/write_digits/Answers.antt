use mathlib.Core.Path.{sym, ◌∙◌}
use native.Mathlib.Omega.{arith}
use lib.ListN.{length-set}
use Rattle.number.specs.Number.{Digits}
use Rattle.number.proofs.Columns.{written_done, over_columns, still_blank, stored_first, stored_later}
use Rattle.number.proofs.write_digits.Goals as goal

pub loop-i-init : goal.loop-i-init
loop-i-init c =
    (c.requires.1, sym (over_columns c.args.width (Digits c.args.negative c.args.magnitude) c.args.out.now))

pub write_sign-requires : goal.write_sign-requires
write_sign-requires c =
    (simp length-set (omega arith), still_blank c.loop-i.out c.loop-i.i _ (omega arith) c.loop-i.invariant.0)

pub returns-then-m-lt10 : goal.returns-then-m-lt10
returns-then-m-lt10 c =
    c.write_sign.ensures
    ∙ stored_first c.args.negative c.loop-i.m c.loop-i.out _ c.loop-i.i (omega arith) (omega arith) c.loop-i.invariant.1 c.if-m-lt10.true

pub loop-i-preserved : goal.loop-i-preserved
loop-i-preserved c = (
  still_blank c.loop-i.out c.loop-i.i _ (omega arith) c.loop-i.invariant.0,
  stored_later c.args.negative c.loop-i.m c.loop-i.out _ c.loop-i.i (omega arith) (omega arith) c.loop-i.invariant.1 c.if-m-lt10.false,
)

pub returns : goal.returns
returns c =
    written_done c.loop-i.out _ _ c.loop-i.i (omega arith) c.loop-i.invariant.1
