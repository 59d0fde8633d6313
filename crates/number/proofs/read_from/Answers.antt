use mathlib.Core.Path.{sym, ◌∙◌}
use Rattle.number.proofs.Leading.{blank_skipped}
use Rattle.number.proofs.Scan.{first_space, scanned, no_number}
use Rattle.number.proofs.read_from.Goals as goal

pub loop-i-init : goal.loop-i-init
loop-i-init c =
    blank_skipped c.args.greatest c.args.columns.now c.args.at c.requires.1

pub returns-then-columns-i-ne-SPACE : goal.returns-then-columns-i-ne-SPACE
returns-then-columns-i-ne-SPACE c =
    let a = c.args in
    scanned a.greatest a.columns.now c.loop-i.i c.loop-i.invariant c.after_spaces.ensures

pub loop-i-preserved : goal.loop-i-preserved
loop-i-preserved c =
    let a = c.args in
    sym (first_space a.greatest a.columns.now c.loop-i.i c.loop-i-test.true c.if-columns-i-ne-SPACE.false) ∙ c.loop-i.invariant

pub returns : goal.returns
returns c =
    let a = c.args in
    no_number a.greatest a.columns.now c.loop-i.i c.loop-i.invariant c.loop-i-test.false
