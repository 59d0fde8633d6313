-- By whether there were steps.
use Prim.Native.Nat.{◌-◌}
use mathlib.Core.Path.{sym, ap}
use borrow.Author.Tests.{eq-eqb, ne_eqb}
use Rattle.std.specs.Prelude.{Ok, Err}
use Rattle.lists.specs.Choice.{pick}
use Rattle.rules.specs.Refusal.{refused}
use Rattle.recording.specs.Faults.{log_fault}
use Rattle.steps.specs.declared.Progress.TheVariants.{Ended}
use Rattle.steps.proofs.ended.Goals as goal

pub returns-then-n-eq0 : goal.returns-then-n-eq0
returns-then-n-eq0 c =
    let n = c.args.n in
    sym (ap (λ b. pick b (Err (refused log_fault 0)) (Ok (Ended (n - 1)))) (eq-eqb n 0 c.if-n-eq0.true))

pub returns : goal.returns
returns c =
    let n = c.args.n in
    sym (ap (λ b. pick b (Err (refused log_fault 0)) (Ok (Ended (n - 1)))) (ne_eqb n 0 c.if-n-eq0.false))
