-- The theorem on runs applies to the worked table: it is accepted and its sequents are valid, so its runs are safe.
use mathlib.Core.Path.{◌≡◌, ap, subst⁻¹}
use Rattle.lists.specs.All.{All}
use Rattle.table.specs.Rows.{rows_of}
use Rattle.machine.specs.Described.{machine_of}
use Rattle.sequent.specs.Sequent.{Valid}
use Rattle.sequent.specs.Listed.{sequents}
use Rattle.rules.specs.Offence.{machine}
use Rattle.run.specs.SafeRun.{Safe}
use Rattle.run.proofs.SafeRun.{safe_run}
use Rattle.worked.specs.Worked.{bytes}
use Rattle.worked.proofs.Decoded.{accepted, decodes}
use Rattle.worked.proofs.Listed.{worked}
use Rattle.worked.proofs.Valid.{valid}

pub same_machine : machine bytes ≡ worked
unfolding worked
same_machine = ap (λ ws. machine_of (rows_of ws)) decodes

pub worked_safe : Safe (machine bytes)
worked_safe = safe_run bytes 25 accepted (subst⁻¹ (λ m. All (Valid m) (sequents m)) same_machine valid)
