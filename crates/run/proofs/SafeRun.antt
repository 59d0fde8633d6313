-- Demand 3 over bytes: an accepted table whose listed sequents are all valid describes a machine every run of which is safe. Acceptance gives well-formed
-- machines, and for these valid sequents give safe runs.
use Prim.Native.Nat.{ℕ}
use mathlib.Core.Path.{◌≡◌}
use mathlib.Core.List.{List}
use Rattle.std.specs.Prelude.{Ok}
use Rattle.lists.specs.All.{All}
use Rattle.sequent.specs.Sequent.{Valid}
use Rattle.sequent.specs.Listed.{sequents}
use Rattle.rules.specs.Decoded.{decoded}
use Rattle.rules.specs.Verdict.{verdict}
use Rattle.rules.specs.Offence.{machine}
use Rattle.rules.proofs.Accepted.{accepted_none, none_obeys}
use Rattle.run.specs.SafeRun.{Safe}
use Rattle.run.proofs.Accepted.{accepted_well_formed}
use Rattle.run.proofs.Safe.{runs_safe_lem}

pub safe_run : (bytes : List ℕ) (n : ℕ) → verdict bytes ≡ Ok n → All (Valid (machine bytes)) (sequents (machine bytes)) → Safe (machine bytes)
safe_run bytes n accepted valid =
    runs_safe_lem (machine bytes) (accepted_well_formed (decoded bytes) (none_obeys bytes (accepted_none bytes n accepted).0)) valid
