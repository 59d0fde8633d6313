-- The status with which the program ends where it has no reply.
use Rattle.std.specs.Prelude.{ℕ}
use Rattle.replay.specs.declared.failure.Failure.{Failure}
use Rattle.replay.specs.declared.failure.Failure.TheVariants.{Arguments, Usage, Open, Table, Log, TooLong, Output}

-- 1 where reading or writing failed, else 0
abbrev pub status_of : Failure → ℕ
status_of (Arguments error) = 1
status_of Usage = 0
status_of (Open path error) = 1
status_of (Table error) = 1
status_of (Log error) = 1
status_of TooLong = 0
status_of (Output error) = 1
