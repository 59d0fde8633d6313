-- Computed.
use mathlib.Core.Path.{refl}
use Rattle.notes.proofs.division_pair.Goals as goal

pub returns : goal.returns
returns c = refl
