-- Arrays of zeros.
use mathlib.Core.Path.{refl}
use Rattle.records.specs.Numbers.{no_numbers}
use Rattle.records.proofs.no_numbers.Goals as goal

pub returns : goal.returns
unfolding no_numbers
returns c = refl
