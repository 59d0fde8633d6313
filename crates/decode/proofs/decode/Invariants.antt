-- The loop's invariant: the place and the words are those of the rows before i, all of which are in the row form, so that the search for the first that is not goes on at i.
use Prim.Native.Nat.{◌-◌, ◌*◌}
use mathlib.Core.Path.{◌≡◌}
use lib.ListN.{length}
use Rattle.lists.specs.Over.{over}
use Rattle.lists.specs.Below.{first}
use Rattle.rules.specs.Decoded.{line_of, not_row}
use Rattle.decode.specs.Decode.{first_bad, words_to}
use Rattle.decode.proofs.decode.Given as goal

abbrev pub invariant-loop-i : goal.invariant-loop-i
invariant-loop-i l =
    (l.place.at ≡ 38 * l.i) × (length (words_to l.bytes l.i) ≡ 4 * l.i) × (l.words ≡ over (words_to l.bytes l.i) l.initial.words)
    × (first (λ i. not_row (line_of l.bytes i)) (l.rows - l.i) l.i ≡ first_bad l.bytes l.rows)
