-- Past the last place there is no record; before it both numbers are read.
use mathlib.Core.Path.{◌≡◌, sym, ◌∙◌}
use Prim.Native.Nat.{ℕ, ◌<◌, ◌≤◌}
use borrow.Author.Rules.{rules}
use borrow.Author.Tests.{lt-ltb, le-ltb}
use lib.IntN.{pos}
use lib.ListN.{get_or}
use Rattle.records.specs.Numbers.{no_record, record_at}
use Rattle.records.specs.declared.Numbers.{Numbers}
use Rattle.records.proofs.at.Goals as goal

past : (all : Numbers) (i : ℕ) → 65 ≤ i → no_record ≡ record_at all i
past all i h = sym (simp (le-ltb i 65 h))

inside : (all : Numbers) (i : ℕ) → i < 65 → record { value = get_or all.values i (pos 0); sort = get_or all.sorts i 0 } ≡ record_at all i
inside all i h = sym (simp (lt-ltb i 65 h))

pub returns-then-i-ge-PLACES : goal.returns-then-i-ge-PLACES
returns-then-i-ge-PLACES c = past c.args.all c.args.i c.if-i-ge-PLACES.true

pub returns : goal.returns
returns c =
    let a = c.args in
    (search rules) ∙ inside a.all a.i c.if-i-ge-PLACES.false
