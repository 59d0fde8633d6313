-- Past the last place nothing changes; before it both numbers are set.
use mathlib.Core.Path.{◌≡◌, sym, ◌∙◌}
use Prim.Native.Nat.{ℕ, ◌<◌, ◌≤◌}
use borrow.Author.Rules.{rules}
use borrow.Author.Tests.{lt-ltb, le-ltb}
use lib.ListN.{set}
use Rattle.records.specs.Numbers.{with_record}
use Rattle.bench.specs.declared.Record.{Record}
use Rattle.records.specs.declared.Numbers.{Numbers}
use Rattle.records.proofs.put.Goals as goal

past : (all : Numbers) (i : ℕ) (r : Record) → 65 ≤ i → all ≡ with_record all i r
past all i r h = sym (simp (le-ltb i 65 h))

inside : (all : Numbers) (i : ℕ) (r : Record) → i < 65 → record { values = set all.values i r.value; sorts = set all.sorts i r.sort } ≡ with_record all i r
inside all i r h = sym (simp (lt-ltb i 65 h))

pub returns-then-i-ge-PLACES : goal.returns-then-i-ge-PLACES
returns-then-i-ge-PLACES c = past c.args.all c.args.i c.args.r c.if-i-ge-PLACES.true

pub returns : goal.returns
returns c =
    let a = c.args in
    (search rules) ∙ inside a.all a.i a.r c.if-i-ge-PLACES.false
