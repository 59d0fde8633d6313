-- The nodes before row i are as many as the rows between the first node's and it.
use Prim.Native.Nat.{ℕ, ◌+◌, ◌-◌, ◌≤◌, ◌<◌}
use mathlib.Core.Path.{◌≡◌, refl, ap, ◌∙◌}
use mathlib.Core.Bool.{Bool, true, false, ◌&&◌}
use native.Mathlib.Omega.{arith}
use native.Mathlib.Decide.{dec_le}
use lib.Dec.{leb, ltb}
use borrow.Author.Tests.{le-leb, lt-leb, lt-ltb, le-ltb}
use Rattle.table.specs.Rows.{rows_of}
use Rattle.table.proofs.Counts.{starts_nodes}
use Rattle.rule_references.proofs.earlier_node.Goals as goal

none_before : (b : Bool) → false ≡ b && false
none_before true = refl
none_before false = refl

not_yet : (i s k n : ℕ) → k ≡ s → i < k → false ≡ leb 1 n && ltb n (i + 1 - s)
not_yet i s k n e h = rw (le-ltb n (i + 1 - s) (omega arith)) (none_before (leb 1 n))

up_to : (i s k n : ℕ) → k ≡ s → k ≤ i → leb 1 n && leb n (i - k) ≡ leb 1 n && ltb n (i + 1 - s)
up_to i s k n e h = ap (λ b. leb 1 n && b) (go (dec_le n (i - k)))
  where
    go : Dec (n ≤ i - k) → leb n (i - k) ≡ ltb n (i + 1 - s)
    go (yes l) = rw (le-leb n (i - k) l, lt-ltb n (i + 1 - s) (omega arith))
    go (no f) = rw (lt-leb n (i - k) (omega arith), le-ltb n (i + 1 - s) (omega arith))

pub returns-then-row-start : goal.returns-then-row-start
returns-then-row-start c =
    let a = c.args in
    not_yet a.i _ a.table.now.counts.nodes_start a.n (starts_nodes (rows_of a.table.now.words.now) a.table.now.counts c.args.table.now.counted) c.if-row-start.true

pub returns : goal.returns
returns c =
    let a = c.args in
    c.among.ensures ∙ up_to a.i _ a.table.now.counts.nodes_start a.n (starts_nodes (rows_of a.table.now.words.now) a.table.now.counts c.args.table.now.counted) c.if-row-start.false
