-- 01, "Each node has one use, as an operand or a root": the uses of every node, counted by its number.
use Rattle.std.specs.Prelude.{ℕ, ◌+◌, ◌≤◌, ◌≡◌, Bool, List, length, get_or, set}
use Rattle.lists.specs.Choice.{pick}
use Rattle.table.specs.Rows.{Rows}
use Rattle.table.specs.Lookups.{most_rows}
use Rattle.rules.specs.Rules.{uses_to}

-- one use more of the node n, where a test passes
abbrev pub used_if : Bool → ℕ → List ℕ → List ℕ
used_if test n uses = pick test (set uses n (get_or uses n 0 + 1)) uses

-- a list holds, at each number that a node may have, how often the first i rows use it
pub record UsedTo (t : Rows) (i : ℕ) (uses : List ℕ) : Type 0 where
  pub size : length uses ≡ most_rows + 1
  pub counts : (n : ℕ) → n ≤ most_rows → get_or uses n 0 ≡ uses_to t n i
