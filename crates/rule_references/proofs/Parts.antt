-- A rule with a part for nodes and one for rows that name a root: a row is judged by one of them, or by neither.
use Prim.Native.Nat.{ℕ}
use mathlib.Core.Path.{◌≡◌, refl}
use mathlib.Core.Bool.{Bool, true, false, not, ◌&&◌, ◌||◌}
use native.Mathlib.Omega.{arith}
use borrow.Author.Tests.{eq-eqb, ne_eqb, le-ltb}
use Rattle.table.specs.Names.{node_tag}
use Rattle.table.specs.Rows.{Rows, tagged}
use Rattle.rules.specs.Rules.{names_root}

or_false : (b : Bool) → (b || false) ≡ b
or_false true = refl
or_false false = refl

module _ (t : Rows) (i : ℕ) (columns root : Bool) where
  abbrev judged : Bool
  judged = (tagged t node_tag i && not columns) || (names_root t i && not root)

  pub node_part : t.tag i ≡ node_tag → judged ≡ not columns
  node_part e = rw (eq-eqb (t.tag i) node_tag e, le-ltb node_tag (t.tag i) (omega arith)) (or_false (not columns))

  pub root_part : (t.tag i ≡ node_tag → ⊥) → names_root t i ≡ true → judged ≡ not root
  root_part f e = rw (ne_eqb (t.tag i) node_tag f, e)

  pub no_part : (t.tag i ≡ node_tag → ⊥) → names_root t i ≡ false → judged ≡ false
  no_part f e = rw (ne_eqb (t.tag i) node_tag f, e)
