-- The refined event and the owner that a row must hold, by the row's own numbers.
use Prim.Native.Nat.{ℕ}
use mathlib.Core.Path.{◌≡◌, ◌∙◌}
use mathlib.Core.Bool.{Bool, true, false, ◌&&◌}
use native.Mathlib.Omega.{arith}
use borrow.Author.Tests.{eq-eqb, ne_eqb}
use lib.Dec.{eqb}
use Rattle.lists.specs.Choice.{pick}
use Rattle.lists.proofs.Choice.{chosen, not_chosen}
use Rattle.table.specs.Rows.{Rows}
use Rattle.rules.specs.Rules.{abstract_ordinary_event, good_refined, owner_event, good_owner}

module _ (t : Rows) (i : ℕ) where
  pub refined_ordinary : (eqb (t.a i) 2 && eqb (t.b i) 1) ≡ true → good_refined t i ≡ abstract_ordinary_event t (t.c i)
  refined_ordinary e = chosen (eqb (t.a i) 2 && eqb (t.b i) 1) (abstract_ordinary_event t (t.c i)) (eqb (t.c i) 0) e

  pub refined_none : (eqb (t.a i) 2 && eqb (t.b i) 1) ≡ false → good_refined t i ≡ eqb (t.c i) 0
  refined_none e = not_chosen (eqb (t.a i) 2 && eqb (t.b i) 1) (abstract_ordinary_event t (t.c i)) (eqb (t.c i) 0) e

  -- of an identifier that is no abstract parameter
  abbrev other_owner : Bool
  other_owner = pick (eqb (t.a i) 5) (owner_event t 2 (t.c i)) (eqb (t.c i) 0)

  pub owner_abstract : t.a i ≡ 4 → good_owner t i ≡ owner_event t 1 (t.c i)
  owner_abstract e = chosen (eqb (t.a i) 4) (owner_event t 1 (t.c i)) other_owner (eq-eqb (t.a i) 4 e)

  owner_other : (t.a i ≡ 4 → ⊥) → good_owner t i ≡ other_owner
  owner_other f = not_chosen (eqb (t.a i) 4) (owner_event t 1 (t.c i)) other_owner (ne_eqb (t.a i) 4 f)

  pub owner_concrete : t.a i ≡ 5 → good_owner t i ≡ owner_event t 2 (t.c i)
  owner_concrete e = owner_other (omega arith) ∙ chosen (eqb (t.a i) 5) (owner_event t 2 (t.c i)) (eqb (t.c i) 0) (eq-eqb (t.a i) 5 e)

  pub owner_none : (t.a i ≡ 4 → ⊥) → (t.a i ≡ 5 → ⊥) → good_owner t i ≡ eqb (t.c i) 0
  owner_none f g = owner_other f ∙ not_chosen (eqb (t.a i) 5) (owner_event t 2 (t.c i)) (eqb (t.c i) 0) (ne_eqb (t.a i) 5 g)
