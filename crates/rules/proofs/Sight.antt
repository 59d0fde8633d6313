-- What check 10 gives of the formula whose root a row names: it mentions what the row's tag lets it mention and, by check 7, only what is named.
use Prim.Native.Nat.{ℕ, ◌<◌}
use mathlib.Core.Path.{◌≡◌, subst}
use mathlib.Core.Bool.{Bool, false, ◌&&◌, ◌||◌}
use lib.Dec.{T, eqb}
use Rattle.lists.specs.Choice.{pick}
use Rattle.formula.specs.Mentions.{mentions}
use Rattle.formula.proofs.Mentions.{mentions_and}
use Rattle.formula.proofs.Truth.{rule_met}
use Rattle.table.specs.Rows.{Rows, named}
use Rattle.machine.specs.Described.{tree_of}
use Rattle.rules.specs.Sight.{has_kind, has_variable_kind, event_sees, may_mention, may_mention_after, sees_only}
use Rattle.rules.specs.Rules.{named_variable, names_root, root_at, sight_offends}
use Rattle.rules.proofs.Obeys.{Obeys}
use Rattle.rules.proofs.References.{root_tag, root_of, names_root_lem, root_row_lem, tree_named}

module _ (t : Rows) where
  -- what the formula of a row of a tag may mention
  abbrev pub seen : ℕ → ℕ → ℕ → Bool
  seen k i x =
      pick (eqb k 30) (has_kind t 1 x)
      (pick (eqb k 31) (has_kind t 1 x || has_variable_kind t 2 x)
      (pick (eqb k 32) (has_kind t 1 x || (has_kind t 2 x || has_variable_kind t 3 x))
      (pick (eqb k 70) (has_kind t 1 x || has_variable_kind t 3 x)
      (pick (eqb k 60) (event_sees t (t.a i) x || (has_kind t 4 x && eqb x (t.b i))) (event_sees t (t.a i) x)))))

  abbrev pub seen_after : ℕ → ℕ → ℕ → Bool
  seen_after k i x =
      pick (eqb k 52) (eqb x (t.b i)) (pick (eqb k 60) (has_kind t 2 (t.b i) && (has_variable_kind t 3 x || eqb x (t.b i))) false)

  pub root_seen : Obeys t → (k i : ℕ) → i < t.size → t.tag i ≡ k → T (root_tag k)
      → T (mentions (λ x. named t 10 x && seen k i x) (λ x. named_variable t x && seen_after k i x) (tree_of t (root_of t k i)))
  unfolding sight_offends sees_only may_mention may_mention_after root_at
  root_seen ok k i h e r =
      mentions_and (named t 10) (named_variable t) (seen k i) (seen_after k i) (tree_of t (root_of t k i)) (tree_named t ok (root_of t k i) (root_row_lem t ok k i h e r).1)
      (subst (λ k. T (mentions (seen k i) (seen_after k i) (tree_of t (root_of t k i)))) e
      (rule_met (names_root t i) (sees_only t i (root_at t i)) (ok.sight i h) (names_root_lem t k i e r)))
