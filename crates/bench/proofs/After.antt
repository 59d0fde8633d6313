-- The after values of a step's variables, one after another: each is by its action what the state before and the choice give, whatever was completed before it.
use Prim.Native.Nat.{ℕ, ◌<◌}
use mathlib.Core.Path.{◌≡◌, refl, sym, ◌∙◌, subst}
use mathlib.Core.List.{List, [], ◌∷◌}
use mathlib.Core.Logic.{◌⊎◌, inl, inr}
use lib.IntN.{pos}
use lib.ListN.{get_or, set, length-set}
use lib.Seq.{get_or-set_same, get_or-set_other}
use Rattle.lists.specs.All.{All, In, here, there}
use Rattle.lists.proofs.All.{all_head, all_tail, all_at, in_nil, in_cons}
use Rattle.lists.proofs.Distinct.{Distinct, pairwise_head, pairwise_tail}
use Rattle.table.specs.Rows.{Rows}
use Rattle.machine.specs.Machine.{Action, unassigned, becomes_equal, becomes_such_that}
use Rattle.machine.specs.Described.{machine_of}
use Rattle.recording.specs.Replay.{Values}
use Rattle.recording.proofs.Values.{Sized}
use Rattle.bench.specs.Press.{after_by, complete}

module _ (t : Rows) (e : ℕ) where
  -- the values with the after value of y
  abbrev with : Values → ℕ → Values
  with vs y = record { present = vs.present; after = set vs.after y (after_by t vs y ((machine_of t).action e y)) }

  pub complete_present : (xs : List ℕ) (vs : Values) → (complete t e xs vs).present ≡ vs.present
  unfolding complete
  complete_present [] vs = refl
  complete_present (y ∷ ys) vs = complete_present ys (with vs y)

  with_size : (vs : Values) (y : ℕ) → Sized vs → Sized (with vs y)
  with_size vs y s = record { present = s.present; after = length-set vs.after y (after_by t vs y ((machine_of t).action e y)) ∙ s.after }

  complete_kept : (xs : List ℕ) (vs : Values) (x : ℕ) → (In x xs → ⊥) → get_or (complete t e xs vs).after x (pos 0) ≡ get_or vs.after x (pos 0)
  unfolding complete
  complete_kept [] vs x out = refl
  complete_kept (y ∷ ys) vs x out =
      complete_kept ys (with vs y) x (λ i. out (there i)) ∙ get_or-set_other vs.after y x (after_by t vs y ((machine_of t).action e y)) (pos 0) (λ q. out (here q))

  -- another variable's after value doesn't count
  after_same : (vs : Values) (y x : ℕ) (a : Action) → (x ≡ y → ⊥) → after_by t (with vs y) x a ≡ after_by t vs x a
  unfolding after_by
  after_same vs y x unassigned n = refl
  after_same vs y x (becomes_equal r) n = refl
  after_same vs y x (becomes_such_that r) n = get_or-set_other vs.after y x (after_by t vs y ((machine_of t).action e y)) (pos 0) n

  pub complete_at : (xs : List ℕ) (vs : Values) (x : ℕ) → Sized vs → Distinct xs → All (λ x. x < 65) xs → In x xs
      → get_or (complete t e xs vs).after x (pos 0) ≡ after_by t vs x ((machine_of t).action e x)
  unfolding complete
  complete_at [] vs x s d l i = absurd (in_nil i)
  complete_at (y ∷ ys) vs x s d l i = go (in_cons i) (complete_at ys (with vs y) x (with_size vs y s) (pairwise_tail d) (all_tail l))
    where
      out : In y ys → ⊥
      out j = all_at (pairwise_head d) j refl

      go : (x ≡ y) ⊎ In x ys → (In x ys → get_or (complete t e ys (with vs y)).after x (pos 0) ≡ after_by t (with vs y) x ((machine_of t).action e x))
          → get_or (complete t e ys (with vs y)).after x (pos 0) ≡ after_by t vs x ((machine_of t).action e x)
      go (inl q) later =
          subst (λ x. get_or (complete t e ys (with vs y)).after x (pos 0) ≡ after_by t vs x ((machine_of t).action e x)) (sym q)
          (complete_kept ys (with vs y) y out ∙ get_or-set_same vs.after y (after_by t vs y ((machine_of t).action e y)) (pos 0) (subst (λ n. y < n) (sym s.after) (all_head l)))
      go (inr j) later = later j ∙ after_same vs y x ((machine_of t).action e x) (λ q. out (subst (λ x. In x ys) q j))
