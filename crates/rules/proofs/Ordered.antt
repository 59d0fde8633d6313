-- The list of an accepted table stands in 01's order, is the only list of the required sequents that does, and has each sequent once: an accepted table keeps
-- apart, and in order, what the headers name.
use Prim.Native.Nat.{ℕ, ◌<◌}
use mathlib.Core.Path.{◌≡◌, subst}
use mathlib.Core.List.{List}
use mathlib.Core.Logic.{◌↔◌}
use lib.ListN.{get_or}
use Rattle.std.specs.Prelude.{Ok}
use Rattle.lists.specs.All.{In}
use Rattle.lists.specs.Pairwise.{Pairwise}
use Rattle.sequent.specs.Sequent.{Sequent}
use Rattle.sequent.specs.Listed.{sequents}
use Rattle.sequent.specs.Required.{Required, SameHeader}
use Rattle.sequent.specs.Order.{Before}
use Rattle.sequent.proofs.Ordered.{Separate, sequents_sorted, sequents_determined, sequents_once}
use Rattle.rules.specs.Decoded.{decoded}
use Rattle.rules.specs.Verdict.{verdict}
use Rattle.rules.specs.Offence.{machine}
use Rattle.rules.proofs.Accepted.{accepted_none, none_obeys}
use Rattle.rules.proofs.Separate.{obeys_separate}

module _ (bytes : List ℕ) (n : ℕ) (accepted : verdict bytes ≡ Ok n) where
  separate : Separate (machine bytes)
  separate = obeys_separate (decoded bytes) (none_obeys bytes (accepted_none bytes n accepted).0)

  -- each sequent stands before all later ones
  pub accepted_ordered : Pairwise (Before (machine bytes)) (sequents (machine bytes))
  accepted_ordered = sequents_sorted (machine bytes) separate

  -- the relation and the order determine the list
  pub accepted_determined : (ss : List Sequent) → ((s : Sequent) → In s ss ↔ Required (machine bytes) s) → Pairwise (Before (machine bytes)) ss
      → ss ≡ sequents (machine bytes)
  accepted_determined = sequents_determined (machine bytes) separate

  -- "each once": no two places have the same kind, event and item
  pub accepted_once : (d : Sequent) (i j : ℕ) → i < n → j < n
      → SameHeader (get_or (sequents (machine bytes)) i d) (get_or (sequents (machine bytes)) j d) → i ≡ j
  accepted_once d i j h k =
      let counted = (accepted_none bytes n accepted).1 in
      sequents_once (machine bytes) separate d i j (subst (λ n. i < n) counted h) (subst (λ n. j < n) counted k)
