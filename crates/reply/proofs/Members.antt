-- No filler of a list shows: for an accepted table a number from 1 to the count picks a listed sequent, one from 1 to its entries one of them, and what
-- stands behind the lists does not matter. By recursion on the list.
use Prim.Native.Nat.{ℕ, zero, suc, ◌-◌, ◌≤◌, ◌<◌}
use mathlib.Core.Path.{◌≡◌, refl}
use mathlib.Core.List.{List, [], ◌∷◌}
use native.Mathlib.Omega.{arith}
use native.Mathlib.Nat.{not-suc-le-zero}
use lib.ListN.{length, get_or}
use Rattle.std.specs.Prelude.{Ok}
use Rattle.lists.specs.All.{In}
use Rattle.lists.proofs.Distinct.{in_place}
use Rattle.sequent.specs.Entry.{written}
use Rattle.sequent.specs.Sequent.{Sequent}
use Rattle.sequent.specs.Listed.{sequents}
use Rattle.rules.specs.Verdict.{verdict}
use Rattle.rules.specs.Offence.{machine}
use Rattle.rules.proofs.Accepted.{accepted_none}
use Rattle.reply.specs.Replies.{sequent_at, entries}

-- a is the k-th of a list, counted from 1, whatever stands behind it
pub record KthOf {A : Type 0} (xs : List A) (k : ℕ) (a : A) : Type 0 where
  pub member : In a xs
  pub whatever : (d : A) → get_or xs (k - 1) d ≡ a

place_same : {A : Type 0} (xs : List A) (d e : A) (i : ℕ) → i < length xs → get_or xs i d ≡ get_or xs i e
place_same [] d e i h = absurd (not-suc-le-zero h)
place_same (x ∷ xs) d e zero h = refl
place_same (x ∷ xs) d e (suc i) h = place_same xs d e i (omega arith)

kth : {A : Type 0} (xs : List A) (d : A) (k : ℕ) → 1 ≤ k → k ≤ length xs → KthOf xs k (get_or xs (k - 1) d)
kth xs d k l h = record { member = in_place xs d (k - 1) (omega arith); whatever = λ e. place_same xs e d (k - 1) (omega arith) }

pub sequent_listed : (bytes : List ℕ) (n k : ℕ) → verdict bytes ≡ Ok n → 1 ≤ k → k ≤ n
    → KthOf (sequents (machine bytes)) k (sequent_at (sequents (machine bytes)) k)
sequent_listed bytes n k v l h = kth (sequents (machine bytes)) _ k l (omega (arith, (accepted_none bytes n v).1))

pub entry_listed : (s : Sequent) (j : ℕ) → 1 ≤ j → j ≤ length (entries s) → KthOf (entries s) j (get_or (entries s) (j - 1) (written 0))
entry_listed s j l h = kth (entries s) (written 0) j l h
