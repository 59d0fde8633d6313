-- What the table of tags says of the tags of a range, each computed, and of a number that is none of its tags, for which nothing is found.
use Prim.Native.Nat.{ℕ, ◌+◌, ◌<◌, ◌≤◌}
use mathlib.Core.Path.{◌≡◌, ap, sym}
use Rattle.lists.proofs.Range.{values, range_same}
use Rattle.rules.specs.Tags.{tags, columns_used, row_limit}
use Rattle.rules.proofs.Tags.{NoneOf, find_none}

abbrev pub Limited : ℕ → ℕ → ℕ → Type 0
Limited columns most x = (columns ≡ columns_used x) × (most ≡ row_limit x)

pub limits_range : (columns most low k : ℕ) → values (λ x. columns) low k ≡ values columns_used low k → values (λ x. most) low k ≡ values row_limit low k
    → (x : ℕ) → low ≤ x → x < low + k → Limited columns most x
limits_range columns most low k h g x l m = (range_same (λ x. columns) columns_used low k h x l m, range_same (λ x. most) row_limit low k g x l m)

pub limits_unknown : (x : ℕ) → NoneOf x tags → Limited 0 0 x
unfolding columns_used row_limit
limits_unknown x h = (sym (ap (λ t. t.columns) (find_none tags x h)), sym (ap (λ t. t.most) (find_none tags x h)))
