-- Whole numbers by sign and magnitude.
use Rattle.std.specs.Prelude.{Bool, true, false, ℕ, ℤ, pos, negsuc, neg_ℤ}

abbrev pub signedℤ : Bool → ℕ → ℤ
signedℤ true n = neg_ℤ (pos n)
signedℤ false n = pos n

abbrev pub negative : ℤ → Bool
negative (pos n) = false
negative (negsuc n) = true
