-- A choice whose test is known.
use mathlib.Core.Path.{◌≡◌, refl, sym}
use mathlib.Core.Bool.{Bool, true, false, true≢false}
use Rattle.lists.specs.Choice.{pick}

pub chosen : {A : Type 0} (b : Bool) (x y : A) → b ≡ true → ◌≡◌ {A = A} (pick b x y) x
chosen true x y e = refl
chosen false x y e = absurd (true≢false (sym e))

pub not_chosen : {A : Type 0} (b : Bool) (x y : A) → b ≡ false → ◌≡◌ {A = A} (pick b x y) y
not_chosen true x y e = absurd (true≢false e)
not_chosen false x y e = refl
