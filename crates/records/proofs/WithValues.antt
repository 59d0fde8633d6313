-- Records with other values: as many as there are, each with its own type.
use mathlib.Core.Path.{◌≡◌, refl, ap}
use mathlib.Core.List.{List, [], ◌∷◌}
use Prim.Native.Nat.{ℕ, zero, suc}
use native.Mathlib.Omega.{arith}
use lib.IntN.{ℤ, pos}
use lib.ListN.{length, get_or}
use Rattle.bench.specs.declared.Record.{Record}
use Rattle.bench.specs.State.{types_in, with_values_of}
use Rattle.records.specs.Numbers.{no_record}

pub with_length : (zs : List ℤ) (rs : List Record) → length zs ≡ length rs → length (with_values_of zs rs) ≡ length rs
unfolding with_values_of
with_length [] rs e = e
with_length (z ∷ zs) [] e = refl
with_length (z ∷ zs) (r ∷ rs) e = ap suc (with_length zs rs (omega arith))

pub with_at : (zs : List ℤ) (rs : List Record) (k : ℕ) → length zs ≡ length rs → get_or (with_values_of zs rs) k no_record ≡ record { value = get_or zs k (pos 0); sort = get_or (types_in rs) k 0 }
unfolding with_values_of types_in
with_at [] [] zero e = refl
with_at [] [] (suc k) e = refl
with_at [] (r ∷ rs) k e = absurd (omega arith)
with_at (z ∷ zs) [] k e = absurd (omega arith)
with_at (z ∷ zs) (r ∷ rs) zero e = refl
with_at (z ∷ zs) (r ∷ rs) (suc k) e = with_at zs rs k (omega arith)
