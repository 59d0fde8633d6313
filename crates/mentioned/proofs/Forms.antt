-- The set of an entry by its form: its number tells which entry it is.
use Prim.Native.Nat.{ℕ, zero, suc, ◌≤◌}
use mathlib.Core.Path.{◌≡◌, refl, sym, ap}
use native.Mathlib.Omega.{arith}
use lib.ListN.{get_or, get_or-eq_default}
use Rattle.table.specs.Rows.{Rows}
use Rattle.sequent.specs.declared.Entry.{Entry as Numbers}
use Rattle.sequent.specs.Entry.{written}
use Rattle.sequent.specs.Forms.{forms, entry_of}
use Rattle.mentioned.specs.Mentioned.{node_set, entry_set}

module _ (t : Rows) (h : Numbers) where
  abbrev set_at : ℕ → ℕ
  set_at k = entry_set t (get_or forms k (λ a b. written a) h.first h.second)

  pub set_numbered : (k : ℕ) → h.form ≡ k → set_at k ≡ entry_set t (entry_of h)
  unfolding entry_of
  set_numbered k e = ap set_at (sym e)

  -- a number that is none of 3 to 6 and 10: the forms of a root
  pub set_rooted : (h.form ≡ 3 → ⊥) → (h.form ≡ 4 → ⊥) → (h.form ≡ 5 → ⊥) → (h.form ≡ 6 → ⊥) → (h.form ≡ 10 → ⊥)
      → node_set t h.first ≡ entry_set t (entry_of h)
  unfolding entry_of
  set_rooted a b c d f = go h.form refl
    where
      go : (n : ℕ) → h.form ≡ n → node_set t h.first ≡ set_at h.form
      go zero e = sym (ap set_at e)
      go (suc zero) e = sym (ap set_at e)
      go (suc (suc zero)) e = sym (ap set_at e)
      go (suc (suc (suc zero))) e = absurd (a e)
      go (suc (suc (suc (suc zero)))) e = absurd (b e)
      go (suc (suc (suc (suc (suc zero))))) e = absurd (c e)
      go (suc (suc (suc (suc (suc (suc zero)))))) e = absurd (d e)
      go (suc (suc (suc (suc (suc (suc (suc zero))))))) e = sym (ap set_at e)
      go (suc (suc (suc (suc (suc (suc (suc (suc zero)))))))) e = sym (ap set_at e)
      go (suc (suc (suc (suc (suc (suc (suc (suc (suc zero))))))))) e = sym (ap set_at e)
      go (suc (suc (suc (suc (suc (suc (suc (suc (suc (suc n)))))))))) e =
          let past : 11 ≤ h.form = omega (arith, f) in
          sym (ap (λ f. entry_set t (f h.first h.second)) (get_or-eq_default forms (λ a b. written a) {n = h.form} (omega arith)))
