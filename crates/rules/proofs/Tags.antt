-- What check 3 gives: tags are known and never fall, so a number that names something names a row of its section.
use Prim.Native.Nat.{ℕ, suc, ◌-◌, ◌≤◌, ◌<◌}
use mathlib.Core.Path.{◌≡◌, refl, ap, subst}
use mathlib.Core.Bool.{Bool, true, false, ◌&&◌}
use mathlib.Core.List.{List, [], ◌∷◌}
use native.Mathlib.Omega.{arith}
use lib.Dec.{T, ltb, leb, eqb, lt→ltb}
use borrow.Author.Tests.{ltb-false, leb-true, leb-false, eqb-false, ne_eqb}
use Rattle.formula.proofs.Truth.{eq→eqb, or_neither, and_not_right}
use Rattle.table.specs.Names.{variant_tag}
use Rattle.table.specs.Rows.{Rows, tagged, Rising}
use Rattle.table.proofs.Sections.{neighbours_rising}
use Rattle.rules.specs.Tags.{Tag, tags, tag_numbered, columns_used}
use Rattle.rules.specs.Rules.{tag_offends}
use Rattle.rules.proofs.Obeys.{Obeys}

-- a number that is none of the tags of a list
abbrev pub NoneOf : ℕ → List Tag → Type 0
NoneOf x [] = Unit {0}
NoneOf x (t ∷ ts) = (t.tag ≡ x → ⊥) × NoneOf x ts

pub find_none : (ts : List Tag) (x : ℕ) → NoneOf x ts → tag_numbered ts x ≡ tag_numbered [] x
find_none [] x h = refl
find_none (t ∷ ts) x h = rw (ne_eqb t.tag x h.0, tag_numbered) (find_none ts x h.1)

-- a tag above the highest uses no column
above_unused : (x : ℕ) → variant_tag < x → columns_used x ≡ 0
unfolding columns_used
above_unused x h = ap (λ t. t.columns) (find_none tags x (omega arith, (omega arith, (omega arith, (omega arith, (omega arith, (omega arith, (omega arith, (omega arith, (omega arith, (omega arith, (omega arith, tt))))))))))))

module _ (t : Rows) where
  pub tagged_test : (k i : ℕ) → t.tag i ≡ k → T (tagged t k i)
  tagged_test k i e = eq→eqb (t.tag i) k e

  pub rows_rising : ((i : ℕ) → i < t.size → tag_offends t i ≡ false) → Rising t
  unfolding tag_offends
  rows_rising ok = neighbours_rising t step
    where
      step : (i : ℕ) → suc i < t.size → t.tag i ≤ t.tag (suc i)
      step i h =
          let known = (or_neither (eqb (columns_used (t.tag (suc i))) 0) _ (ok (suc i) h)).1 in
          let low = (or_neither (ltb 0 (suc i) && ltb (t.tag (suc i)) (t.tag (suc i - 1))) _ known).0 in
          let e : suc i - 1 ≡ i = omega arith in
          subst (λ x. t.tag x ≤ t.tag (suc i)) e (ltb-false _ _ (and_not_right (ltb 0 (suc i)) _ low (lt→ltb 0 (suc i) (omega arith))))

  pub tags_rising : Obeys t → Rising t
  tags_rising ok = rows_rising ok.tags

  -- and no tag is above the highest
  pub tag_known : (i : ℕ) → tag_offends t i ≡ false → t.tag i ≤ variant_tag
  unfolding tag_offends
  tag_known i ok = go (leb (t.tag i) variant_tag) refl
    where
      go : (b : Bool) → leb (t.tag i) variant_tag ≡ b → t.tag i ≤ variant_tag
      go true e = leb-true (t.tag i) variant_tag e
      go false e = absurd (eqb-false (columns_used (t.tag i)) 0 (or_neither (eqb (columns_used (t.tag i)) 0) _ ok).0 (above_unused (t.tag i) (leb-false (t.tag i) variant_tag e)))
