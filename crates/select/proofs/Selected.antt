-- Rows outside the span of a selection are none of it: by cases on the selection, from the law of a tag's span. Nothing is counted of them.
use Prim.Native.Nat.{ℕ, zero, suc, ◌+◌, ◌<◌, ◌≤◌}
use mathlib.Core.Path.{◌≡◌, refl, ap, ap₂, ◌∙◌}
use mathlib.Core.Bool.{Bool, true, false, not, ◌&&◌, ◌||◌}
use native.Mathlib.Omega.{arith}
use lib.Dec.{ltb, leb, eqb}
use borrow.Author.Tests.{ltb-true, lt-ltb, le-ltb, eqb-true}
use Rattle.lists.specs.Choice.{pick}
use Rattle.lists.specs.Below.{one_if, count_below}
use Rattle.lists.specs.Sum.{sum_below}
use Rattle.lists.proofs.Below.{count_at_most}
use Rattle.lists.proofs.Choice.{not_chosen}
use Rattle.table.specs.Names.{becomes_equal_tag, witness_tag, variant_tag}
use Rattle.table.specs.Rows.{Rows, tagged, count, is_action}
use Rattle.table.specs.Lookups.{is_variable_number}
use Rattle.table.specs.declared.Table.{Table}
use Rattle.table.specs.Counts.{counts_of}
use Rattle.table.proofs.Counts.{counts_identifiers}
use Rattle.scan.specs.Span.{Spans}
use Rattle.scan.specs.Spans.{of_tag, tag_span}
use Rattle.scan.proofs.Spans.{tag_stricter}
use Rattle.select.specs.declared.Selection.{Selection}
use Rattle.select.specs.declared.Selection.TheVariants.{None, Tagged, OfEvent, ForParameters, Identifiers, Variables, Assigned, SuchThat}
use Rattle.select.specs.declared.Each.{Each}
use Rattle.select.specs.declared.Each.TheVariants.{One}
use Rattle.select.specs.Each.{weight, count_at}
use Rattle.select.specs.Selection.{between, row_of_event, variable_at, selects, section_span, selected_span}

pub left_true : (p q : Bool) → p && q ≡ true → p ≡ true
left_true true q e = refl
left_true false q e = e

left_false : (p q : Bool) → p ≡ false → p && q ≡ false
left_false p q e = ap (λ b. b && q) e

right_false : (p q : Bool) → q ≡ false → p && q ≡ false
right_false true q e = e
right_false false q e = refl

module _ (t : Rows) where
  -- a row that stands for an identifier is one of the table
  pub identifier_within : (j : ℕ) (q : Bool) → ltb j (count t 10) && q ≡ true → j < t.size
  unfolding count
  identifier_within j q e = omega (arith, ltb-true j (count t 10) (left_true (ltb j (count t 10)) q e), count_at_most (tagged t 10) t.size)

  -- a test of the identifier that a row stands for, where there is one and where there is none
  module _ {table : Table} (counted : table ≡ counts_of t) (j : ℕ) where
    pub identifier_there : (p q : Bool) → j < table.identifiers → p ≡ q → p ≡ (ltb j (count t 10) && q)
    identifier_there p q h e = rw (lt-ltb j (count t 10) (omega (arith, counts_identifiers t table counted))) e

    pub identifier_gone : (q : Bool) → table.identifiers ≤ j → false ≡ (ltb j (count t 10) && q)
    identifier_gone q h = rw (le-ltb j (count t 10) (omega (arith, counts_identifiers t table counted)))

  -- the rows of a tag
  no_tag : (k j : ℕ) → of_tag t k j ≡ false → tagged t k j ≡ false
  no_tag k j e = go (eqb k becomes_equal_tag) refl e
    where
      either : (p q : Bool) → p || q ≡ false → p ≡ false
      either true q e = e
      either false q e = refl

      go : (b : Bool) → eqb k becomes_equal_tag ≡ b → pick b (is_action t j) (tagged t k j) ≡ false → tagged t k j ≡ false
      go true q e = ap (eqb (t.tag j)) (eqb-true k becomes_equal_tag q) ∙ either (tagged t 51 j) (tagged t 52 j) e
      go false q e = e

  section_spans : (k : ℕ) (Q : ℕ → Bool) → ((j : ℕ) → tagged t k j ≡ false → Q j ≡ false) → Spans Q t.size (section_span t k)
  section_spans k Q f = go (leb k variant_tag)
    where
      go : (b : Bool) → Spans Q t.size (pick b (tag_span t k) (between 0 t.size))
      go true = tag_stricter t k Q (λ j e. f j (no_tag k j e))
      go false = record { within = omega arith; below = λ j l. absurd (omega arith); above = λ j l h. absurd (omega arith) }

  identifier_spans : (Q : ℕ → Bool) → ((j : ℕ) → ltb j (count t 10) ≡ false → Q j ≡ false) → Spans Q t.size (between 0 (count t 10))
  unfolding count
  identifier_spans Q f = record {
    within = count_at_most (tagged t 10) t.size;
    below = λ j l. absurd (omega arith);
    above = λ j l h. f j (le-ltb j _ l);
  }

  variable_none : (own j : ℕ) → ltb j (count t 10) ≡ false → variable_at t own j ≡ false
  variable_none own j e = left_false (ltb j (count t 10)) _ e

  pub selected_spans : (s : Selection) → Spans (selects t s) t.size (selected_span t s)
  selected_spans None = record { within = omega arith; below = λ j l. refl; above = λ j l h. refl }
  selected_spans (Tagged k) = section_spans k _ (λ j e. e)
  selected_spans (OfEvent k e) = section_spans k _ (λ j p. left_false (tagged t k j) (eqb (t.a j) e) p)
  selected_spans (ForParameters e) = section_spans witness_tag _ (λ j p. right_false (not (is_variable_number t (t.b j))) (row_of_event t witness_tag e j) (left_false (tagged t witness_tag j) (eqb (t.a j) e) p))
  selected_spans (Identifiers kind) = identifier_spans _ (λ j p. left_false (ltb j (count t 10)) _ p)
  selected_spans (Variables own) = identifier_spans _ (variable_none own)
  selected_spans (Assigned own e) = identifier_spans _ (λ j p. left_false (variable_at t own j) _ (variable_none own j p))
  selected_spans (SuchThat own e) = identifier_spans _ (λ j p. left_false (variable_at t own j) _ (variable_none own j p))

  -- and none is counted
  pub count_none : (s : Selection) (each : Each) (i : ℕ) → selects t s i ≡ false → count_at t s each i ≡ 0
  unfolding count_at
  count_none s each i e = not_chosen (selects t s i) (weight t each i) 0 e

  -- where there is one of each row, they are as many as the rows
  one_counted : (s : Selection) (i : ℕ) → count_at t s One i ≡ one_if (selects t s i)
  unfolding count_at
  one_counted s i = go (selects t s i)
    where
      go : (b : Bool) → pick b 1 0 ≡ one_if b
      go true = refl
      go false = refl

  pub ones_counted : (s : Selection) (n : ℕ) → sum_below (count_at t s One) n ≡ count_below (selects t s) n
  unfolding sum_below count_below
  ones_counted s zero = refl
  ones_counted s (suc n) = ap₂ (λ a b. a + b) (ones_counted s n) (one_counted s n)

  pub counted_one : (s : Selection) (i left : ℕ) → left < count_at t s One i → (selects t s i ≡ true) × (left ≡ 0)
  counted_one s i left h = go (selects t s i) refl (one_counted s i)
    where
      go : (b : Bool) → selects t s i ≡ b → count_at t s One i ≡ one_if b → (selects t s i ≡ true) × (left ≡ 0)
      go true p e = (p, omega (arith, e))
      go false p e = absurd (omega (arith, e))
