-- A row that passes a query is one of the rows of the query's tag: by the query. So where the search for one starts and ends makes no difference.
use Prim.Native.Nat.{ℕ, min, ◌≤◌}
use mathlib.Core.Path.{◌≡◌, refl, ap, sym, ◌∙◌}
use mathlib.Core.Bool.{Bool, true, false, ◌&&◌, ◌||◌}
use native.Mathlib.Omega.{arith}
use borrow.Author.Tests.{eqb-true}
use lib.Dec.{ltb, eqb}
use Rattle.lists.specs.Choice.{pick}
use Rattle.lists.specs.Below.{some_below}
use Rattle.lists.proofs.Below.{count_stays}
use Rattle.table.specs.Names.{becomes_equal_tag, becomes_such_tag, witness_tag}
use Rattle.table.specs.Rows.{Rows, tagged, is_action}
use Rattle.scan.specs.declared.Query.{Query}
use Rattle.scan.specs.declared.Query.TheVariants.{Event, SameTarget, Initialises, Assigns, Witnesses, OfClass, Tagged}
use Rattle.scan.specs.Query.{action_tag, query_tag, passes_of}
use Rattle.scan.specs.Span.{Spans}
use Rattle.scan.specs.Spans.{of_tag, tag_span}
use Rattle.scan.specs.Query.{span_tag}
use Rattle.scan.proofs.Spans.{tag_stricter}

or_again : (b c : Bool) → (b || (b || c)) ≡ (b || c)
or_again true c = refl
or_again false c = refl

or_later : (b c : Bool) → (c || (b || c)) ≡ (b || c)
or_later true true = refl
or_later true false = refl
or_later false true = refl
or_later false false = refl

or_false : (b : Bool) → (b || false) ≡ b
or_false true = refl
or_false false = refl

-- a row of the tag y is counted with one of the tag x
pub counted_tag : (x y : ℕ) → (eqb y x || (action_tag x && action_tag y)) ≡ pick (eqb (span_tag x) becomes_equal_tag) (action_tag y) (eqb y (span_tag x))
counted_tag x y = by_tag (eqb x becomes_equal_tag) (eqb x becomes_such_tag) refl refl
  where
    by_tag : (p q : Bool) → eqb x becomes_equal_tag ≡ p → eqb x becomes_such_tag ≡ q
        → (eqb y x || ((p || q) && action_tag y)) ≡ pick (eqb (pick q becomes_equal_tag x) becomes_equal_tag) (action_tag y) (eqb y (pick q becomes_equal_tag x))
    by_tag true true p q = absurd (omega (arith, eqb-true x becomes_equal_tag p, eqb-true x becomes_such_tag q))
    by_tag true false p q = rw (p, eqb-true x becomes_equal_tag p) (or_again (eqb y becomes_equal_tag) (eqb y becomes_such_tag))
    by_tag false true p q = rw (eqb-true x becomes_such_tag q) (or_later (eqb y becomes_equal_tag) (eqb y becomes_such_tag))
    by_tag false false p q = rw p (or_false (eqb y x))

-- an action or a witness of the tag y shares no target with one of the tag x
same_outside : (x y : ℕ) → pick (eqb (span_tag x) becomes_equal_tag) (action_tag y) (eqb y (span_tag x)) ≡ false → ((action_tag x && action_tag y) || (eqb x witness_tag && eqb y witness_tag)) ≡ false
same_outside x y o = by_tag (eqb x becomes_equal_tag) (eqb x becomes_such_tag) (eqb x witness_tag) refl refl refl o
  where
    by_tag : (p q r : Bool) → eqb x becomes_equal_tag ≡ p → eqb x becomes_such_tag ≡ q → eqb x witness_tag ≡ r
        → pick (eqb (pick q becomes_equal_tag x) becomes_equal_tag) (action_tag y) (eqb y (pick q becomes_equal_tag x)) ≡ false
        → (((p || q) && action_tag y) || (r && eqb y witness_tag)) ≡ false
    by_tag true true r p q w o = absurd (omega (arith, eqb-true x becomes_equal_tag p, eqb-true x becomes_such_tag q))
    by_tag true false true p q w o = absurd (omega (arith, eqb-true x becomes_equal_tag p, eqb-true x witness_tag w))
    by_tag true false false p q w o = rw (rw p at o)
    by_tag false true true p q w o = absurd (omega (arith, eqb-true x becomes_such_tag q, eqb-true x witness_tag w))
    by_tag false true false p q w o = rw o
    by_tag false false true p q w o = ap (eqb y) (sym (eqb-true x witness_tag w)) ∙ (rw p at o)
    by_tag false false false p q w o = refl

module _ (t : Rows) where
  tagged_outside : (k j : ℕ) → of_tag t k j ≡ false → tagged t k j ≡ false
  tagged_outside k j = by_action (eqb k becomes_equal_tag) refl
    where
      first_fails : (a b : Bool) → (a || b) ≡ false → a ≡ false
      first_fails true b e = e
      first_fails false b e = refl

      by_action : (b : Bool) → eqb k becomes_equal_tag ≡ b → pick b (is_action t j) (tagged t k j) ≡ false → tagged t k j ≡ false
      by_action true e o = ap (eqb (t.tag j)) (eqb-true k becomes_equal_tag e) ∙ first_fails (tagged t becomes_equal_tag j) (tagged t becomes_such_tag j) o
      by_action false e o = o

  outside : (q : Query) (j : ℕ) → of_tag t (query_tag q) j ≡ false → passes_of t q j ≡ false
  outside (Event machine) j o = rw o
  outside (SameTarget other event target) j o = rw (same_outside other (t.tag j) o)
  outside (Initialises machine) j o = rw o
  outside (Assigns event target) j o = rw o
  outside (Witnesses event target) j o = rw o
  outside (OfClass class) j o = rw o
  outside (Tagged k) j o = tagged_outside k j o

  pub query_spans : (q : Query) → Spans (passes_of t q) t.size (tag_span t (query_tag q))
  query_spans q = tag_stricter t (query_tag q) (passes_of t q) (outside q)

  -- to the end of the span, or to row n where that comes first
  pub some_to : (q : Query) (n : ℕ) → n ≤ t.size
      → some_below (passes_of t q) (min n (tag_span t (query_tag q)).to) ≡ some_below (passes_of t q) n
  some_to q n h =
      let to = (tag_span t (query_tag q)).to in
      ap (ltb 0) (count_stays (passes_of t q) (min n to) n (omega arith) (λ j l k. (query_spans q).above j (omega arith) (omega arith)))
