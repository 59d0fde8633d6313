-- Each part of the test from the rows that it searches for.
use mathlib.Core.Path.{◌≡◌, ◌∙◌, ap}
use mathlib.Core.Bool.{Bool, not, ◌&&◌, ◌||◌}
use Rattle.lists.specs.Below.{some_below}
use Rattle.table.specs.Rows.{Rows, rows_of}
use Rattle.rules.specs.Rules.{initialises, event_lacks, some_of_class, some_variant, missing}
use Rattle.scan.specs.Query.{passes_of}
use Rattle.scan.specs.declared.Query.TheVariants.{Initialises, OfClass, Tagged}
use Rattle.rule_missing.proofs.missing.Goals as goal

missing_parts :
    (t : Rows) (a b l k n v : Bool) → a ≡ some_below (initialises t 1) t.size → b ≡ some_below (initialises t 2) t.size →
    l ≡ some_below (event_lacks t) t.size → k ≡ some_of_class t 2 → n ≡ some_of_class t 3 → v ≡ some_variant t →
    (not a || (not b || (l || ((k && not v) || (v && not (k || n)))))) ≡ missing t
unfolding missing
missing_parts t a b l k n v ea eb el ek en ev = simp (ea, eb, el, ek, en, ev)

pub returns : goal.returns
returns c =
    let rows = c.size-rows.ensures in
    let t = rows_of c.args.scanned.now.table.words.now in
    missing_parts t c.some_row-abstract_initialised.result c.some_row-concrete_initialised.result c.some_event_lacks-lacks.result c.some_row-convergent.result
    c.some_row-anticipated.result c.some_row-variant.result
    (c.some_row-abstract_initialised.ensures ∙ ap (some_below (passes_of t (Initialises 1))) rows)
    (c.some_row-concrete_initialised.ensures ∙ ap (some_below (passes_of t (Initialises 2))) rows)
    c.some_event_lacks-lacks.ensures
    (c.some_row-convergent.ensures ∙ ap (some_below (passes_of t (OfClass 2))) rows)
    (c.some_row-anticipated.ensures ∙ ap (some_below (passes_of t (OfClass 3))) rows)
    (c.some_row-variant.ensures ∙ ap (some_below (passes_of t (Tagged 70))) rows)
