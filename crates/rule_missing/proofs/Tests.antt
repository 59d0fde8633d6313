-- Laws of the tests: of two in order, and of where those that pass stand.
use Prim.Native.Nat.{ℕ}
use mathlib.Core.Path.{◌≡◌, sym, subst}
use mathlib.Core.Bool.{Bool, true, false, ◌&&◌, ◌||◌}
use Rattle.lists.specs.Below.{some_below}
use Rattle.table.specs.Names.{identifier_tag, event_tag}
use Rattle.table.specs.Rows.{Rows, tagged}
use Rattle.rules.specs.Rules.{lacks_action, lacks_witness, lacks_for, event_lacks}
use Rattle.scan.specs.declared.Span.{Span}
use Rattle.scan.specs.Span.{Spans}
use Rattle.scan.specs.Spans.{tag_span}
use Rattle.scan.proofs.Spans.{tag_stricter}

pub and_passed : (a b : Bool) → a ≡ true → (a && b) ≡ b
and_passed a b e = rw e

pub and_failed : (a b : Bool) → a ≡ false → (a && b) ≡ false
and_failed a b e = rw e

-- identifiers for which an event lacks something are identifiers, and events that lack something are events
module _ (t : Rows) where
  pub identifiers_span : (i : ℕ) {s : Span} → s ≡ tag_span t identifier_tag → Spans (lacks_for t i) t.size s
  identifiers_span i e =
      subst (Spans (lacks_for t i) t.size) (sym e)
      (tag_stricter t identifier_tag (lacks_for t i) (λ j o. and_failed (tagged t identifier_tag j) (lacks_action t i j || lacks_witness t i j) o))

  pub events_span : {s : Span} → s ≡ tag_span t event_tag → Spans (event_lacks t) t.size s
  events_span e =
      subst (Spans (event_lacks t) t.size) (sym e)
      (tag_stricter t event_tag (event_lacks t) (λ i o. and_failed (tagged t event_tag i) (some_below (lacks_for t i) t.size) o))
