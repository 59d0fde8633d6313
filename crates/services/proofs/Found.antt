-- The slot at which a search for sequent k ends holds it.
use Prim.Native.Nat.{ℕ, ◌+◌, ◌-◌, ◌≤◌, ◌<◌}
use mathlib.Core.Path.{◌≡◌, ap, ◌∙◌, subst}
use mathlib.Core.List.{[]}
use mathlib.Core.Logic.{inl, inr}
use native.Mathlib.Omega.{arith}
use lib.ListN.{length, get_or}
use Rattle.lists.specs.All.{In}
use Rattle.lists.proofs.Distinct.{in_place}
use Rattle.table.specs.Rows.{Rows}
use Rattle.machine.specs.Described.{machine_of}
use Rattle.sequent.specs.Entry.{written}
use Rattle.sequent.specs.Sequent.{Sequent, sequent}
use Rattle.sequent.specs.Listed.{sequents}
use Rattle.rules.specs.Verdict.{Passes}
use Rattle.rules.proofs.Obeys.{Obeys, passes_obeys}
use Rattle.walk.specs.declared.Slot.{Slot}
use Rattle.walk.specs.Slots.{slot_at, position, SoughtSlot}
use Rattle.walk.proofs.Find.{walk_count_lem, found}
use Rattle.walk.proofs.Counts.{start_position, passed_end}
use Rattle.entries.specs.Sequent.{slot_sequent}
use Rattle.entries.proofs.Sequent.{slot_segmented}
use Rattle.services.specs.Found.{Located}

abbrev no_sequent : Sequent
no_sequent = sequent 0 0 0 [] (written 0)

module _ (t : Rows) (passes : Passes t) where
  ok : Obeys t
  ok = passes_obeys t passes

  -- a search for a place, counted from 0, ends in the slot that holds the sequent there
  pub sought_located : (p : ℕ) (r : Slot) → p < length (sequents (machine_of t)) → SoughtSlot t p r → Located t (p + 1) r
  sought_located p r high (e, inl h) =
      let at : get_or (sequents (machine_of t)) p no_sequent ≡ slot_sequent t r =
      found t ok r.event r.group r.row r.left p no_sequent h.event h.group h.row e h.left
      ∙ slot_segmented t ok r.event r.row no_sequent h.event h.row r.group r.left h.group h.left in
      record {
        row = h.row;
        holds = (let q : p + 1 - 1 ≡ p = omega arith in ap (λ n. get_or (sequents (machine_of t)) n no_sequent) q ∙ at);
        listed = (passes, subst (λ s. In s (sequents (machine_of t))) at (in_place (sequents (machine_of t)) no_sequent p high));
      }
  sought_located p r high (e, inr x) = absurd (omega (arith, passed_end t p r e x, walk_count_lem t ok))

  pub located : (k : ℕ) (r : Slot) → 1 ≤ k → k ≤ length (sequents (machine_of t)) → SoughtSlot t (position t (slot_at 0 0 0 (k - 1))) r → Located t k r
  located k r low high h =
      let q : k - 1 + 1 ≡ k = omega arith in
      subst (λ n. Located t n r) q (sought_located (k - 1) r (omega arith) (subst (λ n. SoughtSlot t n r) (start_position t (k - 1)) h))
