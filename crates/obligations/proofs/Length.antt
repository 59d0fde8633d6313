-- The length of the output fits a word of 64 bits: a table of 1,724 rows has fewer than 2^32 sequents, and a sequent at most one hypothesis for each segment
-- and row.
use Prim.Native.Nat.{ℕ, suc, ◌+◌, ◌*◌, ◌^◌, ◌≤◌, ◌<◌}
use mathlib.Core.Path.{◌≡◌, refl, sym, ap, ◌∙◌, subst}
use mathlib.Core.List.{List, [], ◌∷◌, flat_map}
use native.Mathlib.Omega.{arith}
use native.Mathlib.Nat.{mul-le-mul, suc-mul}
use lib.ListN.{length, get_or, length-append}
use Rattle.std.specs.Prelude.{Result, Ok, Err}
use Rattle.lists.specs.Below.{keep}
use Rattle.lists.specs.All.{All, all_nil, all_cons}
use Rattle.lists.proofs.All.{all_in, all_flat}
use Rattle.lists.proofs.Below.{in_numbers}
use Rattle.row.specs.Row.{width}
use Rattle.row.proofs.Form.{row_length_lem}
use Rattle.table.specs.Rows.{Rows, count}
use Rattle.machine.specs.Described.{machine_of}
use Rattle.sequent.specs.Entry.{written}
use Rattle.sequent.specs.Sequent.{Sequent, sequent}
use Rattle.sequent.specs.Listed.{needed, sequents}
use Rattle.rules.specs.declared.Refusal.{Refusal}
use Rattle.rules.specs.Decoded.{decoded}
use Rattle.rules.specs.Verdict.{verdict}
use Rattle.rules.specs.Offence.{machine}
use Rattle.rules.proofs.Accepted.{accepted_none, none_obeys}
use Rattle.rules.proofs.Obeys.{Obeys}
use Rattle.groups.specs.Groups.{groups}
use Rattle.walk.specs.Slots.{slot_at, slot_count}
use Rattle.walk.proofs.Kept.{kept_count}
use Rattle.walk.proofs.Find.{kept_slot, kept_group, kept_event, kept_walked, counted_made, walk_count_lem}
use Rattle.walk.proofs.Counts.{count_small}
use Rattle.segments.specs.Segments.{segments}
use Rattle.entries.proofs.Sequent.{slot_segmented}
use Rattle.entries.proofs.Seek.{at_most}
use Rattle.verdict.proofs.Filled.{accepted_words}
use Rattle.reply.specs.Row.{row}
use Rattle.reply.specs.Printed.{sequent_rows, rows_bytes}
use Rattle.reply.specs.Replies.{printed, output}
use Rattle.reply.proofs.Printed.{rows_length}
use Rattle.reply.proofs.Output.{output_refused}
use Rattle.services.proofs.Slots.{rows_count}

-- what is shown of a list's members place by place
all_places : {A : Type 0} {P : A → Type 0} (d : A) (xs : List A) → ((k : ℕ) → k < length xs → P (get_or xs k d)) → All P xs
all_places d [] h = all_nil
all_places d (x ∷ xs) h = all_cons (h 0 (omega arith)) (all_places d xs (λ k l. h (suc k) (omega arith)))

flat_at_most : {A B : Type 0} (f : A → List B) (most : ℕ) {xs : List A} → All (λ x. length (f x) ≤ most) xs → length (flat_map f xs) ≤ length xs * most
unfolding flat_map
flat_at_most f most all_nil = omega arith
flat_at_most f most (all_cons {x = x} {xs = xs} h hs) = rw (suc-mul (length xs) most) (omega (arith, length-append (f x) (flat_map f xs), flat_at_most f most hs))

module _ (t : Rows) (ok : Obeys t) where
  -- rows 80 and 84, a goal, and at most one hypothesis for each segment and row
  abbrev Short : Sequent → Type 0
  Short s = length (sequent_rows (machine_of t) s) ≤ 3 + segments * t.size

  slot_short : (e g i : ℕ) → e ≤ count t 40 → g < groups → i < t.size → All Short (kept_slot t e g i)
  slot_short e g i he hg hi = all_places none (kept_slot t e g i) at
    where
      none : Sequent
      none = sequent 0 0 0 [] (written 0)

      at : (k : ℕ) → k < length (kept_slot t e g i) → Short (get_or (kept_slot t e g i) k none)
      at k h =
          let l : k < slot_count t e g i = omega (arith, kept_count t ok e g i he hi) in
          subst Short
          (sym (ap (λ ss. get_or (keep (needed (machine_of t)) ss) k none) (counted_made t ok e g i (omega arith)) ∙ slot_segmented t ok e i none he hi g k hg l))
          (omega (arith, rows_count t (slot_at e g i k), at_most t (slot_at e g i k) hi))

  sequents_short : All Short (sequents (machine_of t))
  sequents_short =
      subst (All Short) (sym (kept_walked t))
      (all_flat (kept_event t) (all_in _ (λ e he. all_flat (kept_group t e) (all_in _ (λ g hg. all_flat (kept_slot t e g) (all_in _ (λ i hi.
      slot_short e g i (omega (arith, (in_numbers (count t 40 + 1) 0 e he).1)) (omega (arith, (in_numbers groups 0 g hg).1)) (omega (arith, (in_numbers t.size 0 i hi).1)))))))))

  rows_short : t.size ≤ 1724 → length (rows_bytes (flat_map (sequent_rows (machine_of t)) (sequents (machine_of t)))) < 2 ^ 63
  rows_short h =
      let few : length (sequents (machine_of t)) * (3 + segments * t.size) ≤ 4294967296 * 12071 =
      mul-le-mul {n₂ = 4294967296} {m₂ = 12071} (omega (arith, walk_count_lem t ok, count_small t h)) (omega arith) in
      omega (arith, rows_length (flat_map (sequent_rows (machine_of t)) (sequents (machine_of t))), flat_at_most (sequent_rows (machine_of t)) (3 + segments * t.size) sequents_short)

pub output_short : (bytes : List ℕ) → length (output bytes) < 2 ^ 63
unfolding output
output_short bytes = by_verdict (verdict bytes) refl
  where
    by_verdict : (v : Result ℕ Refusal) → verdict bytes ≡ v → length (output bytes) < 2 ^ 63
    by_verdict (Err r) e = omega (arith, ap length (output_refused bytes r.number r.row e), row_length_lem width (row 89 r.number r.row 0))
    by_verdict (Ok n) e =
        let a = accepted_words bytes n e in
        subst (λ o. length o < 2 ^ 63) (sym (ap (printed (machine bytes)) e)) (rows_short (decoded bytes) (none_obeys bytes (accepted_none bytes n e).0) (omega (arith, a.1)))
