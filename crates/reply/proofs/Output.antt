-- What the program prints, by the verdict: one row 89, or the rows of sequents 1 to the count, one after another, as write sequent writes them. By recursion on
-- the list of sequents: its members are those at the numbers below its length.
use Prim.Native.Nat.{ℕ, suc, ◌+◌, ◌-◌, ◌≤◌, ◌<◌}
use mathlib.Core.Path.{◌≡◌, refl, sym, ap, ◌∙◌}
use mathlib.Core.Bool.{◌&&◌}
use mathlib.Core.List.{List, [], ◌∷◌, ◌++◌, flat_map, append-nil}
use native.Mathlib.Omega.{arith}
use lib.Dec.{leb, ltb}
use lib.ListN.{length, get_or, drop_of_length-le}
use borrow.Author.Tests.{le-leb, le-ltb}
use Rattle.std.specs.Prelude.{Ok, Err}
use Rattle.lists.specs.Below.{numbers}
use Rattle.lists.specs.Over.{over}
use Rattle.lists.proofs.Below.{in_numbers}
use Rattle.lists.proofs.Choice.{chosen, not_chosen}
use Rattle.lists.proofs.Flat.{flat_join, flat_same, flat_map_lem, flat_ext, numbers_suc, numbers_join}
use Rattle.row.specs.Row.{row_bytes, width}
use Rattle.machine.specs.Machine.{Machine}
use Rattle.sequent.specs.Sequent.{Sequent}
use Rattle.sequent.specs.Listed.{sequents}
use Rattle.rules.specs.Refusal.{refused}
use Rattle.rules.specs.Verdict.{verdict}
use Rattle.rules.specs.Offence.{machine}
use Rattle.rules.proofs.Accepted.{accepted_none}
use Rattle.reply.specs.Row.{row}
use Rattle.reply.specs.Printed.{sequent_rows, rows_bytes}
use Rattle.reply.specs.Replies.{among, sequent_at, sequent_bytes, write_by, write_rows, printed, write_sequent, output}
use Rattle.reply.proofs.Printed.{rows_join}

-- what is made of a list, by its members' places
flat_places : {A B : Type 0} (f : A → List B) (d : A) (xs : List A) → flat_map f xs ≡ flat_map (λ i. f (get_or xs i d)) (numbers (length xs) 0)
unfolding flat_map numbers
flat_places f d [] = refl
flat_places f d (x ∷ xs) =
    ap (λ r. f x ++ r)
    (flat_places f d xs ∙ sym (ap (flat_map (λ i. f (get_or (x ∷ xs) i d))) (numbers_suc (length xs) 0) ∙ flat_map_lem (λ i. f (get_or (x ∷ xs) i d)) suc (numbers (length xs) 0)))

-- the rows of a list of sequents, sequent by sequent
rows_flat : (m : Machine) (ss : List Sequent) → rows_bytes (flat_map (sequent_rows m) ss) ≡ flat_map (λ s. rows_bytes (sequent_rows m s)) ss
unfolding flat_map rows_bytes
rows_flat m [] = refl
rows_flat m (s ∷ ss) = rows_join (sequent_rows m s) (flat_map (sequent_rows m) ss) ∙ ap (λ bs. rows_bytes (sequent_rows m s) ++ bs) (rows_flat m ss)

rows_numbered : (m : Machine) (ss : List Sequent)
    → rows_bytes (flat_map (sequent_rows m) ss) ≡ flat_map (λ k. rows_bytes (sequent_rows m (sequent_at ss k))) (numbers (length ss) 1)
rows_numbered m ss =
    rows_flat m ss
    ∙ flat_places (λ s. rows_bytes (sequent_rows m s)) _ ss
    ∙ flat_ext _ _ (numbers (length ss) 0) (λ i. let p : i ≡ suc i - 1 = omega arith in ap (λ j. rows_bytes (sequent_rows m (get_or ss j _))) p)
    ∙ sym (ap (flat_map (λ k. rows_bytes (sequent_rows m (sequent_at ss k)))) (numbers_suc (length ss) 0) ∙ flat_map_lem (λ k. rows_bytes (sequent_rows m (sequent_at ss k))) suc (numbers (length ss) 0))

module _ (bytes : List ℕ) where
  -- "or one row 89 (refusal, row, 0)"
  pub output_refused : (number at : ℕ) → verdict bytes ≡ Err (refused number at) → output bytes ≡ row_bytes width (row 89 number at 0)
  unfolding output
  output_refused number at e = ap (printed (machine bytes)) e

  module _ (n : ℕ) (accepted : verdict bytes ≡ Ok n) where
    -- "prints all sequents"
    pub output_accepted : output bytes ≡ flat_map (sequent_bytes (machine bytes)) (numbers n 1)
    unfolding output
    output_accepted =
        ap (printed (machine bytes)) accepted
        ∙ rows_numbered (machine bytes) (sequents (machine bytes))
        ∙ ap (λ m. flat_map (sequent_bytes (machine bytes)) (numbers m 1)) (sym (accepted_none bytes n accepted).1)

    -- each as write sequent writes it
    pub sequent_written : (k : ℕ) (out : List ℕ) → 1 ≤ k → k ≤ n → length (sequent_bytes (machine bytes) k) ≤ length out
        → write_sequent bytes k out ≡ record { reply = Ok (length (sequent_rows (machine bytes) (sequent_at (sequents (machine bytes)) k))); buffer = over (sequent_bytes (machine bytes) k) out }
    unfolding write_sequent write_rows
    sequent_written k out low high room =
        ap (λ v. write_by (machine bytes) v k out) accepted
        ∙ chosen (among k n) _ _ (ap (λ b. b && leb k n) (le-leb 1 k low) ∙ le-leb k n high)
        ∙ not_chosen (ltb (length out) (length (sequent_bytes (machine bytes) k))) _ _ (le-ltb (length out) (length (sequent_bytes (machine bytes) k)) room)

    -- "The printed bytes must equal those made sequent by sequent": whatever the buffers hold, each of exactly the room that its sequent takes
    pub output_by_sequent : (outs : ℕ → List ℕ) → ((k : ℕ) → length (outs k) ≡ length (sequent_bytes (machine bytes) k))
        → output bytes ≡ flat_map (λ k. (write_sequent bytes k (outs k)).buffer) (numbers n 1)
    unfolding over
    output_by_sequent outs room =
        output_accepted
        ∙ flat_same _ _ (numbers n 1) (λ k i. let (low, high) = in_numbers n 1 k i in
        sym (ap (λ o. o.buffer) (sequent_written k (outs k) low (omega arith) (omega (arith, room k)))
        ∙ ap (λ rest. sequent_bytes (machine bytes) k ++ rest) (drop_of_length-le (outs k) {i = length (sequent_bytes (machine bytes) k)} (omega (arith, room k)))
        ∙ append-nil (sequent_bytes (machine bytes) k)))

    -- the rows of a sequent stand behind those of the sequents before it
    pub output_split : (k : ℕ) → k < n → output bytes
        ≡ flat_map (sequent_bytes (machine bytes)) (numbers k 1) ++ (sequent_bytes (machine bytes) (k + 1) ++ flat_map (sequent_bytes (machine bytes)) (numbers (n - (k + 1)) (k + 2)))
    unfolding flat_map numbers
    output_split k h =
        let f : ℕ → List ℕ = sequent_bytes (machine bytes) in
        let p : n ≡ k + suc (n - (k + 1)) = omega arith in
        let q : 1 + k ≡ k + 1 = omega arith in
        let r : suc (1 + k) ≡ k + 2 = omega arith in
        output_accepted
        ∙ ap (λ m. flat_map f (numbers m 1)) p
        ∙ ap (flat_map f) (numbers_join k (suc (n - (k + 1))) 1)
        ∙ flat_join f (numbers k 1) (numbers (suc (n - (k + 1))) (1 + k))
        ∙ rw (r, q)
