-- What is written reads back: reading written rows one after another gives each of them in order, whatever bytes follow. By recursion on the rows, each of
-- which reads as what was written (`written_row_reads`); and every row that the program writes is writable.
use Prim.Native.Nat.{ℕ, zero, suc, ◌+◌, ◌-◌, ◌*◌, ◌<◌}
use mathlib.Core.Path.{◌≡◌, refl, sym, ap, ◌∙◌}
use mathlib.Core.List.{List, [], ◌∷◌, ◌++◌, append_assoc, append-nil, flat_map}
use native.Mathlib.Omega.{arith}
use native.Mathlib.Nat.{not-suc-le-zero}
use borrow.Author.Tests.{lt-ltb, le-ltb}
use lib.Dec.{ltb}
use lib.ListN.{length, get_or, take, drop, length-append}
use lib.Seq.{take_at, drop_at, drop-drop, ext_get_or}
use Rattle.std.specs.Prelude.{Result, Ok, Err}
use Rattle.lists.specs.All.{All, all_nil, all_cons, In}
use Rattle.lists.proofs.All.{all_at}
use Rattle.lists.proofs.Choice.{chosen, not_chosen}
use Rattle.lists.proofs.Distinct.{in_place}
use Rattle.row.specs.declared.Row.{Row}
use Rattle.row.specs.declared.Read.TheVariants as read
use Rattle.row.specs.Row.{greatest, width, row_length, row_bytes, Writable, part}
use Rattle.row.specs.Reading.{line_at, found_at, read_at}
use Rattle.row.proofs.Form.{row_length_lem, written_row_reads}
use Rattle.machine.specs.Machine.{Machine}
use Rattle.sequent.specs.Entry.{Entry, formula}
use Rattle.sequent.specs.Sequent.{Sequent}
use Rattle.sequent.specs.Listed.{sequents}
use Rattle.rules.specs.declared.Refusal.{Refusal}
use Rattle.rules.specs.Verdict.{verdict as verdict_of}
use Rattle.rules.specs.Offence.{machine}
use Rattle.reply.specs.Row.{row}
use Rattle.reply.specs.Printed.{sequent_rows, rows_bytes}
use Rattle.reply.specs.Spelled.{spell}
use Rattle.reply.specs.Replies.{entries, printed, output}
use Rattle.reply.proofs.Printed.{rows_length}
use Rattle.reply.proofs.Parse.{entry_spelled_once}
use Rattle.reply.proofs.Writable.{spelled_rows_writable, list_rows_writable, refusal_row_writable}

-- the bytes of row i
row_part : (rs : List Row) (ys : List ℕ) (d : Row) (i : ℕ) → i < length rs
    → part (rows_bytes rs ++ ys) (row_length width * i) (row_length width * i + row_length width) ≡ row_bytes width (get_or rs i d)
unfolding rows_bytes flat_map
row_part [] ys d i h = absurd (not-suc-le-zero h)
row_part (r ∷ rs) ys d zero h = rw (append_assoc, take_at (row_bytes width r) _ 38 (row_length_lem width r))
row_part (r ∷ rs) ys d (suc i) h =
    let size : row_length width * suc i + row_length width - row_length width * suc i ≡ row_length width * i + row_length width - row_length width * i = omega arith in
    let place : row_length width * suc i ≡ row_length width + row_length width * i = omega arith in
    ap (λ n. take n (drop (row_length width * suc i) ((row_bytes width r ++ rows_bytes rs) ++ ys))) size
    ∙ ap (take (row_length width * i + row_length width - row_length width * i)) (
    ap (λ n. drop n ((row_bytes width r ++ rows_bytes rs) ++ ys)) place
    ∙ sym (drop-drop (row_length width * i) (row_length width) _)
    ∙ ap (drop (row_length width * i)) (rw append_assoc (drop_at (row_bytes width r) (rows_bytes rs ++ ys) 38 (row_length_lem width r))))
    ∙ row_part rs ys d i (omega arith)

-- row i is read at its place, and the reading place moves on to the next
pub rows_read_lem : (rs : List Row) (ys : List ℕ) → All (Writable greatest width) rs → (d : Row) (i : ℕ) → i < length rs
    → read_at greatest width (rows_bytes rs ++ ys) (row_length width * i) ≡ read.Next (get_or rs i d) (record { at = row_length width * i + row_length width })
rows_read_lem rs ys w d i h =
    let bytes : List ℕ = rows_bytes rs ++ ys in
    let at : ℕ = row_length width * i in
    let size : length bytes ≡ row_length width * length rs + length ys = length-append (rows_bytes rs) ys ∙ ap (λ n. n + length ys) (rows_length rs) in
    chosen (ltb at (length bytes)) _ _ (lt-ltb at (length bytes) (omega arith))
    ∙ not_chosen (ltb (length bytes) (at + row_length width)) _ _ (le-ltb (length bytes) (at + row_length width) (omega arith))
    ∙ ap (found_at (at + row_length width)) (
    ap (line_at greatest width) (row_part rs ys d i h) ∙ written_row_reads greatest width (omega arith) (get_or rs i d) (all_at w (in_place rs d i h)))

-- after the last row nothing is left to read
pub rows_end : (rs : List Row) → read_at greatest width (rows_bytes rs) (row_length width * length rs) ≡ read.End
rows_end rs =
    not_chosen (ltb (row_length width * length rs) (length (rows_bytes rs))) _ _
    (le-ltb (row_length width * length rs) (length (rows_bytes rs)) (omega (arith, rows_length rs)))

-- so writable rows with the same bytes are the same rows
pub rows_once : (rs ss : List Row) → All (Writable greatest width) rs → All (Writable greatest width) ss → rows_bytes rs ≡ rows_bytes ss → rs ≡ ss
rows_once rs ss w v e = ext_get_or d rs ss size same
  where
    d : Row
    d = row 0 0 0 0

    size : length rs ≡ length ss
    size = omega (arith, rows_length rs, rows_length ss, ap length e)

    same : (i : ℕ) → i < length rs → get_or rs i d ≡ get_or ss i d
    same i h =
        let q = sym (rows_read_lem rs [] w d i h) ∙ ap (λ bs. read_at greatest width (bs ++ []) (row_length width * i)) e ∙ rows_read_lem ss [] v d i (omega (arith, size)) in
        cc

-- the rows that the program prints, by the verdict
abbrev pub printed_rows : Machine → Result ℕ Refusal → List Row
printed_rows m (Err r) = row 89 r.number r.row 0 ∷ []
printed_rows m (Ok n) = flat_map (sequent_rows m) (sequents m)

module _ (bytes : List ℕ) where
  abbrev pub output_rows : List Row
  output_rows = printed_rows (machine bytes) (verdict_of bytes)

  printed_rows_lem : (v : Result ℕ Refusal) → printed (machine bytes) v ≡ rows_bytes (printed_rows (machine bytes) v)
  unfolding rows_bytes flat_map
  printed_rows_lem (Err r) = sym (append-nil (row_bytes width (row 89 r.number r.row 0)))
  printed_rows_lem (Ok n) = refl

  printed_writable : (v : Result ℕ Refusal) → verdict_of bytes ≡ v → All (Writable greatest width) (printed_rows (machine bytes) v)
  printed_writable (Err r) e = all_cons (refusal_row_writable bytes r.number r.row e) all_nil
  printed_writable (Ok n) e = list_rows_writable bytes n e

  pub output_rows_lem : output bytes ≡ rows_bytes output_rows
  unfolding output
  output_rows_lem = printed_rows_lem (verdict_of bytes)

  -- whatever the table, every row that is printed reads as that row, and nothing else is printed
  pub output_reads : (d : Row) (i : ℕ) → i < length output_rows
      → read_at greatest width (output bytes) (row_length width * i) ≡ read.Next (get_or output_rows i d) (record { at = row_length width * i + row_length width })
  output_reads d i h =
      ap (λ bs. read_at greatest width bs (row_length width * i)) (output_rows_lem ∙ sym (append-nil (rows_bytes output_rows)))
      ∙ rows_read_lem output_rows [] (printed_writable (verdict_of bytes) refl) d i h

  pub output_ends : read_at greatest width (output bytes) (row_length width * length output_rows) ≡ read.End
  output_ends = ap (λ bs. read_at greatest width bs (row_length width * length output_rows)) output_rows_lem ∙ rows_end output_rows

  -- two entries of an accepted table's sequents that are spelled with the same bytes have the same formula
  pub entry_bytes_once : (n : ℕ) → verdict_of bytes ≡ Ok n → {s t : Sequent} → In s (sequents (machine bytes)) → In t (sequents (machine bytes))
      → {h g : Entry} → In h (entries s) → In g (entries t)
      → rows_bytes (spell (formula (machine bytes) h)) ≡ rows_bytes (spell (formula (machine bytes) g)) → formula (machine bytes) h ≡ formula (machine bytes) g
  entry_bytes_once n v i j {h} {g} k l e =
      entry_spelled_once (machine bytes) h g (rows_once _ _ (spelled_rows_writable bytes n v i k) (spelled_rows_writable bytes n v j l) e)
