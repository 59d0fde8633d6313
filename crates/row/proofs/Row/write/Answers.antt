-- Each number is written into what is left of the buffer after those before it; the last byte is stored.
use Prim.Native.Nat.{ℕ}
use mathlib.Core.Path.{ap, ◌∙◌}
use mathlib.Core.List.{List, ◌++◌}
use native.Mathlib.Omega.{arith}
use lib.ListN.{length, length-append}
use Rattle.lists.proofs.Over.{over_tail, over_set, over_length}
use Rattle.number.specs.Number.{columns_of, text_of}
use Rattle.number.proofs.Columns.{written_length}
use Rattle.row.specs.Row.{newline, row_bytes}
use Rattle.row.proofs.Form.{row_length_lem}
use Rattle.row.proofs.Row.write.Goals as goal

pub returns : goal.returns
unfolding row_bytes
returns c =
    let a = c.args in
    let t : List ℕ = columns_of 4 (text_of a.self.tag) in
    let ta : List ℕ = t ++ columns_of 11 (text_of a.self.a) in
    let tab : List ℕ = ta ++ columns_of 11 (text_of a.self.b) in
    let xs : List ℕ = a.out.now in
    over_set (tab ++ columns_of 11 (text_of a.self.c)) xs _ 37 newline (simp (length-append, written_length))
    (over_tail tab _ xs _ _ 26 (simp (length-append, written_length))
    (over_tail ta _ xs _ _ 15 (simp (length-append, written_length))
    (over_tail t _ xs _ _ 4 (simp written_length) c.write_number.ensures c.write_number-2.ensures)
    c.write_number-3.ensures)
    c.write_number-4.ensures)
    (omega arith)

pub shape_of-out : goal.shape_of-out
shape_of-out c =
    ap length (returns c) ∙ over_length (row_bytes 11 c.args.self) c.args.out.now (rw row_length_lem c.requires)
