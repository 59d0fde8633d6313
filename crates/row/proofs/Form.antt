-- What is in the row form, for every width and range: reading inverts writing, and whatever reads as a row is exactly its written form.
-- Each column is a part of the row, and the laws of the number form hold of it.
use Prim.Native.Nat.{ℕ, ◌+◌, ◌-◌, ◌*◌, ◌≤◌, ◌<◌, ◌^◌}
use mathlib.Core.Path.{◌≡◌, refl, ap, sym, ◌∙◌}
use mathlib.Core.List.{List, [], ◌∷◌, ◌++◌, append_assoc}
use mathlib.Core.Bool.{Bool, true, false}
use native.Mathlib.Omega.{arith}
use native.Mathlib.Numerals.{add-one}
use borrow.Author.Tests.{eqb-true}
use lib.Dec.{eqb}
use lib.ListN.{length, take, drop, get_or, length-append, length-take, length-drop}
use lib.Seq.{take_at, drop_at, get_or_at, take-add, take-suc, take_all}
use Rattle.number.specs.Number.{columns_of, text_of, InRange, Fits}
use Rattle.number.specs.Reading.{number_of}
use Rattle.std.specs.Prelude.{Option, Some, None}
use Rattle.number.proofs.Columns.{written_length}
use Rattle.number.proofs.Form.{number_form, written_reads}
use Rattle.row.specs.declared.Row.{Row}
use Rattle.row.specs.Row.{newline, row_bytes, row_length, Writable}
use Rattle.row.specs.Reading.{joined, line_at}

pub row_length_lem : (w : ℕ) (r : Row) → length (row_bytes w r) ≡ row_length w
unfolding row_bytes
row_length_lem w r = simp (length-append, written_length) (omega arith)

-- a part that stands between two lists
part_between : (xs vs ys : List ℕ) (a n : ℕ) → length xs ≡ a → length vs ≡ n → take n (drop a (xs ++ (vs ++ ys))) ≡ vs
part_between xs vs ys a n la lv = rw drop_at (take_at vs ys n lv)

-- a row is joined from four numbers and its last byte
pub record Joined (t a b c : Option ℕ) (ended : Bool) (r : Row) : Type 0 where
  tag : t ≡ Some r.tag
  first : a ≡ Some r.a
  second : b ≡ Some r.b
  third : c ≡ Some r.c
  last : ended ≡ true

joined_whole : (t a b c : Option ℕ) (ended : Bool) (r : Row) → Joined t a b c ended r → joined t a b c ended ≡ Some r
joined_whole t a b c ended r j = rw (j.tag, j.first, j.second, j.third, j.last)

malformed_never : (r : Row) → None ≡ Some r → ⊥
malformed_never r e = let z : ◌≡◌ {A = ℕ} 0 1 = cc in omega arith

whole_joined : (t a b c : Option ℕ) (ended : Bool) (r : Row) → joined t a b c ended ≡ Some r → Joined t a b c ended r
whole_joined (Some t) (Some a) (Some b) (Some c) true r e =
    let s : record { tag = t; a = a; b = b; c = c } ≡ r = cc in
    record { tag = ap (λ x. Some x.tag) s; first = ap (λ x. Some x.a) s; second = ap (λ x. Some x.b) s; third = ap (λ x. Some x.c) s; last = refl }
whole_joined (Some t) (Some a) (Some b) (Some c) false r e = absurd (malformed_never r e)
whole_joined None a b c ended r e = absurd (malformed_never r e)
whole_joined (Some t) None b c ended r e = absurd (malformed_never r e)
whole_joined (Some t) (Some a) None c ended r e = absurd (malformed_never r e)
whole_joined (Some t) (Some a) (Some b) None ended r e = absurd (malformed_never r e)

module _ (g w : ℕ) (small : g < 2 ^ 63) where
  -- a written number that stands between two lists is read
  reads_between : (bytes xs ys : List ℕ) (a n m v : ℕ) → bytes ≡ xs ++ (columns_of m (text_of v) ++ ys) → length xs ≡ a → n ≡ m → InRange g v → Fits m v
      → number_of g (take n (drop a bytes)) ≡ Some v
  reads_between bytes xs ys a n m v e la en r f =
      rw (e, part_between xs (columns_of m (text_of v)) ys a n la (written_length m (text_of v) ∙ sym en)) (written_reads g small m v r f)

  -- reading inverts writing
  pub written_row_reads : (r : Row) → Writable g w r → line_at g w (row_bytes w r) ≡ Some r
  unfolding row_bytes
  written_row_reads r h =
      let t : List ℕ = columns_of 4 (text_of r.tag) in
      let a : List ℕ = columns_of w (text_of r.a) in
      let b : List ℕ = columns_of w (text_of r.b) in
      let c : List ℕ = columns_of w (text_of r.c) in
      let bytes : List ℕ = row_bytes w r in
      joined_whole _ _ _ _ _ r (record {
        tag = reads_between bytes [] (a ++ (b ++ (c ++ (newline ∷ [])))) 0 4 4 r.tag (simp append_assoc) refl refl h.tag_range h.tag_fits;
        first = reads_between bytes t (b ++ (c ++ (newline ∷ []))) 4 (4 + w - 4) w r.a (simp append_assoc) (written_length 4 _) (omega arith) h.a_range h.a_fits;
        second = reads_between bytes (t ++ a) (c ++ (newline ∷ [])) (4 + w) (4 + 2 * w - (4 + w)) w r.b (simp append_assoc) (simp (length-append, written_length)) (omega arith) h.b_range h.b_fits;
        third = reads_between bytes ((t ++ a) ++ b) (newline ∷ []) (4 + 2 * w) (4 + 3 * w - (4 + 2 * w)) w r.c (simp append_assoc) (simp (length-append, written_length) (omega arith)) (omega arith) h.c_range h.c_fits;
        last = ap (λ x. eqb x newline) (get_or_at (((t ++ a) ++ b) ++ c) newline [] 0 (4 + 3 * w) (simp (length-append, written_length) (omega arith)));
      })

  -- the columns from a on hold the number v
  record Column (bytes : List ℕ) (a m v : ℕ) : Type 0 where
    form : take m (drop a bytes) ≡ columns_of m (text_of v)
    range : InRange g v
    fits : Fits m v

  column : (bytes : List ℕ) (a n m v : ℕ) → n ≡ m → a + m ≤ length bytes → number_of g (take n (drop a bytes)) ≡ Some v → Column bytes a m v
  column bytes a n m v q h e =
      let f = number_form g small (take m (drop a bytes)) v (rw q at e) in
      let l : length (take m (drop a bytes)) ≡ m = simp (length-take, length-drop) (omega arith) in
      record { form = rw l at f.form; range = f.range; fits = rw l at f.fits }

  -- the front of a row grows by a column
  front_more : (bytes front : List ℕ) (a m e v : ℕ) → take a bytes ≡ front → Column bytes a m v → e ≡ a + m → take e bytes ≡ front ++ columns_of m (text_of v)
  front_more bytes front a m e v f k q = rw (q, take-add a m bytes, f, k.form)

  -- whatever reads as a row is exactly its written form
  pub row_form : (bytes : List ℕ) (r : Row) → length bytes ≡ row_length w → line_at g w bytes ≡ Some r → Writable g w r × (bytes ≡ row_bytes w r)
  unfolding row_bytes
  row_form bytes r l e =
      let j = whole_joined _ _ _ _ _ r e in
      let kt = column bytes 0 4 4 r.tag refl (omega arith) j.tag in
      let ka = column bytes 4 (4 + w - 4) w r.a (omega arith) (omega arith) j.first in
      let kb = column bytes (4 + w) (4 + 2 * w - (4 + w)) w r.b (omega arith) (omega arith) j.second in
      let kc = column bytes (4 + 2 * w) (4 + 3 * w - (4 + 2 * w)) w r.c (omega arith) (omega arith) j.third in
      let fa = front_more bytes _ 4 w (4 + w) r.a kt.form ka refl in
      let fb = front_more bytes _ (4 + w) w (4 + 2 * w) r.b fa kb (omega arith) in
      let fc = front_more bytes _ (4 + 2 * w) w (4 + 3 * w) r.c fb kc (omega arith) in
      let last : get_or bytes (4 + 3 * w) 0 ≡ newline = eqb-true (get_or bytes (4 + 3 * w) 0) newline j.last in (
        record { tag_range = kt.range; tag_fits = kt.fits; a_range = ka.range; a_fits = ka.fits; b_range = kb.range; b_fits = kb.fits; c_range = kc.range; c_fits = kc.fits },
        sym (take_all (row_length w) bytes (omega arith)) ∙ ap (λ n. take n bytes) (add-one (4 + 3 * w)) ∙ take-suc bytes (4 + 3 * w) 0 (omega arith)
            ∙ rw (fc, last),
      )
