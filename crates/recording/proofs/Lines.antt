-- The rows of a run's bytes: one row after the other, and rows in the row form that a run begins with, or consists of, are exactly their
-- written forms.
use Prim.Native.Nat.{ℕ, zero, suc, ◌≤◌, ◌<◌, ◌^◌}
use mathlib.Core.Path.{◌≡◌, refl, sym, ap, ap₂, ◌∙◌, subst}
use mathlib.Core.Bool.{Bool, true, false, true≢false}
use mathlib.Core.List.{List, [], ◌∷◌, ◌++◌, map, flat_map, append_assoc, append-nil}
use native.Mathlib.Omega.{arith}
use borrow.Author.Tests.{eqb-true, eqb-false, ltb-true, ltb-false, eq-eqb, ne_eqb, lt-ltb, le-ltb}
use lib.Dec.{ltb, eqb}
use lib.ListN.{length, get_or, take, drop, length-drop, length-append, length-take, take-append-drop, drop_of_length-le}
use lib.Seq.{take_at, drop_at}
use Rattle.lists.specs.All.{All, all_nil, all_cons}
use Rattle.lists.proofs.All.{all_head, all_tail}
use Rattle.row.specs.Row.{greatest, width, row_length, row_bytes, Writable}
use Rattle.row.specs.Reading.{line_at, Line}
use Rattle.row.specs.declared.Row.{Row}
use Rattle.std.specs.Prelude.{Some, None}
use Rattle.row.proofs.Form.{row_length_lem, row_form, written_row_reads}
use Rattle.recording.specs.Lines.{lines_to, lines}
use Rattle.recording.proofs.Values.{LineFormed}

-- the first row of so many bytes
abbrev first_line : List ℕ → Line
first_line bytes = line_at greatest width (take (row_length width) bytes)

module _ (most : ℕ) (bytes : List ℕ) where
  to_none : length bytes ≡ 0 → lines_to (suc most) bytes ≡ []
  unfolding lines_to
  to_none h = simp (eq-eqb (length bytes) 0 h)

  to_torn : 0 < length bytes → length bytes < row_length width → lines_to (suc most) bytes ≡ None ∷ []
  unfolding lines_to
  to_torn h l = simp (ne_eqb (length bytes) 0 (λ e. omega (arith, h)), lt-ltb (length bytes) (row_length width) l)

  to_whole : row_length width ≤ length bytes → lines_to (suc most) bytes ≡ first_line bytes ∷ lines_to most (drop (row_length width) bytes)
  unfolding lines_to
  to_whole h = simp (ne_eqb (length bytes) 0 (λ e. omega (arith, h)), le-ltb (length bytes) (row_length width) h)

-- a list of bytes by its length: none, fewer than a row, a row or more
by_length : {C : Type 0} (bytes : List ℕ) → (length bytes ≡ 0 → C) → (0 < length bytes → length bytes < row_length width → C) → (row_length width ≤ length bytes → C) → C
by_length {C} bytes f g h = go (eqb (length bytes) 0) (ltb (length bytes) (row_length width)) refl refl
  where
    go : (a b : Bool) → eqb (length bytes) 0 ≡ a → ltb (length bytes) (row_length width) ≡ b → C
    go true b p q = f (eqb-true (length bytes) 0 p)
    go false true p q = let n = eqb-false (length bytes) 0 p in g (omega (arith, n)) (ltb-true (length bytes) (row_length width) q)
    go false false p q = h (ltb-false (length bytes) (row_length width) q)

drop_row : (bytes : List ℕ) (most : ℕ) → row_length width ≤ length bytes → length bytes ≤ suc most → length (drop (row_length width) bytes) ≤ most
drop_row bytes most h l = let e = length-drop (row_length width) bytes in omega (arith, e)

to_empty : (most : ℕ) (bytes : List ℕ) → length bytes ≡ 0 → lines_to most bytes ≡ []
unfolding lines_to
to_empty zero bytes h = refl
to_empty (suc most) bytes h = to_none most bytes h

-- how many rows are allowed doesn't count where it is enough
to_enough : (m n : ℕ) (bytes : List ℕ) → length bytes ≤ m → length bytes ≤ n → lines_to m bytes ≡ lines_to n bytes
to_enough zero n bytes h k = let z : length bytes ≡ 0 = omega arith in to_empty zero bytes z ∙ sym (to_empty n bytes z)
to_enough (suc m) zero bytes h k = let z : length bytes ≡ 0 = omega arith in to_empty (suc m) bytes z ∙ sym (to_empty zero bytes z)
to_enough (suc m) (suc n) bytes h k =
    by_length bytes
    (λ z. to_none m bytes z ∙ sym (to_none n bytes z))
    (λ z l. to_torn m bytes z l ∙ sym (to_torn n bytes z l))
    (λ l. to_whole m bytes l ∙ ap (λ ls. first_line bytes ∷ ls) (to_enough m n (drop (row_length width) bytes) (drop_row bytes m l h) (drop_row bytes n l k)) ∙ sym (to_whole n bytes l))

lines_to_lem : (bytes : List ℕ) → lines bytes ≡ lines_to (suc (length bytes)) bytes
unfolding lines
lines_to_lem bytes = to_enough (length bytes) (suc (length bytes)) bytes (omega arith) (omega arith)

pub lines_none : (bytes : List ℕ) → length bytes ≡ 0 → lines bytes ≡ []
lines_none bytes h = lines_to_lem bytes ∙ to_none (length bytes) bytes h

pub lines_torn : (bytes : List ℕ) → 0 < length bytes → length bytes < row_length width → lines bytes ≡ None ∷ []
lines_torn bytes h l = lines_to_lem bytes ∙ to_torn (length bytes) bytes h l

pub lines_whole : (bytes : List ℕ) → row_length width ≤ length bytes → lines bytes ≡ line_at greatest width (take (row_length width) bytes) ∷ lines (drop (row_length width) bytes)
unfolding lines
lines_whole bytes l =
    lines_to_lem bytes ∙ to_whole (length bytes) bytes l
    ∙ ap (λ ls. first_line bytes ∷ ls) (to_enough (length bytes) (length (drop (row_length width) bytes)) (drop (row_length width) bytes) (let e = length-drop (row_length width) bytes in omega (arith, e)) (omega arith))

small : greatest < 2 ^ 63
small = omega arith

row_taken : (bytes : List ℕ) → row_length width ≤ length bytes → length (take (row_length width) bytes) ≡ row_length width
row_taken bytes l = length-take (row_length width) bytes ∙ omega arith

-- a row that is read is in the row form
line_formed : (bytes : List ℕ) (l : Line) → length bytes ≡ row_length width → line_at greatest width bytes ≡ l → LineFormed l
line_formed bytes (Some r) h e = (row_form greatest width small bytes r h e).0
line_formed bytes None h e = tt

to_formed : (most : ℕ) (bytes : List ℕ) → All LineFormed (lines_to most bytes)
unfolding lines_to
to_formed zero bytes = all_nil
to_formed (suc most) bytes =
    by_length bytes
    (λ h. subst (All LineFormed) (sym (to_none most bytes h)) all_nil)
    (λ h l. subst (All LineFormed) (sym (to_torn most bytes h l)) (all_cons tt all_nil))
    (λ l. subst (All LineFormed) (sym (to_whole most bytes l))
    (all_cons (line_formed (take (row_length width) bytes) (first_line bytes) (row_taken bytes l) refl) (to_formed most (drop (row_length width) bytes))))

pub lines_formed : (bytes : List ℕ) → All LineFormed (lines bytes)
unfolding lines
lines_formed bytes = to_formed (length bytes) bytes

-- ---- whole rows
pub nothing_more : {l : Line} {ls : List Line} → ◌≡◌ {A = List Line} [] (l ∷ ls) → ⊥
nothing_more {ls = ls} e = let z : 0 ≡ suc (length ls) = ap length e in omega (arith, z)

pub head_is : {l m : Line} {ls ms : List Line} → l ∷ ls ≡ m ∷ ms → l ≡ m
head_is {l} e = ap (λ xs. get_or xs 0 l) e

pub tail_is : {l m : Line} {ls ms : List Line} → l ∷ ls ≡ m ∷ ms → ls ≡ ms
tail_is e = ap (drop 1) e

pub whole_never : {r : Row} → None ≡ Some r → ⊥
whole_never e = true≢false (ap (λ (l : Line). elim l [ Some r ↦ false | None ↦ true ]) e)

-- a run without rows is empty
pub lines_nothing : (bytes : List ℕ) → lines bytes ≡ [] → bytes ≡ []
lines_nothing bytes e =
    by_length bytes (λ h. drop_of_length-le bytes {i = 0} (omega arith))
    (λ h l. absurd (nothing_more (sym e ∙ lines_torn bytes h l))) (λ l. absurd (nothing_more (sym e ∙ lines_whole bytes l)))

-- the bytes are the written forms of rows, and then others
pub record Opens (rs : List Row) (rest : List Line) (bytes : List ℕ) : Type 0 where
  pub more : List ℕ
  pub bytes_are : bytes ≡ flat_map (row_bytes width) rs ++ more
  pub lines_are_of : lines more ≡ rest
  pub in_form : All (Writable greatest width) rs

-- whole rows that a run begins with are their written forms
pub lines_open : (rs : List Row) (rest : List Line) (bytes : List ℕ) → lines bytes ≡ map Some rs ++ rest → Opens rs rest bytes
unfolding flat_map
lines_open [] rest bytes e = record { more = bytes; bytes_are = refl; lines_are_of = e; in_form = all_nil }
lines_open (r ∷ rs) rest bytes e =
    by_length bytes (λ h. absurd (nothing_more (sym (lines_none bytes h) ∙ e)))
    (λ h l. absurd (whole_never (head_is (sym (lines_torn bytes h l) ∙ e))))
    (λ l. let q = sym (lines_whole bytes l) ∙ e in
    let f = row_form greatest width small (take (row_length width) bytes) r (row_taken bytes l) (head_is q) in
    let k = lines_open rs rest (drop (row_length width) bytes) (tail_is q) in
    record {
      more = k.more;
      bytes_are = sym (take-append-drop (row_length width) bytes) ∙ ap₂ ◌++◌ f.1 k.bytes_are ∙ sym (append_assoc (row_bytes width r) (flat_map (row_bytes width) rs) k.more);
      lines_are_of = k.lines_are_of;
      in_form = all_cons f.0 k.in_form;
    })

-- and the written forms of rows that a run begins with are these rows
pub open_lines : (rs : List Row) (more : List ℕ) → All (Writable greatest width) rs → lines (flat_map (row_bytes width) rs ++ more) ≡ map Some rs ++ lines more
unfolding flat_map
open_lines [] more w = refl
open_lines (r ∷ rs) more w =
    let rest : List ℕ = flat_map (row_bytes width) rs ++ more in
    let n = row_length_lem width r in
    let l : row_length width ≤ length (row_bytes width r ++ rest) = (let e = length-append (row_bytes width r) rest in omega (arith, e, n)) in
    ap lines (append_assoc (row_bytes width r) (flat_map (row_bytes width) rs) more)
    ∙ lines_whole (row_bytes width r ++ rest) l
    ∙ ap₂ ◌∷◌ (ap (line_at greatest width) (take_at (row_bytes width r) rest (row_length width) n) ∙ written_row_reads greatest width small r (all_head w))
    (ap lines (drop_at (row_bytes width r) rest (row_length width) n) ∙ open_lines rs more (all_tail w))

abbrev Written : List ℕ → List Row → Type 0
Written bytes rs = (bytes ≡ flat_map (row_bytes width) rs) × All (Writable greatest width) rs

-- a run of whole rows is their written forms
pub lines_written : (rs : List Row) (bytes : List ℕ) → lines bytes ≡ map Some rs → Written bytes rs
lines_written rs bytes e =
    let o = lines_open rs [] bytes (e ∙ sym (append-nil (map Some rs))) in
    (o.bytes_are ∙ ap (λ more. flat_map (row_bytes width) rs ++ more) (lines_nothing o.more o.lines_are_of) ∙ append-nil (flat_map (row_bytes width) rs), o.in_form)

pub written_lines : (rs : List Row) → All (Writable greatest width) rs → lines (flat_map (row_bytes width) rs) ≡ map Some rs
written_lines rs w =
    ap lines (sym (append-nil (flat_map (row_bytes width) rs))) ∙ open_lines rs [] w ∙ ap (λ ls. map Some rs ++ ls) (lines_none [] refl) ∙ append-nil (map Some rs)
