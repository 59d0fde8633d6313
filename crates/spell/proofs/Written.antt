-- Rows that are written one after another, each into what is left of the buffer, are counted and written together.
use Prim.Native.Nat.{ℕ, ◌+◌, ◌-◌, ◌*◌, ◌≤◌, ◌<◌, ◌^◌}
use mathlib.Core.Path.{◌≡◌, refl, sym, ap, ap₂, ◌∙◌, subst}
use mathlib.Core.Bool.{Bool, true, false}
use mathlib.Core.List.{List, [], ◌∷◌, ◌++◌, flat_map, append-nil}
use native.Mathlib.Omega.{arith}
use lib.Dec.{ltb}
use lib.ListN.{length, take, drop, length-append, length-take, length-drop}
use lib.Seq.{take_all, take-nil, take-append-le, take-append-add}
use borrow.Author.Tests.{ltb-true, ltb-false}
use borrow.Rule.Slice.PartMut.{put_mid, put_same}
use Rattle.lists.specs.Over.{over}
use Rattle.lists.proofs.Over.{over_none, over_tail}
use Rattle.row.specs.declared.Row.{Row}
use Rattle.row.specs.Row.{row_bytes, width}
use Rattle.reply.specs.Printed.{rows_bytes}
use Rattle.reply.proofs.Printed.{rows_length, rows_join}
use Rattle.spell.specs.Spell.{capped, rest_start, room, Spelled}
use Rattle.spell.proofs.Capped.{capped_below, capped_add, start_after, start_full}

-- all rows, where there is room for them
pub all_rows : {rs : List Row} {r : ℕ} {entry exit : List ℕ} → Spelled rs r entry exit → length rs ≤ room entry → exit ≡ over (rows_bytes rs) entry
all_rows {rs} {entry} h fits = h.written ∙ ap (λ rs. over (rows_bytes rs) entry) (take_all (room entry) rs fits)

-- one row: written where it has room
pub row_written : (row : Row) (entry exit : List ℕ) → 38 ≤ length entry → exit ≡ over (row_bytes width row) entry → Spelled (row ∷ []) 1 entry exit
unfolding rows_bytes flat_map
row_written row entry exit l e = record {
  counted = sym (capped_below 1 (omega arith));
  written =
      e ∙ ap (λ ws. over ws entry) (sym (append-nil (row_bytes width row)))
      ∙ ap (λ rs. over (rows_bytes rs) entry) (sym (take_all (room entry) (row ∷ []) (omega arith)));
}

pub row_without_room : (row : Row) (entry : List ℕ) → length entry < 38 → Spelled (row ∷ []) 1 entry entry
unfolding rows_bytes flat_map
row_without_room row entry l = record {
  counted = sym (capped_below 1 (omega arith));
  written = over_none entry ∙ (let none : room entry ≡ 0 = omega arith in ap (λ n. over (rows_bytes (take n (row ∷ []))) entry) (sym none));
}

-- rs came first; ss were spelled into what they left of the buffer, which holds part now
module _ {rs ss : List Row} {r s at : ℕ} {entry mid part : List ℕ} (small : length entry < 2 ^ 64) (same : length mid ≡ length entry) (h : Spelled rs r entry mid)
    (place : at ≡ rest_start (length mid) r) (g : Spelled ss s (take (length mid - at) (drop at mid)) part) where
  abbrev lent : List ℕ
  lent = take (length mid - at) (drop at mid)

  lent_length : length lent ≡ length mid - at
  lent_length = simp (length-take, length-drop) (omega arith)

  -- rs leave room: ss go on behind them
  join_room : length rs ≤ room entry → put_mid at (length mid - at) mid part ≡ over (rows_bytes (take (room entry) (rs ++ ss))) entry
  join_room fits =
      let here : at ≡ 38 * length rs = place ∙ ap (λ k. rest_start (length mid) k) h.counted ∙ start_after (length mid) (length rs) (omega arith) (omega arith) in
      let left : room lent ≡ room entry - length rs = omega (arith, lent_length) in
      let split : room entry ≡ length rs + room lent = omega arith in
      over_tail (rows_bytes rs) (rows_bytes (take (room lent) ss)) entry mid part at (rows_length rs ∙ sym here) (all_rows h fits) g.written
      ∙ ap (λ ws. over ws entry) (sym (rows_join rs (take (room lent) ss)))
      ∙ ap (λ rs. over (rows_bytes rs) entry) (sym (take-append-add rs ss (room lent)))
      ∙ ap (λ n. over (rows_bytes (take n (rs ++ ss))) entry) (sym split)

  -- rs fill it: nothing more is written
  join_full : room entry < length rs → put_mid at (length mid - at) mid part ≡ over (rows_bytes (take (room entry) (rs ++ ss))) entry
  unfolding rows_bytes flat_map
  join_full full =
      let here : at ≡ length mid = place ∙ ap (λ k. rest_start (length mid) k) h.counted ∙ start_full (length mid) (length rs) (omega arith) (omega arith) in
      let none : room lent ≡ 0 = omega (arith, lent_length) in
      let unchanged : part ≡ lent = g.written ∙ ap (λ n. over (rows_bytes (take n ss)) lent) none ∙ sym (over_none lent) in
      ap (λ ys. put_mid at (length mid - at) mid ys) unchanged ∙ put_same at (length mid - at) mid ∙ h.written
      ∙ ap (λ rs. over (rows_bytes rs) entry) (sym (take-append-le (room entry) rs ss (omega arith)))

  pub spelled_join : {sum : ℕ} → sum ≡ capped (r + s) → Spelled (rs ++ ss) sum entry (put_mid at (length mid - at) mid part)
  spelled_join {sum} e = record {
    counted = e ∙ ap₂ (λ m n. capped (m + n)) h.counted g.counted ∙ capped_add (length rs) (length ss) ∙ ap capped (sym (length-append rs ss));
    written = by_room (ltb (room entry) (length rs)) refl;
  }
    where
      by_room : (b : Bool) → ltb (room entry) (length rs) ≡ b → put_mid at (length mid - at) mid part ≡ over (rows_bytes (take (room entry) (rs ++ ss))) entry
      by_room true p = join_full (ltb-true (room entry) (length rs) p)
      by_room false p = join_room (ltb-false (room entry) (length rs) p)

-- the same rows by another name
pub spelled_as : {rs ss : List Row} {r : ℕ} {entry exit : List ℕ} → rs ≡ ss → Spelled rs r entry exit → Spelled ss r entry exit
spelled_as {r} {entry} {exit} e h = subst (λ rs. Spelled rs r entry exit) e h

-- no rows
pub spelled_none : (entry : List ℕ) → Spelled [] 0 entry entry
unfolding rows_bytes flat_map
spelled_none entry = record {
  counted = sym (capped_below 0 (omega arith));
  written = over_none entry ∙ ap (λ rs. over (rows_bytes rs) entry) (sym (take-nil (room entry)));
}
