-- The rows of a slot's sequent are those of its hypotheses, 38 bytes each, and that of its goal. A writer that walks from hypothesis to hypothesis has written the rows
-- of those before its place.
use Prim.Native.Nat.{ℕ, zero, suc, ◌+◌, ◌-◌, ◌*◌, ◌≤◌, ◌<◌}
use mathlib.Core.Path.{◌≡◌, refl, sym, ap, ◌∙◌}
use mathlib.Core.List.{List, [], ◌∷◌, ◌++◌, map, flat_map, append-nil}
use native.Mathlib.Omega.{arith}
use native.Mathlib.Numerals.{add-one}
use lib.ListN.{length, get_or, take, drop, length-take, length-map}
use lib.Seq.{take-suc, take_all}
use borrow.Rule.Slice.PartMut.{put_mid}
use Rattle.lists.specs.Over.{over}
use Rattle.lists.proofs.Over.{over_none, over_length, over_tail}
use Rattle.row.specs.declared.Row.{Row}
use Rattle.row.specs.Row.{row_bytes, width}
use Rattle.table.specs.Rows.{Rows}
use Rattle.reply.proofs.Printed.{rows_length, rows_join}
use Rattle.reply.specs.Printed.{entry_row, rows_bytes}
use Rattle.walk.specs.declared.Slot.{Slot}
use Rattle.segments.specs.Segments.{segments, segment_entry, hypothesis_walk}
use Rattle.entries.specs.declared.Cursor.{Cursor}
use Rattle.entries.specs.Sequent.{goal_at, hypothesis_count}
use Rattle.entries.specs.Seek.{cursor_at, Stands, hypotheses_before, OnEntry, SoughtEntry}
use Rattle.entries.specs.Written.{hypothesis_rows, entry_rows}
use Rattle.entries.proofs.Seek.{walk_length, reached, held, none_before, one_more, all_before}

one_row : (r : Row) → rows_bytes (r ∷ []) ≡ row_bytes width r
unfolding rows_bytes flat_map
one_row r = append-nil (row_bytes width r)

map_at : {A B : Type 0} (f : A → B) (xs : List A) (n : ℕ) (d : A) → get_or (map f xs) n (f d) ≡ f (get_or xs n d)
map_at f [] n d = refl
map_at f (x ∷ xs) zero d = refl
map_at f (x ∷ xs) (suc n) d = map_at f xs n d

-- the bytes of the first n hypotheses
unfoldable pub bytes_to : Rows → Slot → ℕ → List ℕ
bytes_to t s n = rows_bytes (take n (hypothesis_rows t s))

-- the hypotheses before a place are written, and one stands at the place where it is not the end
pub record Progress (t : Rows) (s : Slot) (start out : List ℕ) (c : Cursor) (at : ℕ) : Type 0 where
  pub stands : Stands t s c
  pub found : c.segment < segments → OnEntry t s c
  pub offset : at ≡ 38 * hypotheses_before t s c
  pub size : length out ≡ length start
  pub bytes : out ≡ over (bytes_to t s (hypotheses_before t s c)) start

module _ (t : Rows) (s : Slot) where
  pub rows_count : length (hypothesis_rows t s) ≡ hypothesis_count t s
  unfolding hypothesis_rows
  rows_count = length-map (hypothesis_walk t s) (entry_row 81) ∙ walk_length t s

  bytes_length : (n : ℕ) → n ≤ hypothesis_count t s → length (bytes_to t s n) ≡ 38 * n
  unfolding bytes_to
  bytes_length n l = rows_length (take n (hypothesis_rows t s)) ∙ ap (λ k. 38 * k) (length-take n (hypothesis_rows t s) ∙ omega (arith, rows_count))

  -- one row more, and all
  bytes_next : (c : Cursor) → c.segment < segments → OnEntry t s c
      → bytes_to t s (hypotheses_before t s c + 1) ≡ bytes_to t s (hypotheses_before t s c) ++ row_bytes width (entry_row 81 (segment_entry t s c.segment c.row))
  unfolding bytes_to hypothesis_rows
  bytes_next c h o =
      let n = hypotheses_before t s c in
      let R = hypothesis_rows t s in
      let e = segment_entry t s c.segment c.row in
      let at : get_or R n (entry_row 81 e) ≡ entry_row 81 e = map_at (entry_row 81) (hypothesis_walk t s) n e ∙ ap (entry_row 81) (held t s c.segment c.row h o.row o.passes e) in
      ap (λ k. rows_bytes (take k R)) (add-one n)
      ∙ ap rows_bytes (take-suc R n (entry_row 81 e) (omega (arith, rows_count, reached t s c.segment c.row h o.row o.passes)))
      ∙ rows_join (take n R) (get_or R n (entry_row 81 e) ∷ [])
      ∙ ap (λ bs. rows_bytes (take n R) ++ bs) (one_row (get_or R n (entry_row 81 e)) ∙ ap (row_bytes width) at)

  bytes_all : (n : ℕ) → n ≡ hypothesis_count t s → bytes_to t s n ≡ rows_bytes (hypothesis_rows t s)
  unfolding bytes_to
  bytes_all n p = ap rows_bytes (take_all n (hypothesis_rows t s) (omega (arith, rows_count)))

  bytes_none : bytes_to t s 0 ≡ []
  unfolding bytes_to rows_bytes flat_map
  bytes_none = refl

  -- the writer's loop starts at the first hypothesis
  pub progress_start : (start : List ℕ) {from c : Cursor} → from ≡ cursor_at 0 0 0 → SoughtEntry t s from c → Progress t s start start c 0
  progress_start start f so =
      let none = none_before f so in
      record {
        stands = so.stands;
        found = so.found;
        offset = omega (arith, none);
        size = refl;
        bytes = over_none start ∙ ap (λ ws. over ws start) (sym (ap (bytes_to t s) none ∙ bytes_none));
      }

module _ {t : Rows} {s : Slot} {start out : List ℕ} {c : Cursor} {at : ℕ} (pr : Progress t s start out c at) where
  -- and ends with all
  pub progress_end : segments ≤ c.segment → out ≡ over (rows_bytes (hypothesis_rows t s)) start
  progress_end l = pr.bytes ∙ ap (λ ws. over ws start) (bytes_all t s (hypotheses_before t s c) (all_before t s pr.stands l))

  pub progress_length : segments ≤ c.segment → at ≡ 38 * hypothesis_count t s
  progress_length l = omega (arith, pr.offset, all_before t s pr.stands l)

  module _ (l : c.segment < segments) (fits : 38 * hypothesis_count t s ≤ length start) where
    reach : hypotheses_before t s c < hypothesis_count t s
    reach = let o = pr.found l in reached t s c.segment c.row l o.row o.passes

    -- there is room for a hypothesis that is found
    pub room : at + 38 ≤ length out
    room = omega (arith, reach, pr.offset, pr.size)

    -- past the hypothesis, when its row is written
    module _ {from n : Cursor} (f : from ≡ cursor_at c.segment c.row 1) (so : SoughtEntry t s from n) where
      more : hypotheses_before t s n ≡ hypotheses_before t s c + 1
      more = one_more l (pr.found l) f so

      pub fewer : hypothesis_count t s - hypotheses_before t s n < hypothesis_count t s - hypotheses_before t s c
      fewer = omega (arith, more, reach)

      pub progress_next : {r : Row} {part : List ℕ} → r ≡ entry_row 81 (segment_entry t s c.segment c.row)
          → part ≡ over (row_bytes width r) (take (length out - at) (drop at out)) → Progress t s start (put_mid at (length out - at) out part) n (at + 38)
      progress_next {r} {part} q o = record {
        stands = so.stands;
        found = so.found;
        offset = omega (arith, more, pr.offset);
        size = ap length put ∙ over_length (bytes_to t s (hypotheses_before t s n)) start (omega (arith, size, reach, more));
        bytes = put;
      }
        where
          size : length (bytes_to t s (hypotheses_before t s n)) ≡ 38 * hypotheses_before t s n
          size = bytes_length t s (hypotheses_before t s n) (omega (arith, more, reach))

          joined : bytes_to t s (hypotheses_before t s c) ++ row_bytes width r ≡ bytes_to t s (hypotheses_before t s n)
          joined =
              ap (λ r. bytes_to t s (hypotheses_before t s c) ++ row_bytes width r) q
              ∙ sym (bytes_next t s c l (pr.found l))
              ∙ ap (bytes_to t s) (sym more)

          put : put_mid at (length out - at) out part ≡ over (bytes_to t s (hypotheses_before t s n)) start
          put =
              over_tail (bytes_to t s (hypotheses_before t s c)) (row_bytes width r) start out part at
              (bytes_length t s (hypotheses_before t s c) (omega (arith, reach)) ∙ sym pr.offset) pr.bytes o
              ∙ ap (λ ws. over ws start) joined

-- the goal's row is written behind them
module _ (t : Rows) (s : Slot) (start : List ℕ) {out : List ℕ} {at : ℕ} (written : out ≡ over (rows_bytes (hypothesis_rows t s)) start) (offset : at ≡ 38 * hypothesis_count t s)
    (fits : 38 * (hypothesis_count t s + 1) ≤ length start) where
  hypotheses_length : length (rows_bytes (hypothesis_rows t s)) ≡ 38 * hypothesis_count t s
  hypotheses_length = rows_length (hypothesis_rows t s) ∙ ap (λ k. 38 * k) (rows_count t s)

  pub same_length : length out ≡ length start
  same_length = ap length written ∙ over_length (rows_bytes (hypothesis_rows t s)) start (omega (arith, hypotheses_length))

  pub goal_written : {r : Row} {part : List ℕ} → r ≡ entry_row 82 (goal_at t s) → part ≡ over (row_bytes width r) (take (length out - at) (drop at out))
      → put_mid at (length out - at) out part ≡ over (rows_bytes (entry_rows t s)) start
  unfolding entry_rows
  goal_written {r} {part} q o =
      over_tail (rows_bytes (hypothesis_rows t s)) (row_bytes width r) start out part at (hypotheses_length ∙ sym offset) written o
      ∙ ap (λ bs. over bs start)
      (ap (λ bs. rows_bytes (hypothesis_rows t s) ++ bs) (ap (row_bytes width) q ∙ sym (one_row (entry_row 82 (goal_at t s))))
      ∙ sym (rows_join (hypothesis_rows t s) (entry_row 82 (goal_at t s) ∷ [])))
