-- What was read stands behind what was read before.
use Rattle.std.proofs.Common.{◌≡◌, ℕ, ◌+◌, ◌-◌, ◌≤◌, List, ◌++◌, arith, length, take, sym, ap, ◌∙◌, subst, le_refl, drop_at, length-take-le}
use Rattle.std.proofs.lemmas.Slice.{take-put_mid_below}
use Rattle.std.specs.Io.KnownBytes.{Consumes}
use Rattle.std.proofs.KnownBytes.{Consumes-trans}
use borrow.Rule.Slice.PartMut.{put_mid, post_of, same_len_mid}
use lib.Seq.{take-add, take-append-le}
use Rattle.input.proofs.read_full.Goals as goal

-- the first bytes of a buffer into which others were written from a place on
front : (at k n : ℕ) (xs ys : List ℕ) → at ≤ length xs → n ≤ length ys → take at xs ++ take n ys ≡ take (at + n) (put_mid at k xs ys)
front at k n xs ys within fits =
    let whole : List ℕ = put_mid at k xs ys in
    let behind = ap (take n) (drop_at (take at xs) (ys ++ post_of at k xs) at (length-take-le at xs within)) ∙ take-append-le n ys (post_of at k xs) fits in
    let before = take-put_mid_below _ _ _ _ _ (le_refl _) within in
    ap (λ l. l ++ take n ys) (sym before) ∙ ap (λ l. take at whole ++ l) (sym behind) ∙ sym (take-add at n whole)

pub loop-done-preserved : goal.loop-done-preserved
loop-done-preserved g c =
    let at = c.loop-done.done in
    let kept = c.loop-done.invariant in
    let fits = c.in_ok-n.ensures.bound.0 in
    let same = same_len_mid at (length c.loop-done.buf - at) c.loop-done.buf c.read.new.buf c.read.auto.buf in
    record {
      within = omega arith;
      length = same ∙ kept.length;
      read = subst (Consumes _ _) (front at _ c.in_ok-n.n c.loop-done.buf c.read.new.buf kept.within fits) (Consumes-trans _ _ _ _ _ kept.read c.in_ok-n.ensures.bytes.0);
    }
