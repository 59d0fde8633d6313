-- A copy of the values is pressed on.
use mathlib.Core.Path.{sym, ap, ◌∙◌}
use native.Mathlib.Omega.{arith}
use lib.IntN.{pos}
use lib.ListN.{length, replicate, take}
use lib.Seq.{length-take-le}
use Rattle.bench.proofs.State.{laid_size}
use Rattle.press.specs.Numbers.{room_for}
use Rattle.press.proofs.Preview.{copy_few, copy_outcome, as_writes}
use Rattle.press.proofs.preview_numbers.Goals as goal

pub slice_bounds-copy-end : goal.slice_bounds-copy-end
slice_bounds-copy-end c =
    let copied = c.copy_list in
    let size = ap length copied.ensures ∙ laid_size _ (replicate 65 (pos 0)) in
    let few = copy_few c.args.values.now c.min-n.ensures in
    omega (arith, size, few)

pub slice_bounds-preview_copy-end : goal.slice_bounds-preview_copy-end
slice_bounds-preview_copy-end c =
    let copied = c.copy_list in
    let size = ap length copied.ensures ∙ laid_size _ (replicate 65 (pos 0)) in
    let few = copy_few c.args.values.now c.min-n.ensures in
    sym (length-take-le c.min-n.result copied.new.to (omega (arith, size, few)))

pub returns : goal.returns
returns c =
    let a = c.args in
    let n = c.min-n in
    let copy = copy_outcome a.values.now n.ensures a.table.now a.step.now a.sorts.now (room_for a.second.now a.types.now) (ap (take n.result) c.copy_list.ensures) in
    let both = as_writes a.sorts.now a.second.now a.types.now (sym copy) (c.preview_copy.ensures.value, (c.preview_copy.ensures.second_after, c.preview_copy.ensures.types_after)) in
    record { value = both.0; second_after = both.1.0; types_after = both.1.1 }
