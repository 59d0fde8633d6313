-- The state's values, in their places.
use mathlib.Core.Path.{sym, ap, ◌∙◌}
use mathlib.Core.List.{[], ◌∷◌, ◌++◌, append-nil}
use Prim.Native.Nat.{suc}
use lib.IntN.{pos}
use lib.ListN.{length, replicate}
use Rattle.table.specs.Rows.{rows_of}
use Rattle.recording.specs.Lines.{lines}
use Rattle.values.specs.Values.{values_of}
use Rattle.bench.specs.Choice.{choice}
use Rattle.bench.specs.Press.{press_choice}
use Rattle.bench.proofs.State.{laid_size}
use Rattle.after.proofs.Updated.{placed_is}
use Rattle.press.proofs.Press.{as_answers}
use Rattle.press.proofs.press_values.Goals as goal

pub slice_bounds-press_step-end : goal.slice_bounds-press_step-end
slice_bounds-press_step-end c =
    sym (ap (λ zs. suc (length zs)) (append-nil c.copy_list.new.to ∙ c.copy_list.ensures) ∙ ap suc (laid_size _ _))

pub returns : goal.returns
returns c =
    let a = c.args in
    let t = rows_of a.scanned.now.table.words.now in
    let present = placed_is a.values.now (pos 0 ∷ (c.copy_list.new.to ++ [])) (ap (λ zs. pos 0 ∷ zs) (append-nil c.copy_list.new.to ∙ c.copy_list.ensures)) in
    let both = as_answers a.values.now (ap (λ ps. press_choice t a.values.now (choice t (lines a.step.now) (values_of ps (replicate 65 (pos 0))))) (sym present)) (c.press_step.ensures.value, c.press_step.ensures.values_after) in
    record { value = both.0; values_after = both.1 }
