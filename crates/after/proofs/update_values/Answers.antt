-- The state's values, in their places, with the after values moved into them.
use mathlib.Core.Path.{ap, ◌∙◌}
use mathlib.Core.List.{[], ◌∷◌, ◌++◌, append-nil}
use lib.IntN.{pos}
use Rattle.table.specs.Rows.{rows_of}
use Rattle.after.proofs.Updated.{placed_is, updated_is}
use Rattle.after.proofs.update_values.Goals as goal

pub returns : goal.returns
returns c =
    let placed-values = ap (λ zs. pos 0 ∷ zs) (append-nil c.copy_list.new.to ∙ c.copy_list.ensures) in
    c.copy_list-2.ensures
    ∙ updated_is (rows_of c.args.table.now.words.now) c.args.after.now c.args.values.now c.requires.0 c.requires.1 c.requires.2 (pos 0 ∷ (c.copy_list.new.to ++ [])) c.move_values.new.present
    (placed_is _ _ placed-values) c.move_values.ensures
