-- What is noted of the node says it.
use mathlib.Core.Path.{ap, ◌∙◌}
use Rattle.lists.specs.Below.{one_if}
use Rattle.table.specs.Rows.{rows_of}
use Rattle.select.specs.Each.{divisions}
use Rattle.select.proofs.divisions.Goals as goal

pub returns : goal.returns
returns c =
    record {
      value =
          c.one_if.ensures.value ∙ ap (λ n. one_if n.divides) c.note_at-note.ensures
          ∙ ap (λ ws. divisions (rows_of ws.now) c.args.n) c.rows.ensures.0;
      upper_bound = c.one_if.ensures.upper_bound;
    }
