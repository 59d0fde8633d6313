-- As many elements are copied as both lists have.
use Rattle.state.proofs.Laid.{laid_is}
use Rattle.state.proofs.copy_list.Goals as goal

pub returns : goal.returns
returns g c =
    laid_is c.args.from.now c.args.to.now c.copy_from_slice.new.self c.min-n.result c.min-n.ensures c.copy_from_slice.ensures.after
