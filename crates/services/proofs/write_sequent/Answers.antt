-- What is served is what the definition says.
use Rattle.reply.specs.Replies.{write_sequent}
use borrow.Author.Rules.{rules}
use Rattle.services.proofs.write_sequent.Goals as goal

pub serve-requires : goal.serve-requires
unfolding write_sequent
serve-requires c = search rules

pub shape_of-out : goal.shape_of-out
unfolding write_sequent
shape_of-out c = search rules

pub returns : goal.returns
unfolding write_sequent
returns c = c.serve.ensures
