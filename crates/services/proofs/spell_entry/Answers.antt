-- What is served is what the definition says.
use Rattle.reply.specs.Replies.{spell_entry}
use borrow.Author.Rules.{rules}
use Rattle.services.proofs.spell_entry.Goals as goal

pub serve-requires : goal.serve-requires
unfolding spell_entry
serve-requires c = search rules

pub shape_of-out : goal.shape_of-out
unfolding spell_entry
shape_of-out c = search rules

pub returns : goal.returns
unfolding spell_entry
returns c = c.serve.ensures
