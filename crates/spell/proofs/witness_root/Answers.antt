-- Column c of the first row that witnesses.
use Rattle.spell.proofs.Witnesses.{witness_found}
use Rattle.spell.proofs.witness_root.Goals as goal

pub returns : goal.returns
returns c =
    let a = c.args in
    witness_found a.words.now a.e a.x c.find_row.result c.c_at.result c.find_row.ensures c.c_at.ensures
