-- By checks 1 and 2; then by what the filled part of the words holds (verdict's Filled).
use Rattle.std.proofs.Common.{sym, ◌∙◌}
use Rattle.verdict.proofs.Filled.{filled}
use Rattle.replay.proofs.replay_table.Goals as goal

pub slice_bounds-words-end : goal.slice_bounds-words-end
slice_bounds-words-end g c =
    (filled c.args.bytes.now _ c.load.new.words c.in-Ok.n c.load.auto.words c.load.ensures.words_after (sym c.load.ensures.value ∙ c.in-Ok.is)).within

pub slice_bounds-replay_rows-end : goal.slice_bounds-replay_rows-end
slice_bounds-replay_rows-end g c =
    (filled c.args.bytes.now _ c.load.new.words c.in-Ok.n c.load.auto.words c.load.ensures.words_after (sym c.load.ensures.value ∙ c.in-Ok.is)).size
