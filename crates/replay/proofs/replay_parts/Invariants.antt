-- The loop's invariant: the buffers keep their lengths, the window holds what is held, and each part has at most a step and a row for each of its bytes.
use Rattle.std.proofs.Common.{◌≡◌, ◌*◌, ◌≤◌, length}
use Rattle.replay.proofs.replay_parts.Given as goal

abbrev pub invariant-loop-parts : goal.invariant-loop-parts
invariant-loop-parts g l = record {
  window : length l.window ≡ length l.initial.window;
  present : length l.present ≡ length l.initial.present;
  after : length l.after ≡ length l.initial.after;
  held : l.held ≤ length l.window;
  steps : l.n ≤ 65536 * l.parts;
  rows : l.before ≤ 65536 * l.parts;
}
