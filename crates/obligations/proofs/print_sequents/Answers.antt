-- A turn writes the slot's rows and goes on to the next; at the end the rows of all are written, and they are the output (Stands).
use Rattle.std.proofs.Common.{◌≡◌, length, refl, ap, ◌∙◌, arith}
use Rattle.std.proofs.lemmas.Result.{IfOk-weaker}
use Rattle.reply.specs.Replies.{output}
use Rattle.obligations.specs.Held.{written_to}
use Rattle.obligations.proofs.Held.{none_waits}
use Rattle.obligations.proofs.Stands.{rows_end_of, rows_all}
use Rattle.obligations.proofs.Walk.{first_walked, turn}
use Rattle.obligations.proofs.print_sequents.Goals as goal

pub loop-done-init : goal.loop-done-init
loop-done-init c =
    let start = c.start-batch.ensures in
    record {
      room = refl;
      waits = none_waits c.args.bytes.now c.start-batch.result c.args.out.now start.1 (omega (arith, start.0));
      few = omega (arith, start.1);
      walked =
          first_walked c.args.bytes.now c.args.index.now.table.words.now c.args.count c.requires.0 c.requires.1 c.start.ensures c.seek-slot.ensures (omega (arith, start));
    }

pub print_slot-requires-clause-table_value : goal.print_slot-requires-clause-table_value
print_slot-requires-clause-table_value c =
    (turn c.args.bytes.now c.args.index.now.table.words.now c.args.count c.requires.0 c.requires.1 c.loop-done-test.true c.loop-done.invariant.walked).row

pub print_slot-requires-clause-stands_at : goal.print_slot-requires-clause-stands_at
print_slot-requires-clause-stands_at c =
    let at = turn c.args.bytes.now c.args.index.now.table.words.now c.args.count c.requires.0 c.requires.1 c.loop-done-test.true c.loop-done.invariant.walked in
    (at.stands, at.listed)

pub after-requires : goal.after-requires
after-requires c =
    let at = turn c.args.bytes.now c.args.index.now.table.words.now c.args.count c.requires.0 c.requires.1 c.loop-done-test.true c.loop-done.invariant.walked in
    omega (arith, at.left)

pub loop-done-preserved : goal.loop-done-preserved
loop-done-preserved c =
    let at = turn c.args.bytes.now c.args.index.now.table.words.now c.args.count c.requires.0 c.requires.1 c.loop-done-test.true c.loop-done.invariant.walked in
    let wrote = c.in_ok-batch.ensures in
    record {
      room = c.print_slot.auto.out ∙ c.loop-done.invariant.room;
      waits = wrote.0;
      few = wrote.1;
      walked = at.next c.after.ensures c.seek-slot-in-loop-done.ensures wrote.2;
    }

pub returns : goal.returns
returns c =
    let walked = c.loop-done.invariant.walked in
    let all : c.loop-done.done ≡ c.args.count = omega (arith, walked.within, c.loop-done-test.false) in
    let end : written_to c.loop-done.batch ≡ length (output c.args.bytes.now) =
    walked.place ∙ ap (rows_end_of c.args.bytes.now) all ∙ rows_all c.args.bytes.now c.args.count c.requires.1 in
    IfOk-weaker c.flush.result _ (λ printer. printer.at ≡ length (output c.args.bytes.now)) (λ printer h. h ∙ end) c.flush.ensures
