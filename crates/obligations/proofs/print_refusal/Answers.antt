-- The row fills its buffer, and is all of the output (Stands).
use Rattle.std.proofs.Common.{◌≡◌, ◌+◌, refl, sym, ap, ◌∙◌, subst, arith, length}
use Rattle.std.proofs.lemmas.Result.{IfOk-weaker}
use Rattle.row.specs.Row.{row_bytes, width}
use Rattle.reply.specs.Row.{row}
use Rattle.reply.specs.Replies.{output}
use Rattle.reply.proofs.Output.{output_refused}
use Rattle.obligations.specs.Output.{StandsAt}
use Rattle.obligations.proofs.Stands.{refusal_stands, fills}
use Rattle.obligations.proofs.print_refusal.Goals as goal

pub print-requires : goal.print-requires
print-requires c =
    let b = c.args.bytes.now in
    let out : c.write.new.out ≡ row_bytes width (row 89 c.args.refusal.number c.args.refusal.row 0) = fills (row 89 c.args.refusal.number c.args.refusal.row 0) _ _ refl c.write.ensures in
    subst (λ at. StandsAt b at c.write.new.out) (sym c.start.ensures) (subst (StandsAt b 0) (sym out) (refusal_stands b c.args.refusal.number c.args.refusal.row c.requires))

pub returns : goal.returns
returns c =
    let out = fills (row 89 c.args.refusal.number c.args.refusal.row 0) _ _ refl c.write.ensures in
    let size : c.start.result.at + length c.write.new.out ≡ length (output c.args.bytes.now) =
    omega (arith, c.start.ensures, ap length out, ap length (output_refused c.args.bytes.now c.args.refusal.number c.args.refusal.row c.requires)) in
    IfOk-weaker c.print.result _ (λ printer. printer.at ≡ length (output c.args.bytes.now)) (λ printer h. h ∙ size) c.print.ensures
