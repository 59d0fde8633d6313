-- A place in the output fits (Length), so the place behind the part does.
use Rattle.std.proofs.Common.{arith}
use Rattle.obligations.proofs.Length.{output_short}
use Rattle.obligations.proofs.output.Printer.print.Goals as goal

pub overflow_add-result : goal.overflow_add-result
overflow_add-result c = omega (arith, c.requires.within, output_short c.args.bytes.now)
