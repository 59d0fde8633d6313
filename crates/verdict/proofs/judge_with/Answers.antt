-- By the first check that a row offends against, then by whether something is missing (Cases, of the rules).
use mathlib.Core.Path.{ap, ap₂, sym, subst, ◌∙◌}
use Prim.Native.Nat.{◌+◌, ◌≤◌}
use native.Mathlib.Omega.{arith}
use Rattle.std.specs.Prelude.{Ok, Err}
use Rattle.table.specs.Rows.{rows_of}
use Rattle.rules.specs.Refusal.{refused}
use Rattle.rules.specs.Verdict.{first_row, first_check, PassedBefore}
use Rattle.rules.proofs.Cases.{judge_row, judge_missing, judge_accepted, row_at_most, first_passed}
use Rattle.verdict.proofs.judge_with.Goals as goal

pub first_check-check-requires : goal.first_check-check-requires
first_check-check-requires c = c.requires

pub first_row-requires : goal.first_row-requires
first_row-requires c = record { table_value = c.requires; passed_before = subst (PassedBefore (rows_of c.args.index.now.table.words.now)) (sym c.first_check-check.ensures) (first_passed (rows_of c.args.index.now.table.words.now)) }

pub overflow_add-row : goal.overflow_add-row
overflow_add-row c =
    let a = c.args in
    let t = rows_of a.index.now.table.words.now in
    omega (arith, c.first_row.ensures, row_at_most t c.first_check-check.result)

pub returns-then-check-lt-MISSING : goal.returns-then-check-lt-MISSING
returns-then-check-lt-MISSING c =
    let a = c.args in
    let t = rows_of a.index.now.table.words.now in
    ap₂ (λ k r. Err (refused k (r + 1))) c.first_check-check.ensures (c.first_row.ensures ∙ ap (first_row t) c.first_check-check.ensures)
    ∙ sym (judge_row t (omega (arith, c.first_check-check.ensures, c.if-check-lt-MISSING.true)))

pub returns-then-missing : goal.returns-then-missing
returns-then-missing c =
    let a = c.args in
    let t = rows_of a.index.now.table.words.now in
    sym (judge_missing t (omega (arith, c.first_check-check.ensures, c.if-check-lt-MISSING.false)) (sym c.missing.ensures ∙ c.if-missing.true))

pub count-requires : goal.count-requires
count-requires c =
    let t = rows_of c.args.index.now.table.words.now in
    let all : 12 ≤ first_check t = omega (arith, c.first_check-check.ensures, c.if-check-lt-MISSING.false) in record { table_value = c.requires; passes = (λ k i low high l. first_passed t k i low (omega arith) l, sym c.missing.ensures ∙ c.if-missing.false) }

pub returns : goal.returns
returns c =
    let a = c.args in
    let t = rows_of a.index.now.table.words.now in
    ap Ok c.count.ensures ∙ sym (judge_accepted t (omega (arith, c.first_check-check.ensures, c.if-check-lt-MISSING.false)) (sym c.missing.ensures ∙ c.if-missing.false))
