-- Each check by its own rule; another number has none.
use Prim.Native.Nat.{◌<◌}
use mathlib.Core.Path.{sym}
use native.Mathlib.Omega.{arith}
use borrow.Author.Rules.{rules}
use Rattle.table.specs.Rows.{rows_of}
use Rattle.rules.specs.Rules.{offends}
use Rattle.fault.proofs.Offends.{by_check, offends_none, passed_rising, passed_known}
use Rattle.fault.proofs.row_offends.Goals as goal

pub tag_offends-requires : goal.tag_offends-requires
unfolding offends
tag_offends-requires c = search rules

pub full_offends-requires : goal.full_offends-requires
unfolding offends
full_offends-requires c = let t = rows_of c.args.scanned.now.table.words.now in
    let later : 3 < c.args.check = omega arith in
    (passed_rising t c.args.check c.requires.passed_before.0 later, c.requires.table_value, passed_known t c.args.check c.requires.passed_before.0 later c.args.i c.requires.table_value)

pub event_offends-requires : goal.event_offends-requires
unfolding offends
event_offends-requires c = search rules

pub twice_offends-requires : goal.twice_offends-requires
unfolding offends
twice_offends-requires c = search rules

pub returns-in-3 : goal.returns-in-3
unfolding offends
returns-in-3 c =
    let a = c.args in
    by_check (rows_of a.scanned.now.table.words.now) a.check a.i 3 (omega arith) c.tag_offends.ensures

pub returns-in-4 : goal.returns-in-4
unfolding offends
returns-in-4 c =
    let a = c.args in
    by_check (rows_of a.scanned.now.table.words.now) a.check a.i 4 (omega arith) c.full_offends.ensures

pub returns-in-5 : goal.returns-in-5
unfolding offends
returns-in-5 c =
    let a = c.args in
    by_check (rows_of a.scanned.now.table.words.now) a.check a.i 5 (omega arith) c.event_offends.ensures

pub returns-in-6 : goal.returns-in-6
unfolding offends
returns-in-6 c =
    let a = c.args in
    by_check (rows_of a.scanned.now.table.words.now) a.check a.i 6 (omega arith) c.identifier_offends.ensures

pub returns-in-7 : goal.returns-in-7
unfolding offends
returns-in-7 c =
    let a = c.args in
    by_check (rows_of a.scanned.now.table.words.now) a.check a.i 7 (omega arith) c.reference_offends.ensures

pub returns-in-10 : goal.returns-in-10
unfolding offends
returns-in-10 c =
    let a = c.args in
    by_check (rows_of a.scanned.now.table.words.now) a.check a.i 10 (omega arith) c.sight_offends.ensures

pub returns-in-11 : goal.returns-in-11
unfolding offends
returns-in-11 c =
    let a = c.args in
    by_check (rows_of a.scanned.now.table.words.now) a.check a.i 11 (omega arith) c.twice_offends.ensures

pub returns-in_default : goal.returns-in_default
unfolding offends
returns-in_default c =
    let a = c.args in
    let rest = c.in_default.in_default-own.rest in
    sym (offends_none (rows_of a.scanned.now.table.words.now) a.check a.i (record { not3 = λ e. rest.0.0.0.0.0.0.1 e; not4 = λ e. rest.0.0.0.0.0.1 e; not5 = λ e. rest.0.0.0.0.1 e; not6 = λ e. rest.0.0.0.1 e; not7 = λ e. rest.0.0.1 e; not8 = c.requires.passed_before.1; not9 = c.requires.passed_before.2; not10 = λ e. rest.0.1 e; not11 = λ e. rest.1 e }))
