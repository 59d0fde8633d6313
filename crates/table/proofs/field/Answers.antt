-- A number beyond the words names no row; otherwise its row's word is looked up, and past the last one the list's default.
use mathlib.Core.Path.{sym, ◌≡◌, ap, ◌∙◌}
use Prim.Native.Nat.{◌+◌, ◌-◌, ◌*◌}
use native.Mathlib.Omega.{arith}
use lib.ListN.{get_or-eq_default, get_or}
use Rattle.table.proofs.field.Goals as goal

pub returns-then-words-x : goal.returns-then-words-x
returns-then-words-x c =
    let a = c.args in
    sym (get_or-eq_default a.words.now 0 {n = 4 * (a.start + a.x - 1) + a.column} (omega arith))

pub returns-then-past-eq0 : goal.returns-then-past-eq0
returns-then-past-eq0 c =
    let a = c.args in
    let z : a.start + a.x - 1 ≡ 0 = omega arith in
    c.cell.ensures ∙ ap (λ n. get_or a.words.now (4 * n + a.column) 0) (sym z)

pub returns-then-words-at : goal.returns-then-words-at
returns-then-words-at c =
    let a = c.args in
    sym (get_or-eq_default a.words.now 0 {n = 4 * (a.start + a.x - 1) + a.column} (omega arith))
