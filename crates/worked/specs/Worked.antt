-- A worked table: constants and an axiom, a variable a that both machines share, a parameter with its witness, a "becomes such that" action, divisions that
-- need their guards' order, a remainder that needs an invariant and a guard, an abstract variable b that the ordinary events leave alone, a refining event, a convergent event and an anticipated event.
use Rattle.std.specs.Prelude.{ℕ, List, [], ◌∷◌}
use Rattle.row.specs.declared.Row.{Row}
use Rattle.reply.specs.Row.{row}
use Rattle.reply.specs.Printed.{rows_bytes}

abbrev pub rows : List Row
rows =
    -- identifiers 1 to 7: constant N; shared a; abstract b; concrete u; parameter q of event 2; parameter p of event 4; parameter r of event 6
    row 10 1 1 0 ∷ row 10 6 1 0 ∷ row 10 2 2 0 ∷ row 10 3 1 0 ∷ row 10 4 1 2 ∷ row 10 5 1 4 ∷ row 10 5 1 6
    -- nodes 1 to 3: 0 ≤ N
    ∷ row 20 1 0 0 ∷ row 20 2 1 0 ∷ row 20 22 1 2
    -- 4 to 6: 0 ≤ a
    ∷ row 20 1 0 0 ∷ row 20 2 2 0 ∷ row 20 22 4 5
    -- 7 to 9: b = FALSE
    ∷ row 20 2 3 0 ∷ row 20 5 0 0 ∷ row 20 20 7 8
    -- 10 to 12: u ≤ N
    ∷ row 20 2 4 0 ∷ row 20 2 1 0 ∷ row 20 22 10 11
    -- 13, 14: N; FALSE
    ∷ row 20 2 1 0 ∷ row 20 5 0 0
    -- 15 to 18: ¬(q = 0)
    ∷ row 20 2 5 0 ∷ row 20 1 0 0 ∷ row 20 20 15 16 ∷ row 20 32 17 0
    -- 19 to 23: 0 ≤ a ÷ q
    ∷ row 20 1 0 0 ∷ row 20 2 2 0 ∷ row 20 2 5 0 ∷ row 20 13 20 21 ∷ row 20 22 19 22
    -- 24 to 26: 0 ≤ a'
    ∷ row 20 1 0 0 ∷ row 20 3 2 0 ∷ row 20 22 24 25
    -- 27, 28: N; N
    ∷ row 20 2 1 0 ∷ row 20 2 1 0
    -- 29 to 31: b' = FALSE
    ∷ row 20 3 3 0 ∷ row 20 5 0 0 ∷ row 20 20 29 30
    -- 32 to 35: ¬(p ≤ 0)
    ∷ row 20 2 6 0 ∷ row 20 1 0 0 ∷ row 20 22 32 33 ∷ row 20 32 34 0
    -- 36 to 40: 0 ≤ a ÷ p
    ∷ row 20 1 0 0 ∷ row 20 2 2 0 ∷ row 20 2 6 0 ∷ row 20 13 37 38 ∷ row 20 22 36 39
    -- 41 to 43: a mod p
    ∷ row 20 2 2 0 ∷ row 20 2 6 0 ∷ row 20 14 41 42
    -- 44 to 46: q = p
    ∷ row 20 2 5 0 ∷ row 20 2 6 0 ∷ row 20 20 44 45
    -- 47 to 49: b' = FALSE
    ∷ row 20 3 3 0 ∷ row 20 5 0 0 ∷ row 20 20 47 48
    -- 50 to 52: 0 < u
    ∷ row 20 1 0 0 ∷ row 20 2 4 0 ∷ row 20 21 50 51
    -- 53 to 55: u − 1
    ∷ row 20 2 4 0 ∷ row 20 1 1 0 ∷ row 20 11 53 54
    -- 56: u
    ∷ row 20 2 4 0
    -- 57 to 59: 0 ≤ r
    ∷ row 20 1 0 0 ∷ row 20 2 7 0 ∷ row 20 22 57 58
    -- 60 to 62: u − r
    ∷ row 20 2 4 0 ∷ row 20 2 7 0 ∷ row 20 11 60 61
    -- axiom; abstract invariants; concrete invariant
    ∷ row 30 3 0 0 ∷ row 31 6 0 0 ∷ row 31 9 0 0 ∷ row 32 12 0 0
    -- events: 1 abstract initialisation, 2 ordinary, 3 concrete initialisation, 4 refines 2, 5 convergent, 6 anticipated
    ∷ row 40 1 0 0 ∷ row 40 1 1 0 ∷ row 40 2 0 0 ∷ row 40 2 1 2 ∷ row 40 2 2 0 ∷ row 40 2 3 0
    -- guards
    ∷ row 50 2 18 0 ∷ row 50 2 23 0 ∷ row 50 4 35 0 ∷ row 50 4 40 0 ∷ row 50 5 52 0 ∷ row 50 6 59 0
    -- actions: a := N, b := FALSE; a := N, u := N; a := a mod p; u := u − 1; u := u − r; a :| 0 ≤ a'
    ∷ row 51 1 2 13 ∷ row 51 1 3 14 ∷ row 51 3 2 27 ∷ row 51 3 4 28 ∷ row 51 4 2 43 ∷ row 51 5 4 55 ∷ row 51 6 4 62 ∷ row 52 2 2 26
    -- witnesses: b' of event 3; q, b' of event 4
    ∷ row 60 3 3 31 ∷ row 60 4 5 46 ∷ row 60 4 3 49
    -- variant u
    ∷ row 70 56 0 0
    ∷ []

abbrev pub bytes : List ℕ
bytes = rows_bytes rows
