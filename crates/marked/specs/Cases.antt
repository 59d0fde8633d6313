-- 01, Table L and marked cases: P1 to P10 as rows of one table: what the definitions give, and what 01 says, P1 to P3 as 02's request 4 has them; then replays of logs,
-- and what 02's request 5 says; then presses and previews, and what request 6 says; then remainders, as request 7 has them. One proof computes them all.
use Rattle.std.specs.Prelude.{ℕ, zero, suc, ◌-◌, Bool, true, false, ◌&&◌, List, [], ◌∷◌, ◌++◌, eqb, ℤ, pos, negsuc, replicate, set, take, Result, Ok, Err}
use Rattle.std.proofs.Math.Option.{Option, none, some}
use Rattle.row.specs.declared.Row.{Row}
use Rattle.formula.specs.Values.{integer, AnyValue, number, truth, as_value}
use Rattle.formula.specs.Tree.{literal, logicalNot, equal, quotient, remainder, and, Division, Tree, constant, identifier, unary, binary, division, connective}
use Rattle.formula.specs.Evaluate.{Env, evaluate, read_tree}
use Rattle.machine.specs.Machine.{Machine}
use Rattle.rules.specs.declared.Refusal.{Refusal}
use Rattle.rules.specs.Verdict.{verdict as verdict_of}
use Rattle.rules.specs.Offence.{machine}
use Rattle.run.specs.Run.{State, blank, world, Taken}
use Rattle.run.specs.SafeRun.{within_bound, convergent_steps}
use Rattle.reply.specs.Row.{row}
use Rattle.reply.specs.Printed.{rows_bytes}
use Rattle.reply.specs.Replies.{Outcome, write_sequent, spell_entry, output}
use Rattle.recording.specs.Replay.{replay}
use Rattle.bench.specs.declared.Record.{Record}
use Rattle.bench.specs.Press.{press, preview}

-- An answer of any kind as a list of numbers.
abbrev accepted : ℕ → List ℕ
accepted n = 0 ∷ n ∷ []

abbrev refused : ℕ → ℕ → List ℕ
refused c r = 1 ∷ c ∷ r ∷ []

abbrev of_reply : Result ℕ Refusal → List ℕ
of_reply (Ok n) = accepted n
of_reply (Err r) = refused r.number r.row

abbrev of_press : Result (Unit {0}) Refusal → List ℕ
of_press (Ok done) = accepted 0
of_press (Err r) = refused r.number r.row

-- a reply, then the buffer
abbrev of_outcome : Outcome → List ℕ
of_outcome o = of_reply o.reply ++ o.buffer

abbrev whole : ℤ → List ℕ
whole (pos n) = 2 ∷ n ∷ []
whole (negsuc n) = 3 ∷ suc n ∷ []

abbrev undefined : List ℕ
undefined = 4 ∷ []

abbrev bit : Bool → List ℕ
bit true = 5 ∷ 1 ∷ []
bit false = 5 ∷ 0 ∷ []

abbrev of_reading : Option AnyValue → List ℕ
of_reading none = undefined
of_reading (some (number z)) = whole z
of_reading (some (truth b)) = bit b

-- A case: what the definitions give, and what 01 or 02 says.
pub record Case : Type 0 where
  pub computed : List ℕ
  pub stated : List ℕ

abbrev gives : List ℕ → List ℕ → Case
gives c s = record { computed = c; stated = s }

-- 01: "L, four numbers a row"
abbrev pub rows_l : List Row
rows_l =
    row 10 2 1 0 ∷ row 10 3 1 0 ∷ row 20 1 0 0 ∷ row 20 1 0 0 ∷ row 20 3 1 0 ∷ row 20 3 2 0 ∷ row 20 20 3 4 ∷ row 40 1 0 0 ∷ row 40 2 0 0
    ∷ row 51 1 1 1 ∷ row 51 2 2 2 ∷ row 60 2 1 5 ∷ []

abbrev pub bytes_l : List ℕ
bytes_l = rows_bytes rows_l

-- 02, request 4: "For L the program prints"
abbrev sequent2 : List Row
sequent2 = row 80 5 2 1 ∷ row 84 1 1 1 ∷ row 81 4 2 2 ∷ row 81 1 5 0 ∷ row 82 4 1 1 ∷ []

abbrev printed_l : List Row
printed_l = row 80 6 2 1 ∷ row 84 2 1 2 ∷ row 81 4 2 2 ∷ row 82 6 2 1 ∷ sequent2

-- L without its last row
abbrev short_l : List Row
short_l =
    row 10 2 1 0 ∷ row 10 3 1 0 ∷ row 20 1 0 0 ∷ row 20 1 0 0 ∷ row 20 3 1 0 ∷ row 20 3 2 0 ∷ row 20 20 3 4 ∷ row 40 1 0 0 ∷ row 40 2 0 0
    ∷ row 51 1 1 1 ∷ row 51 2 2 2 ∷ []

-- L with node 6 = ⊤ and row 60 2 1 6 added
abbrev twice_l : List Row
twice_l =
    row 10 2 1 0 ∷ row 10 3 1 0 ∷ row 20 1 0 0 ∷ row 20 1 0 0 ∷ row 20 3 1 0 ∷ row 20 3 2 0 ∷ row 20 20 3 4 ∷ row 20 30 0 0 ∷ row 40 1 0 0
    ∷ row 40 2 0 0 ∷ row 51 1 1 1 ∷ row 51 2 2 2 ∷ row 60 2 1 5 ∷ row 60 2 1 6 ∷ []

abbrev room : ℕ → List ℕ
room n = replicate n 7

-- −7 and 2, 7 and −2
abbrev divided : Division → Tree
divided o = division o (constant (literal 18446744073709551609)) (constant (literal 2))

abbrev by_minus_two : Division → Tree
by_minus_two o = division o (constant (literal 7)) (constant (literal 18446744073709551614))

-- a = 1 and b = 0
abbrev value_ab : ℕ → ℤ
value_ab zero = pos 0
value_ab (suc zero) = pos 1
value_ab (suc (suc x)) = pos 0

abbrev at : Env (λ x. integer)
at = record { present = value_ab; after = value_ab }

-- ¬(b = 0), and a ÷ b = 1
abbrev nonzero : Tree
nonzero = unary logicalNot (binary equal (identifier 2) (constant (literal 0)))

abbrev quotient_one : Tree
quotient_one = binary equal (division quotient (identifier 1) (identifier 2)) (constant (literal 1))

-- P10's machine: a concrete variable u, at first 0; event 3 is convergent, with guard 0 ≤ u and action u := u − 1; the variant is u
abbrev rows_p10 : List Row
rows_p10 =
    row 10 3 1 0 ∷ row 20 1 0 0 ∷ row 20 1 0 0 ∷ row 20 2 1 0 ∷ row 20 22 2 3 ∷ row 20 2 1 0 ∷ row 20 1 1 0 ∷ row 20 11 5 6 ∷ row 20 2 1 0
    ∷ row 40 1 0 0 ∷ row 40 2 0 0 ∷ row 40 2 2 0 ∷ row 50 3 4 0 ∷ row 51 2 1 1 ∷ row 51 3 1 7 ∷ row 70 8 0 0 ∷ []

abbrev pub bytes_p10 : List ℕ
bytes_p10 = rows_bytes rows_p10

unfoldable pub falling : Machine
falling = machine bytes_p10

-- the state in which u has a value, and the step of event 3 that leaves it
abbrev pub with_u : ℤ → State falling
with_u z x = as_value (falling.type x) (number z)

abbrev pub step_to : ℤ → Taken falling
step_to z = record { event = 3; parameters = blank falling; result = with_u z }

-- what the bound of the theorem on runs reads the variant in
abbrev pub read_in : ℤ → Env falling.type
read_in z = world falling (blank falling) (blank falling) (with_u z) (blank falling) (blank falling) (blank falling) (blank falling)

-- 02, request 5: logs of L, which has one identifier to log, the concrete variable 2, and one concrete event, the initialisation 2
abbrev log_l : List Row
log_l = row 90 2 0 0 ∷ row 91 2 0 0 ∷ []

abbrev replay_l : List Row → List ℕ
replay_l rs = of_reply (replay bytes_l (rows_bytes rs))

-- the first log, ended after so many bytes
abbrev replay_torn : ℕ → List ℕ
replay_torn n = of_reply (replay bytes_l (take n (rows_bytes log_l)))

-- 02, request 5: a table with a concrete boolean variable b, a constant c, a shared variable n, a parameter p and a concrete variable k, in this order. The axiom is
-- 0 < c. Event 3, the concrete initialisation, makes b := FALSE, n := 0 and k := c; event 4 has the guards p ≤ 100 ∧ (p × p) × p ≤ 100 and 0 < c ÷ p, makes
-- b := bool(n < p) and n such that n' ≤ n + p, and leaves k.
abbrev rows_m : List Row
rows_m =
    row 10 3 2 0 ∷ row 10 1 1 0 ∷ row 10 6 1 0 ∷ row 10 5 1 4 ∷ row 10 3 1 0 ∷
    row 20 1 0 0 ∷ row 20 2 2 0 ∷ row 20 21 1 2 ∷
    row 20 2 4 0 ∷ row 20 1 100 0 ∷ row 20 22 4 5 ∷ row 20 2 4 0 ∷ row 20 2 4 0 ∷ row 20 12 7 8 ∷ row 20 2 4 0 ∷ row 20 12 9 10 ∷ row 20 1 100 0 ∷ row 20 22 11 12 ∷ row 20 33 6 13 ∷
    row 20 1 0 0 ∷ row 20 2 2 0 ∷ row 20 2 4 0 ∷ row 20 13 16 17 ∷ row 20 21 15 18 ∷
    row 20 2 3 0 ∷ row 20 2 4 0 ∷ row 20 21 20 21 ∷ row 20 6 22 0 ∷
    row 20 3 3 0 ∷ row 20 2 3 0 ∷ row 20 2 4 0 ∷ row 20 10 25 26 ∷ row 20 22 24 27 ∷
    row 20 5 0 0 ∷ row 20 1 0 0 ∷ row 20 2 2 0 ∷ row 20 1 0 0 ∷ row 20 30 0 0 ∷
    row 30 3 0 0 ∷ row 40 1 0 0 ∷ row 40 1 1 0 ∷ row 40 2 0 0 ∷ row 40 2 1 2 ∷ row 50 4 14 0 ∷ row 50 4 19 0 ∷
    row 51 1 3 32 ∷ row 51 3 1 29 ∷ row 51 3 3 30 ∷ row 51 3 5 31 ∷ row 51 4 1 23 ∷ row 52 2 3 33 ∷ row 52 4 3 28 ∷ []

abbrev bytes_m : List ℕ
bytes_m = rows_bytes rows_m

-- its rows of the initialisation, with the constant c, and of a step of event 4, with b, n, p and k
abbrev beginning : ℕ → List Row
beginning c = row 90 3 0 0 ∷ row 91 1 0 0 ∷ row 91 2 c 0 ∷ row 91 3 0 0 ∷ row 91 5 c 0 ∷ []

abbrev step : ℕ → ℕ → ℕ → ℕ → List Row
step b n p k = row 90 4 0 0 ∷ row 91 1 b 0 ∷ row 91 3 n 0 ∷ row 91 4 p 0 ∷ row 91 5 k 0 ∷ []

-- the word of a negative number
abbrev minus : ℕ → ℕ
minus n = 18446744073709551616 - n

-- a log, and bytes after it
abbrev replay_m : List Row → List ℕ → List ℕ
replay_m rs torn = of_reply (replay bytes_m (rows_bytes rs ++ torn))

-- rows after the initialisation with c = 6
abbrev after_six : List Row → List ℕ
after_six rs = replay_m (beginning 6 ++ rs) []

-- 02, request 6: a state of that table, with b, c, n and k; the record of p has a value that no step reads
abbrev integer_record : ℤ → Record
integer_record z = record { value = z; sort = 1 }

abbrev boolean_record : ℕ → Record
boolean_record n = record { value = pos n; sort = 2 }

abbrev state_m : ℕ → ℤ → ℤ → ℤ → List Record
state_m b c n k = boolean_record b ∷ integer_record c ∷ integer_record n ∷ integer_record (pos 9) ∷ integer_record k ∷ []

-- a choice of event 4: the after value of n, which has the 52, and p
abbrev choose : ℕ → ℕ → List Row
choose n p = row 90 4 0 0 ∷ row 91 3 n 0 ∷ row 91 4 p 0 ∷ []

-- a reply, then the records
abbrev of_records : List Record → List ℕ
of_records [] = []
of_records (r ∷ rs) = whole r.value ++ ((r.sort ∷ []) ++ of_records rs)

abbrev press_m : List Row → List ℕ → List Record → List ℕ
press_m rs torn state = let p = press bytes_m (rows_bytes rs ++ torn) state in of_press p.reply ++ of_records p.state

abbrev preview_m : List Row → List Record → List Record → List ℕ
preview_m rs first second = let p = preview bytes_m (rows_bytes rs) first second in of_press p.reply ++ (of_records p.first ++ of_records p.second)

-- the state after the initialisation with c = 6, and what is refused there
abbrev six_m : List Record
six_m = state_m 0 (pos 6) (pos 0) (pos 6)

abbrev refused_six : ℕ → List ℕ
refused_six n = refused n 0 ++ of_records six_m

-- 02, request 7: a table with a concrete variable n and a parameter p. Event 2, the concrete initialisation, makes n such that ⊤; event 3, which is anticipated,
-- makes n := (n × n × n) mod (p × p × p), so that either operand can be negative or leave 64 bits.
abbrev rows_r : List Row
rows_r =
    row 10 3 1 0 ∷ row 10 5 1 3 ∷
    row 20 30 0 0 ∷ row 20 2 1 0 ∷ row 20 2 1 0 ∷ row 20 12 2 3 ∷ row 20 2 1 0 ∷ row 20 12 4 5 ∷
    row 20 2 2 0 ∷ row 20 2 2 0 ∷ row 20 12 7 8 ∷ row 20 2 2 0 ∷ row 20 12 9 10 ∷ row 20 14 6 11 ∷
    row 40 1 0 0 ∷ row 40 2 0 0 ∷ row 40 2 3 0 ∷ row 51 3 1 12 ∷ row 52 2 1 1 ∷ []

abbrev bytes_r : List ℕ
bytes_r = rows_bytes rows_r

-- the well-definedness of that action: (((⊤ ∧ ⊤) ∧ ⊤) ∧ ((⊤ ∧ ⊤) ∧ ⊤)) ∧ (0 ≤ n × n × n ∧ 0 < p × p × p)
abbrev spelt : ℕ → ℕ → Row
spelt operator b = row 83 operator b 0

abbrev cube_defined : List Row
cube_defined = spelt 33 0 ∷ spelt 33 0 ∷ spelt 30 0 ∷ spelt 30 0 ∷ spelt 30 0 ∷ []

abbrev cube : ℕ → List Row
cube x = spelt 12 0 ∷ spelt 12 0 ∷ spelt 2 x ∷ spelt 2 x ∷ spelt 2 x ∷ []

abbrev defined_r : List Row
defined_r =
    spelt 33 0 ∷ spelt 33 0 ∷ (cube_defined ++ (cube_defined ++ (spelt 33 0 ∷ spelt 22 0 ∷ spelt 1 0 ∷ (cube 1 ++ (spelt 21 0 ∷ spelt 1 0 ∷ cube 2)))))

-- a log: n at first, then n and p of a step
abbrev replay_r : ℕ → ℕ → ℕ → List ℕ
replay_r before after p = of_reply (replay bytes_r (rows_bytes (row 90 2 0 0 ∷ row 91 1 before 0 ∷ row 90 3 0 0 ∷ row 91 1 after 0 ∷ row 91 2 p 0 ∷ [])))

-- event 3 pressed with p, where n has a value; the record of p has one that no step reads
abbrev state_r : ℤ → List Record
state_r n = integer_record n ∷ integer_record (pos 9) ∷ []

abbrev press_r : ℕ → ℤ → List ℕ
press_r p n = let q = press bytes_r (rows_bytes (row 90 3 0 0 ∷ row 91 2 p 0 ∷ [])) (state_r n) in of_press q.reply ++ of_records q.state

-- 02, request 8: a table with concrete variables n and p, where n × n × n leaves 64 bits for some n and a division by p is undefined for p = 0. Event 2, the concrete
-- initialisation, makes both such that ⊤. Of the anticipated events, 3 has the guard n × n × n < n ÷ p, 4 the guard n ÷ p = n × n × n, and 5 makes n := (n × n × n) ÷ p.
abbrev rows_o : List Row
rows_o =
    row 10 3 1 0 ∷ row 10 3 1 0 ∷ row 20 30 0 0 ∷ row 20 30 0 0 ∷
    row 20 2 1 0 ∷ row 20 2 1 0 ∷ row 20 12 3 4 ∷ row 20 2 1 0 ∷ row 20 12 5 6 ∷ row 20 2 1 0 ∷ row 20 2 2 0 ∷ row 20 13 8 9 ∷ row 20 21 7 10 ∷
    row 20 2 1 0 ∷ row 20 2 2 0 ∷ row 20 13 12 13 ∷ row 20 2 1 0 ∷ row 20 2 1 0 ∷ row 20 12 15 16 ∷ row 20 2 1 0 ∷ row 20 12 17 18 ∷ row 20 20 14 19 ∷
    row 20 2 1 0 ∷ row 20 2 1 0 ∷ row 20 12 21 22 ∷ row 20 2 1 0 ∷ row 20 12 23 24 ∷ row 20 2 2 0 ∷ row 20 13 25 26 ∷
    row 40 1 0 0 ∷ row 40 2 0 0 ∷ row 40 2 3 0 ∷ row 40 2 3 0 ∷ row 40 2 3 0 ∷
    row 50 3 11 0 ∷ row 50 4 20 0 ∷ row 51 5 1 27 ∷ row 52 2 1 1 ∷ row 52 2 2 2 ∷ []

abbrev bytes_o : List ℕ
bytes_o = rows_bytes rows_o

-- a log: n and p at first, then a step of the event e that leaves them
abbrev replay_o : ℕ → ℕ → ℕ → List ℕ
replay_o e n p = of_reply (replay bytes_o (rows_bytes (row 90 2 0 0 ∷ row 91 1 n 0 ∷ row 91 2 p 0 ∷ row 90 e 0 0 ∷ row 91 1 n 0 ∷ row 91 2 p 0 ∷ [])))

abbrev state_o : ℤ → ℤ → List Record
state_o n p = integer_record n ∷ integer_record p ∷ []

abbrev press_o : ℕ → ℤ → ℤ → List ℕ
press_o e n p = let q = press bytes_o (rows_bytes (row 90 e 0 0 ∷ [])) (state_o n p) in of_press q.reply ++ of_records q.state

unfoldable pub cases : List Case
cases =
    -- P1: the program prints for L
    gives (output bytes_l) (rows_bytes printed_l)
    -- P2: count 2; k 2 accepted, 0 and 3 give 13
    ∷ gives (of_reply (verdict_of bytes_l)) (accepted 2)
    ∷ gives (of_reply (write_sequent bytes_l 2 (room 200)).reply) (accepted 5)
    ∷ gives (of_outcome (write_sequent bytes_l 0 (room 200))) (refused 13 0 ++ room 200)
    ∷ gives (of_outcome (write_sequent bytes_l 3 (room 200))) (refused 13 0 ++ room 200)
    -- P3: sequent 2 fits 190 bytes; 189 gives 15
    ∷ gives (of_outcome (write_sequent bytes_l 2 (room 190))) (accepted 5 ++ rows_bytes sequent2)
    ∷ gives (of_outcome (write_sequent bytes_l 2 (room 189))) (refused 15 0 ++ room 189)
    ∷ gives (of_outcome (write_sequent bytes_l 2 (room 193))) (accepted 5 ++ (rows_bytes sequent2 ++ room 3))
    -- P4: L without its last row: 9, row 7
    ∷ gives (of_reply (verdict_of (rows_bytes short_l))) (refused 9 7)
    -- P5: L with node 6 = ⊤ and row 60 2 1 6 added: 11, row 14
    ∷ gives (of_reply (verdict_of (rows_bytes twice_l))) (refused 11 14)
    -- P6: empty input: 12
    ∷ gives (of_reply (verdict_of [])) (refused 12 0)
    -- P7: 37 bytes: 1
    ∷ gives (of_reply (verdict_of (room 37))) (refused 1 0)
    -- P8: −7 ÷ 2 = −3; 02, request 7: "−7 mod 2 becomes undefined"
    ∷ gives (of_reading (read_tree at (divided quotient))) (whole (negsuc 2))
    ∷ gives (of_reading (read_tree at (divided remainder))) undefined
    -- P9: ¬(b = 0) ∧ a ÷ b = 1 is false at b = 0; with sides exchanged, undefined
    ∷ gives (of_reading (read_tree at (connective and nonzero quotient_one))) (bit false)
    ∷ gives (of_reading (read_tree at (connective and quotient_one nonzero))) undefined
    -- P10: variant 0, one convergent step to −1: allowed, two are not
    ∷ gives (of_reply (verdict_of bytes_p10)) (accepted 2)
    ∷ gives (of_reading (read_tree (read_in (pos 0)) (falling.tree 8))) (whole (pos 0))
    ∷ gives (of_reading (read_tree (read_in (negsuc 0)) (falling.tree 8))) (whole (negsuc 0))
    ∷ gives (bit (within_bound (convergent_steps falling (step_to (negsuc 0) ∷ [])) (pos 0))) (bit true)
    ∷ gives (bit (within_bound (convergent_steps falling (step_to (negsuc 0) ∷ step_to (negsuc 1) ∷ [])) (pos 0))) (bit false)
    -- 02, request 5: logs of L, the first of which is a run with no step after the initialisation
    ∷ gives (replay_l log_l) (accepted 0)
    -- an empty log, and one that ends inside the step
    ∷ gives (replay_torn 0) (refused 18 0)
    ∷ gives (replay_torn 38) (refused 18 0)
    -- a torn row 1, and a torn row 2
    ∷ gives (replay_torn 37) (refused 18 1)
    ∷ gives (replay_torn 39) (refused 18 2)
    -- a value that the action does not allow
    ∷ gives (replay_l (row 90 2 0 0 ∷ row 91 2 1 0 ∷ [])) (refused 18 1)
    -- a second initialisation, and a row past the step's last
    ∷ gives (replay_l (log_l ++ log_l)) (refused 18 3)
    ∷ gives (replay_l (log_l ++ (row 91 2 0 0 ∷ []))) (refused 18 3)
    -- columns not used that are not 0
    ∷ gives (replay_l (row 90 2 0 1 ∷ row 91 2 0 0 ∷ [])) (refused 18 1)
    ∷ gives (replay_l (row 90 2 0 0 ∷ row 91 2 0 1 ∷ [])) (refused 18 2)
    -- the abstract initialisation, and an abstract variable
    ∷ gives (replay_l (row 90 1 0 0 ∷ row 91 1 0 0 ∷ [])) (refused 18 1)
    ∷ gives (replay_l (row 90 2 0 0 ∷ row 91 1 0 0 ∷ [])) (refused 18 2)
    -- a refused table
    ∷ gives (of_reply (replay (rows_bytes short_l) (rows_bytes log_l))) (refused 9 7)
    -- logs of the other table: two steps, constants and parameters standing among the variables in identifier order
    ∷ gives (after_six (step 1 2 2 6 ++ step 0 (minus 5) 2 6)) (accepted 2)
    -- 16: p × p × p leaves 64 bits; 17: c ÷ 0; each with the step's row 90
    ∷ gives (after_six (step 0 0 (minus 2147483648) 6)) (refused 16 6)
    ∷ gives (after_six (step 1 2 2 6 ++ step 0 0 0 6)) (refused 17 11)
    -- guards that are false: 0 < 6 ÷ −1; and p ≤ 100, after which ∧ does not read p × p × p
    ∷ gives (after_six (step 0 0 (minus 1) 6)) (refused 18 6)
    ∷ gives (after_six (step 1 0 2147483647 6)) (refused 18 6)
    -- values that an action does not allow: of b, of n, and of k, which is not assigned
    ∷ gives (after_six (step 0 2 2 6)) (refused 18 6)
    ∷ gives (after_six (step 1 3 2 6)) (refused 18 6)
    ∷ gives (after_six (step 1 2 2 7)) (refused 18 6)
    -- a false axiom
    ∷ gives (replay_m (beginning 0) []) (refused 18 1)
    -- a boolean 2 and a value that is in no number form, before any term is read
    ∷ gives (after_six (step 2 2 (minus 2147483648) 6)) (refused 18 7)
    ∷ gives (after_six (step 1 2147483648 (minus 2147483648) 6)) (refused 18 8)
    -- the parameter before the variables
    ∷ gives (after_six (row 90 4 0 0 ∷ row 91 4 2 0 ∷ row 91 1 1 0 ∷ row 91 3 2 0 ∷ row 91 5 6 0 ∷ [])) (refused 18 7)
    -- a torn end, and one that does not hide the fault of the step before it
    ∷ gives (replay_m (beginning 6 ++ step 1 2 2 6) (room 7)) (refused 18 11)
    ∷ gives (replay_m (beginning 6 ++ step 1 2 0 6) (room 7)) (refused 17 6)
    -- a step before the initialisation
    ∷ gives (replay_m (step 1 2 2 6) []) (refused 18 1)
    -- 02, request 6: two steps that are pressed, as they were replayed above; c, p and k stay
    ∷ gives (press_m (choose 2 2) [] six_m) (accepted 0 ++ of_records (state_m 1 (pos 6) (pos 2) (pos 6)))
    ∷ gives (press_m (choose (minus 5) 2) [] (state_m 1 (pos 6) (pos 2) (pos 6))) (accepted 0 ++ of_records (state_m 0 (pos 6) (negsuc 4) (pos 6)))
    -- 16 and 17 with row 0, and no record changes; n + p leaves 64 bits
    ∷ gives (press_m (choose 2 (minus 2147483648)) [] six_m) (refused_six 16)
    ∷ gives (press_m (choose 2 0) [] six_m) (refused_six 17)
    ∷ gives (press_m (choose 2 2) [] (state_m 0 (pos 6) (pos 9223372036854775807) (pos 6))) (refused 16 0 ++ of_records (state_m 0 (pos 6) (pos 9223372036854775807) (pos 6)))
    -- a false guard, and an after value that the 52 does not allow
    ∷ gives (press_m (choose 2 (minus 1)) [] six_m) (refused_six 18)
    ∷ gives (press_m (choose 3 2) [] six_m) (refused_six 18)
    -- a false axiom, read before the guard that divides by 0
    ∷ gives (press_m (choose 2 0) [] (state_m 0 (pos 0) (pos 0) (pos 6))) (refused 18 0 ++ of_records (state_m 0 (pos 0) (pos 0) (pos 6)))
    -- before any term is read: a boolean 2, a wrong type of a parameter's record, a record too few and one too many
    ∷ gives (press_m (choose 2 0) [] (state_m 2 (pos 6) (pos 0) (pos 6))) (refused 18 0 ++ of_records (state_m 2 (pos 6) (pos 0) (pos 6)))
    ∷ gives (press_m (choose 2 0) [] (set six_m 3 (boolean_record 1))) (refused 18 0 ++ of_records (set six_m 3 (boolean_record 1)))
    ∷ gives (press_m (choose 2 0) [] (take 4 six_m)) (refused 18 0 ++ of_records (take 4 six_m))
    ∷ gives (press_m (choose 2 0) [] (six_m ++ (integer_record (pos 0) ∷ []))) (refused 18 0 ++ of_records (six_m ++ (integer_record (pos 0) ∷ [])))
    -- a row for the 51's variable, a row after the step's last, torn bytes, no rows, an abstract event, a class 0 event
    ∷ gives (press_m (row 90 4 0 0 ∷ row 91 1 1 0 ∷ row 91 3 2 0 ∷ row 91 4 0 0 ∷ []) [] six_m) (refused_six 18)
    ∷ gives (press_m (choose 2 0 ++ (row 91 5 6 0 ∷ [])) [] six_m) (refused_six 18)
    ∷ gives (press_m (choose 2 0) (room 1) six_m) (refused_six 18)
    ∷ gives (press_m [] [] six_m) (refused_six 18)
    ∷ gives (press_m (row 90 2 0 0 ∷ []) [] six_m) (refused_six 18)
    ∷ gives (press_m (beginning 6) [] six_m) (refused_six 18)
    -- a refused table, whatever the state
    ∷ gives (of_press (press (rows_bytes short_l) (rows_bytes (choose 2 2)) []).reply) (refused 9 7)
    -- a preview: the first list stays, the second is what pressing makes of it, types too; or it is refused, also for a second list of another length before any term is read
    ∷ gives (preview_m (choose 2 2) six_m (replicate 5 (boolean_record 7))) (accepted 0 ++ (of_records six_m ++ of_records (state_m 1 (pos 6) (pos 2) (pos 6))))
    ∷ gives (preview_m (choose 2 0) six_m (replicate 5 (boolean_record 7))) (refused 17 0 ++ (of_records six_m ++ of_records (replicate 5 (boolean_record 7))))
    ∷ gives (preview_m (choose 2 0) six_m (replicate 4 (boolean_record 7))) (refused 18 0 ++ (of_records six_m ++ of_records (replicate 4 (boolean_record 7))))
    -- 02, request 7: 7 mod −2 is undefined, 7 ÷ −2 = −3; "Sequents still read an undefined remainder as 0"
    ∷ gives (of_reading (read_tree at (by_minus_two remainder))) undefined
    ∷ gives (of_reading (read_tree at (by_minus_two quotient))) (whole (negsuc 2))
    ∷ gives (of_reading (some (evaluate at (divided remainder)))) (whole (pos 0))
    ∷ gives (of_reading (some (evaluate at (by_minus_two remainder)))) (whole (pos 0))
    -- FIS of the initialisation, and WD of event 3's action, whose goal mentions dividend and divisor
    ∷ gives (of_reply (verdict_of bytes_r)) (accepted 2)
    ∷ gives (of_outcome (write_sequent bytes_r 2 (room 114))) (accepted 3 ++ rows_bytes (row 80 1 3 12 ∷ row 84 2 1 2 ∷ row 82 3 12 0 ∷ []))
    ∷ gives (of_outcome (spell_entry bytes_r 2 1 (room 1026))) (accepted 27 ++ rows_bytes defined_r)
    -- 27 mod 8 = 3, replayed and pressed
    ∷ gives (replay_r 3 3 2) (accepted 1)
    ∷ gives (press_r 2 (pos 3)) (accepted 0 ++ of_records (state_r (pos 3)))
    -- 17: a negative dividend, divisor 0, a negative divisor, both negative
    ∷ gives (replay_r (minus 2) 0 2) (refused 17 3)
    ∷ gives (replay_r 3 0 0) (refused 17 3)
    ∷ gives (replay_r 3 0 (minus 1)) (refused 17 3)
    ∷ gives (replay_r (minus 2) 0 (minus 1)) (refused 17 3)
    ∷ gives (press_r 2 (negsuc 1)) (refused 17 0 ++ of_records (state_r (negsuc 1)))
    -- 02, request 8: a dividend outside 64 bits decides, whatever the divisor
    ∷ gives (replay_r 2147483647 0 1) (refused 16 3)
    ∷ gives (replay_r (minus 2147483648) 0 1) (refused 16 3)
    ∷ gives (replay_r (minus 2147483648) 0 0) (refused 16 3)
    ∷ gives (replay_r (minus 2147483648) 0 (minus 1)) (refused 16 3)
    ∷ gives (press_r 1 (negsuc 2147483647)) (refused 16 0 ++ of_records (state_r (negsuc 2147483647)))
    -- else a divisor outside, also with a negative dividend
    ∷ gives (replay_r 3 0 (minus 2147483648)) (refused 16 3)
    ∷ gives (replay_r (minus 2) 0 2147483647) (refused 16 3)
    ∷ gives (press_r 2147483647 (negsuc 1)) (refused 16 0 ++ of_records (state_r (negsuc 1)))
    -- "the leftmost operand now decides": n × n × n outside beside n ÷ 0, on the left and on the right
    ∷ gives (replay_o 3 2147483647 0) (refused 16 4)
    ∷ gives (replay_o 4 2147483647 0) (refused 17 4)
    ∷ gives (press_o 3 (pos 2147483647) (pos 0)) (refused 16 0 ++ of_records (state_o (pos 2147483647) (pos 0)))
    ∷ gives (press_o 4 (pos 2147483647) (pos 0)) (refused 17 0 ++ of_records (state_o (pos 2147483647) (pos 0)))
    -- "operands before their operator": (n × n × n) ÷ 0
    ∷ gives (replay_o 5 2147483647 0) (refused 16 4)
    ∷ gives (press_o 5 (pos 2147483647) (pos 0)) (refused 16 0 ++ of_records (state_o (pos 2147483647) (pos 0)))
    -- one fault alone, and none
    ∷ gives (replay_o 3 1 0) (refused 17 4)
    ∷ gives (replay_o 4 2147483647 1) (refused 16 4)
    ∷ gives (replay_o 5 1 0) (refused 17 4)
    ∷ gives (replay_o 5 3 9) (accepted 1)
    ∷ gives (replay_o 4 1 1) (accepted 1)
    ∷ []

-- the two are the same in every case
abbrev pub same : List ℕ → List ℕ → Bool
same [] [] = true
same [] (y ∷ ys) = false
same (x ∷ xs) [] = false
same (x ∷ xs) (y ∷ ys) = eqb x y && same xs ys

abbrev pub all_agree : List Case → Bool
all_agree [] = true
all_agree (c ∷ cs) = same c.computed c.stated && all_agree cs
