-- A state's records as two lists of numbers, of which pressing and previewing read and write the first.
use Rattle.std.specs.Prelude.{List, ◌++◌, ℕ, zero, suc, ltb, pos, length, get_or, set, replicate, take, drop}
use Rattle.lists.specs.Choice.{pick}
use Rattle.bench.specs.declared.Record.{Record}
use Rattle.bench.specs.Press.{outcome, reply_of, kept_or}
use Rattle.press.specs.Numbers.{room_for}
use Rattle.records.specs.declared.Numbers.{Numbers}
use Rattle.records.specs.declared.Done.{Done}

-- what stands past the end
abbrev pub no_record : Record
no_record = record { value = pos 0; sort = 0 }

-- how many records of n are looked at: at most one more than a table has identifiers
unfoldable pub few_of : ℕ → ℕ
few_of n = pick (ltb n 65) n 65

unfoldable pub no_numbers : Numbers
no_numbers = record { values = replicate 65 (pos 0); sorts = replicate 65 0 }

-- the numbers with those of r in place i; the same past the end
abbrev pub with_record : Numbers → ℕ → Record → Numbers
with_record all i r = pick (ltb i 65) (record { values = set all.values i r.value; sorts = set all.sorts i r.sort }) all

-- the numbers of the first n records
unfoldable pub loaded : ℕ → List Record → Numbers
loaded zero state = no_numbers
loaded (suc n) state = with_record (loaded n state) n (get_or state n no_record)

-- record i of the numbers
abbrev pub record_at : Numbers → ℕ → Record
record_at all i = pick (ltb i 65) (record { value = get_or all.values i (pos 0); sort = get_or all.sorts i 0 }) no_record

-- the state with the first n records of the numbers
unfoldable pub stored : Numbers → ℕ → List Record → List Record
stored all zero state = state
stored all (suc n) state = set (stored all n state) n (record_at all n)

-- what pressing makes of the first n numbers, which replace those, and the reply
unfoldable pub pressed_of : List ℕ → List ℕ → Numbers → ℕ → Done
pressed_of table step all n =
    let zs = take n all.values in
    let o = outcome table step zs (take n all.sorts) (length zs) in
    record { numbers = record { values = kept_or (λ zs. zs) zs o ++ drop n all.values; sorts = all.sorts }; reply = reply_of o }

-- what a preview from the first n numbers makes of the first m of another list
unfoldable pub previewed_of : List ℕ → List ℕ → Numbers → ℕ → Numbers → ℕ → Done
previewed_of table step first n second m =
    let types = take n first.sorts in
    let zs = take m second.values in
    let kinds = take m second.sorts in
    let o = outcome table step (take n first.values) types (room_for zs kinds) in
    record {
      numbers = record { values = kept_or (λ zs. zs) zs o ++ drop m second.values; sorts = kept_or (λ _. types) kinds o ++ drop m second.sorts };
      reply = reply_of o;
    }
