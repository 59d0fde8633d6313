-- What pressing and previewing make of lists of records is what they make of the numbers loaded from them, stored again. A list of more than 64 records is refused whatever it
-- holds, so that only its first 65 matter; on a refusal what is stored is what was loaded. Pressing is a preview of a list into itself.
use mathlib.Core.Path.{◌≡◌, refl, sym, ap, ◌∙◌}
use mathlib.Core.Bool.{Bool, true, false}
use mathlib.Core.List.{List, ◌++◌}
use Prim.Native.Nat.{ℕ, ◌<◌, ◌≤◌}
use native.Mathlib.Omega.{arith}
use borrow.Author.Tests.{ltb-true, ltb-false, eq-eqb}
use lib.Dec.{ltb}
use lib.IntN.{ℤ, pos}
use lib.ListN.{length, get_or, take, drop, take-append-drop, get_or-append}
use Rattle.lists.specs.Choice.{pick}
use Rattle.bench.specs.declared.Record.{Record}
use Rattle.bench.specs.State.{values_in, types_in, with_values_of}
use Rattle.bench.specs.Press.{Outcome, made, refused, outcome, reply_of, kept_or, records_outcome, press, preview}
use Rattle.press.specs.Numbers.{room_for}
use Rattle.bench.proofs.Lengths.{outcome_length, outcome_long, outcome_room}
use Rattle.records.specs.Numbers.{few_of, loaded, stored, pressed_of, previewed_of}
use Rattle.records.specs.declared.Done.{Done}
use Rattle.records.specs.declared.Numbers.{Numbers}
use Rattle.records.proofs.FewOf.{few_all, few_many, few_bound}
use Rattle.records.proofs.Loaded.{at_in, at_loaded, taken_values, taken_sorts, length_values, values_loaded, sorts_loaded}
use Rattle.records.proofs.Stored.{stored_same, stored_whole}
use Rattle.records.proofs.WithValues.{with_length, with_at}

room_of : (zs : List ℤ) (types : List ℕ) → length zs ≡ length types → room_for zs types ≡ length zs
unfolding room_for
room_of zs types e = ap (λ (t : Bool). pick t (length zs) 65) (eq-eqb (length zs) (length types) e)

module _ (table step : List ℕ) (first second : List Record) where
  abbrev n : ℕ
  n = few_of (length first)

  abbrev m : ℕ
  m = few_of (length second)

  abbrev from : Numbers
  from = loaded n first

  abbrev kept : Numbers
  kept = loaded m second

  -- the outcome for the numbers, and for the records
  abbrev found : Outcome
  found = outcome table step (take n from.values) (take n from.sorts) (room_for (take m kept.values) (take m kept.sorts))

  abbrev asked : Outcome
  asked = outcome table step (values_in first) (types_in first) (length second)

  room : room_for (take m kept.values) (take m kept.sorts) ≡ m
  room = let h = (few_bound (length second)).0 in room_of _ _ (taken_values second m h ∙ sym (taken_sorts second m h)) ∙ taken_values second m h

  same_room : outcome table step (values_in first) (types_in first) m ≡ asked
  same_room = by (ltb (length second) 65) refl
    where
      by : (t : Bool) → ltb (length second) 65 ≡ t → outcome table step (values_in first) (types_in first) m ≡ asked
      by true e = ap (outcome table step (values_in first) (types_in first)) (few_all (length second) (ltb-true (length second) 65 e))
      by false e = let l = ltb-false (length second) 65 e in let q = few_many (length second) l in outcome_room table step (values_in first) (types_in first) m (length second) (omega (arith, q)) (omega (arith, l))

  same : found ≡ asked
  same = by (ltb (length first) 65) refl
    where
      by : (t : Bool) → ltb (length first) 65 ≡ t → found ≡ asked
      by true e =
          let l : length first < 65 = ltb-true (length first) 65 e in
          let q : n ≡ length first = few_all (length first) l in
          let h : length first ≤ 65 = omega arith in
          ap (λ (zs : List ℤ). outcome table step zs (take n from.sorts) (room_for (take m kept.values) (take m kept.sorts))) (ap (λ (k : ℕ). take k (loaded k first).values) q ∙ values_loaded first h)
          ∙ ap (λ (types : List ℕ). outcome table step (values_in first) types (room_for (take m kept.values) (take m kept.sorts))) (ap (λ (k : ℕ). take k (loaded k first).sorts) q ∙ sorts_loaded first h)
          ∙ ap (outcome table step (values_in first) (types_in first)) room ∙ same_room
      by false e =
          let l = ltb-false (length first) 65 e in
          let q = few_many (length first) l in
          outcome_long table step _ _ _ _ _ _ (omega (arith, q, taken_values first n (few_bound (length first)).0)) (omega (arith, l, length_values first))

  -- the second list's numbers by an outcome
  abbrev numbers_by : Outcome → Numbers
  numbers_by o = record {
    values = kept_or (λ zs. zs) (take m kept.values) o ++ drop m kept.values;
    sorts = kept_or (λ _. take n from.sorts) (take m kept.sorts) o ++ drop m kept.sorts;
  }

  -- a refusal stores what was loaded
  unchanged : stored (record { values = take m kept.values ++ drop m kept.values; sorts = take m kept.sorts ++ drop m kept.sorts }) m second ≡ second
  unchanged =
      ap (λ (zs : List ℤ). stored (record { values = zs; sorts = take m kept.sorts ++ drop m kept.sorts }) m second) (take-append-drop m kept.values)
      ∙ ap (λ (types : List ℕ). stored (record { values = kept.values; sorts = types }) m second) (take-append-drop m kept.sorts)
      ∙ stored_same kept second m (λ k l. at_loaded second m k (few_bound (length second)).0 l)

  -- what is made has the length of both lists
  changed : (zs : List ℤ) → asked ≡ made zs → stored (numbers_by (made zs)) m second ≡ with_values_of zs first
  changed zs e =
      let told = outcome_length table step (values_in first) (types_in first) (length second) zs e in
      let size : length zs ≡ length first = told.0 ∙ length_values first in
      let both : length second ≡ length first = told.2 ∙ length_values first in
      let small : length first ≤ 64 = omega (arith, told.3, length_values first) in
      let q : n ≡ length first = few_all (length first) (omega (arith, small)) in
      let types : take n from.sorts ≡ types_in first = ap (λ (k : ℕ). take k (loaded k first).sorts) q ∙ sorts_loaded first (omega (arith, small)) in
      let wide : length (take n from.sorts) ≡ n = taken_sorts first n (few_bound (length first)).0 in
      ap (λ (k : ℕ). stored (numbers_by (made zs)) k second) (few_all (length second) (omega (arith, small, both)))
      ∙ stored_whole (numbers_by (made zs)) second (with_values_of zs first) (with_length zs first size ∙ sym both) (λ k l.
      at_in (numbers_by (made zs)) k (omega (arith, l, small, both))
      ∙ ap (λ (z : ℤ). record { value = z; sort = get_or (take n from.sorts ++ drop m kept.sorts) k 0 }) (get_or-append zs (drop m kept.values) (pos 0) k (omega (arith, l, size, both)))
      ∙ ap (λ (type : ℕ). record { value = get_or zs k (pos 0); sort = type }) (get_or-append (take n from.sorts) (drop m kept.sorts) 0 k (omega (arith, l, wide, q, both)) ∙ ap (λ (types : List ℕ). get_or types k 0) types)
      ∙ sym (with_at zs first k size))

  becomes : (o : Outcome) → asked ≡ o → stored (numbers_by o) m second ≡ kept_or (λ zs. with_values_of zs first) second o
  becomes (made zs) e = changed zs e
  becomes (refused number row) e = unchanged

  pub previewed_is : ((previewed_of table step from n kept m).reply ≡ (preview table step first second).reply) × (stored (previewed_of table step from n kept m).numbers m second ≡ (preview table step first second).second)
  unfolding previewed_of preview records_outcome
  previewed_is = (ap reply_of same, ap (λ (o : Outcome). stored (numbers_by o) m second) same ∙ becomes asked refl)

module _ (table step : List ℕ) (state : List Record) where
  abbrev size : ℕ
  size = few_of (length state)

  abbrev all : Numbers
  all = loaded size state

  abbrev done_by : List ℕ → Outcome → Done
  done_by types o = record { numbers = record { values = kept_or (λ zs. zs) (take size all.values) o ++ drop size all.values; sorts = types }; reply = reply_of o }

  sorts_kept : (o : Outcome) → all.sorts ≡ kept_or (λ _. take size all.sorts) (take size all.sorts) o ++ drop size all.sorts
  sorts_kept (made zs) = sym (take-append-drop size all.sorts)
  sorts_kept (refused number row) = sym (take-append-drop size all.sorts)

  as_preview : pressed_of table step all size ≡ previewed_of table step all size all size
  unfolding pressed_of previewed_of
  as_preview =
      let h = (few_bound (length state)).0 in
      let o = outcome table step (take size all.values) (take size all.sorts) in
      ap (λ (types : List ℕ). done_by types (o (length (take size all.values)))) (sorts_kept (o (length (take size all.values))))
      ∙ ap (λ (k : ℕ). done_by (kept_or (λ _. take size all.sorts) (take size all.sorts) (o k) ++ drop size all.sorts) (o k)) (sym (room_of (take size all.values) (take size all.sorts) (taken_values state size h ∙ sym (taken_sorts state size h))))

  pub pressed_is : ((pressed_of table step all size).reply ≡ (press table step state).reply) × (stored (pressed_of table step all size).numbers size state ≡ (press table step state).state)
  unfolding press preview
  pressed_is =
      let said = previewed_is table step state state in
      (ap (λ (d : Done). d.reply) as_preview ∙ said.0, ap (λ (d : Done). stored d.numbers size state) as_preview ∙ said.1)
