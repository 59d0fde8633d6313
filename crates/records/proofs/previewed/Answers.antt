-- `preview_numbers` is lent the first numbers of each array, and what it leaves of the second list's stands in front of the rest.
use mathlib.Core.Path.{◌≡◌, ap, ◌∙◌}
use mathlib.Core.List.{List, ◌++◌}
use Prim.Native.Nat.{ℕ}
use borrow.Author.Rules.{rules}
use lib.IntN.{ℤ}
use lib.ListN.{take, drop}
use Rattle.std.specs.Prelude.{Result}
use Rattle.rules.specs.declared.Refusal.{Refusal}
use Rattle.bench.specs.Press.{Outcome, outcome, reply_of, kept_or}
use Rattle.press.specs.Numbers.{room_for}
use Rattle.records.specs.declared.Done.{Done}
use Rattle.records.specs.declared.Numbers.{Numbers}
use Rattle.records.specs.Numbers.{few_of, previewed_of}
use Rattle.records.proofs.FewOf.{few_in, few_taken}
use Rattle.records.proofs.previewed.Goals as goal

module _ (table step : List ℕ) (first second : Numbers) (r r' : ℕ) where
  abbrev o : Outcome
  o = outcome table step (take r first.values) (take r first.sorts) (room_for (take r' second.values) (take r' second.sorts))

  abbrev done_with : List ℤ → List ℕ → Result (Unit {0}) Refusal → Done
  done_with zs types reply = record { numbers = record { values = zs ++ drop r' second.values; sorts = types ++ drop r' second.sorts }; reply = reply }

  done : (n m : ℕ) (reply : Result (Unit {0}) Refusal) (zs : List ℤ) (types : List ℕ) → r ≡ few_of n → r' ≡ few_of m → reply ≡ reply_of o
      → zs ≡ kept_or (λ zs. zs) (take r' second.values) o → types ≡ kept_or (λ _. take r first.sorts) (take r' second.sorts) o
      → done_with zs types reply ≡ previewed_of table step first (few_of n) second (few_of m)
  unfolding previewed_of
  done n m reply zs types e e' replied z t =
      ap (λ (zs : List ℤ). done_with zs types reply) z ∙ ap (λ (types : List ℕ). done_with (kept_or (λ zs. zs) (take r' second.values) o) types reply) t
      ∙ ap (done_with (kept_or (λ zs. zs) (take r' second.values) o) (kept_or (λ _. take r first.sorts) (take r' second.sorts) o)) replied
      ∙ ap (λ (k : ℕ). previewed_of table step first k second r') e ∙ ap (previewed_of table step first (few_of n) second) e'

pub slice_bounds-from_values-end : goal.slice_bounds-from_values-end
slice_bounds-from_values-end c =
    let a = c.args in
    few_in a.n _ a.first.values c.few-end.ensures (search rules)

pub slice_bounds-preview_numbers-end : goal.slice_bounds-preview_numbers-end
slice_bounds-preview_numbers-end c =
    let a = c.args in
    few_taken a.n _ a.first.values c.few-end.ensures (search rules)

pub slice_bounds-from_sorts-end : goal.slice_bounds-from_sorts-end
slice_bounds-from_sorts-end c =
    let a = c.args in
    few_in a.n _ a.first.sorts c.few-end.ensures (search rules)

pub slice_bounds-preview_numbers-end-2 : goal.slice_bounds-preview_numbers-end-2
slice_bounds-preview_numbers-end-2 c =
    let a = c.args in
    few_taken a.n _ a.first.sorts c.few-end.ensures (search rules)

pub slice_bounds-values-end : goal.slice_bounds-values-end
slice_bounds-values-end c =
    let a = c.args in
    few_in a.m _ a.second.values c.few-room.ensures (search rules)

pub slice_bounds-preview_numbers-end-3 : goal.slice_bounds-preview_numbers-end-3
slice_bounds-preview_numbers-end-3 c =
    let a = c.args in
    few_taken a.m _ a.second.values c.few-room.ensures (search rules)

pub slice_bounds-sorts-end : goal.slice_bounds-sorts-end
slice_bounds-sorts-end c =
    let a = c.args in
    few_in a.m _ a.second.sorts c.few-room.ensures (search rules)

pub slice_bounds-preview_numbers-end-4 : goal.slice_bounds-preview_numbers-end-4
slice_bounds-preview_numbers-end-4 c =
    let a = c.args in
    few_taken a.m _ a.second.sorts c.few-room.ensures (search rules)

pub returns : goal.returns
returns c =
    let says = c.preview_numbers-reply.ensures in
    let a = c.args in
    done a.table.now a.step.now a.first a.second _ _ a.n a.m _ _ _ c.few-end.ensures c.few-room.ensures says.value says.second_after says.types_after
