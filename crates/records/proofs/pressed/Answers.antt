-- `press_numbers` is lent the first numbers of each array, and what it leaves stands in front of the rest.
use mathlib.Core.Path.{◌≡◌, ap, ◌∙◌}
use mathlib.Core.List.{List, ◌++◌}
use Prim.Native.Nat.{ℕ}
use borrow.Author.Rules.{rules}
use lib.IntN.{ℤ}
use lib.ListN.{length, take, drop}
use Rattle.std.specs.Prelude.{Result}
use Rattle.rules.specs.declared.Refusal.{Refusal}
use Rattle.bench.specs.Press.{Outcome, outcome, reply_of, kept_or}
use Rattle.records.specs.declared.Done.{Done}
use Rattle.records.specs.declared.Numbers.{Numbers}
use Rattle.records.specs.Numbers.{few_of, pressed_of}
use Rattle.records.proofs.FewOf.{few_in, few_taken}
use Rattle.records.proofs.pressed.Goals as goal

module _ (table step : List ℕ) (all : Numbers) (r : ℕ) where
  abbrev o : Outcome
  o = outcome table step (take r all.values) (take r all.sorts) (length (take r all.values))

  done : (n : ℕ) (reply : Result (Unit {0}) Refusal) (zs : List ℤ) → r ≡ few_of n → reply ≡ reply_of o → zs ≡ kept_or (λ zs. zs) (take r all.values) o
      → ◌≡◌ {A = Done} (record { numbers = record { values = zs ++ drop r all.values; sorts = all.sorts }; reply = reply }) (pressed_of table step all (few_of n))
  unfolding pressed_of
  done n reply zs e e' e'' =
      ap (λ (zs : List ℤ). record { numbers = record { values = zs ++ drop r all.values; sorts = all.sorts }; reply = reply }) e''
      ∙ ap (λ (reply : Result (Unit {0}) Refusal). record { numbers = record { values = kept_or (λ zs. zs) (take r all.values) o ++ drop r all.values; sorts = all.sorts }; reply = reply }) e'
      ∙ ap (pressed_of table step all) e

pub slice_bounds-values-end : goal.slice_bounds-values-end
slice_bounds-values-end c =
    let a = c.args in
    few_in a.n _ a.all.values c.few-end.ensures (search rules)

pub slice_bounds-press_numbers-end : goal.slice_bounds-press_numbers-end
slice_bounds-press_numbers-end c =
    let a = c.args in
    few_taken a.n _ a.all.values c.few-end.ensures (search rules)

pub slice_bounds-sorts-end : goal.slice_bounds-sorts-end
slice_bounds-sorts-end c =
    let a = c.args in
    few_in a.n _ a.all.sorts c.few-end.ensures (search rules)

pub slice_bounds-press_numbers-end-2 : goal.slice_bounds-press_numbers-end-2
slice_bounds-press_numbers-end-2 c =
    let a = c.args in
    few_taken a.n _ a.all.sorts c.few-end.ensures (search rules)

pub returns : goal.returns
returns c =
    let pressed = c.press_numbers-reply in
    let a = c.args in
    done a.table.now a.step.now a.all _ a.n _ _ c.few-end.ensures pressed.ensures.value pressed.ensures.values_after
