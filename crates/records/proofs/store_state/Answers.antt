-- No record is stored at first, a turn stores one more, and the list keeps its length.
use Rattle.std.proofs.Common.{◌≡◌, ℕ, List, refl, ap, ap₂, sym, ◌∙◌, set, suc, arith, add-one}
use Rattle.bench.specs.declared.Record.{Record}
use Rattle.records.specs.declared.Numbers.{Numbers}
use Rattle.records.specs.Numbers.{record_at, stored}
use Rattle.records.proofs.FewOf.{few_bound}
use Rattle.records.proofs.store_state.Goals as goal

started : (all : Numbers) (ys : List Record) → ys ≡ stored all 0 ys
unfolding stored
started all ys = refl

turned : (all : Numbers) (i : ℕ) (ys : List Record) → set (stored all i ys) i (record_at all i) ≡ stored all (suc i) ys
unfolding stored
turned all i ys = refl

pub loop-i-init : goal.loop-i-init
loop-i-init c = started c.args.all c.args.state.now

pub store-requires : goal.store-requires
store-requires c = omega (arith, c.few-n.ensures, few_bound, c.loop-i.auto.state)

pub loop-i-preserved : goal.loop-i-preserved
loop-i-preserved c =
    let all = c.args.all in
    let ys = c.args.state.now in
    let i = c.loop-i.i in
    c.store.ensures ∙ ap₂ (λ zs r. set zs i r) c.loop-i.invariant c.at-r.ensures ∙ turned all i ys ∙ ap (λ k. stored all k ys) (sym (add-one i))
