-- No record is loaded at first, a turn loads one more, and no more are loaded than there are.
use Rattle.std.proofs.Common.{◌≡◌, ℕ, List, refl, ap, sym, ◌∙◌, get_or, suc, arith, add-one}
use Rattle.bench.specs.declared.Record.{Record}
use Rattle.records.specs.Numbers.{no_record, no_numbers, with_record, loaded}
use Rattle.records.proofs.FewOf.{few_bound}
use Rattle.records.proofs.load_state.Goals as goal

started : (ys : List Record) → no_numbers ≡ loaded 0 ys
unfolding loaded
started ys = refl

turned : (i : ℕ) (ys : List Record) (r : Record) → r ≡ get_or ys i no_record → with_record (loaded i ys) i r ≡ loaded (suc i) ys
unfolding loaded
turned i ys r e = ap (with_record (loaded i ys) i) e

pub loop-i-init : goal.loop-i-init
loop-i-init c = c.no_numbers-all.ensures ∙ started c.args.state.now

pub load-r-requires : goal.load-r-requires
load-r-requires c = omega (arith, c.few-n.ensures, few_bound)

pub loop-i-preserved : goal.loop-i-preserved
loop-i-preserved c =
    let ys = c.args.state.now in
    let i = c.loop-i.i in
    c.put-all.ensures ∙ ap (λ all. with_record all i c.load-r.result) c.loop-i.invariant ∙ turned i ys c.load-r.result c.load-r.ensures
    ∙ ap (λ k. loaded k ys) (sym (add-one i))
