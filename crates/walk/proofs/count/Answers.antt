-- The search passes over the whole list, and what it passed is the count (Counts).
use mathlib.Core.Path.{◌≡◌, sym, ap, ◌∙◌, subst}
use mathlib.Core.Logic.{inl}
use native.Mathlib.Omega.{arith}
use Rattle.table.specs.Rows.{rows_of}
use Rattle.walk.specs.Slots.{InWalk, position, SoughtSlot}
use Rattle.rules.proofs.Obeys.{passes_obeys}
use Rattle.walk.proofs.Find.{walk_count_lem}
use Rattle.walk.proofs.Counts.{count_small, start_within, start_position, passed_all}
use Rattle.walk.proofs.count.Goals as goal

pub seek-end-requires : goal.seek-end-requires
seek-end-requires c = let t = rows_of c.args.index.now.table.words.now in
    subst (InWalk t) (sym c.start.ensures) (inl (start_within t 4294967296))

pub overflow_sub-result : goal.overflow_sub-result
overflow_sub-result c =
    let t = rows_of c.args.index.now.table.words.now in
    let at : position t c.start.result ≡ 4294967296 = ap (position t) c.start.ensures ∙ start_position t 4294967296 in
    omega (arith, passed_all t 4294967296 c.seek-end.result (count_small t (omega (arith, c.requires.table_value))) (subst (λ k. SoughtSlot t k c.seek-end.result) at c.seek-end.ensures))

pub returns : goal.returns
returns c =
    let t = rows_of c.args.index.now.table.words.now in
    let at : position t c.start.result ≡ 4294967296 = ap (position t) c.start.ensures ∙ start_position t 4294967296 in
    omega (arith, walk_count_lem t (passes_obeys t c.requires.passes), passed_all t 4294967296 c.seek-end.result (count_small t (omega (arith, c.requires.table_value))) (subst (λ k. SoughtSlot t k c.seek-end.result) at c.seek-end.ensures))
