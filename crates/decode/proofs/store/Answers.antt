-- Each word is stored after those before it.
use mathlib.Core.Path.{refl}
use mathlib.Core.List.{[], ◌∷◌}
use native.Mathlib.Omega.{arith}
use lib.ListN.{length-set}
use Rattle.lists.proofs.Over.{over_set, over_none}
use Rattle.decode.proofs.store.Goals as goal

pub bounds-words-1 : goal.bounds-words-1
bounds-words-1 c = simp length-set (omega arith)

pub bounds-words-2 : goal.bounds-words-2
bounds-words-2 c = simp length-set (omega arith)

pub returns : goal.returns
returns c =
    let xs = c.args.words.now in
    let r = c.args.row in
    over_set (r.tag ∷ r.a ∷ r.b ∷ []) xs _ 3 _ refl
    (over_set (r.tag ∷ r.a ∷ []) xs _ 2 _ refl
    (over_set (r.tag ∷ []) xs _ 1 _ refl (over_set [] xs _ 0 _ refl (over_none xs) (omega arith)) (omega arith)) (omega arith)) (omega arith)
