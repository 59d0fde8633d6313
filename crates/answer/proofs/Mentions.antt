-- A formula's answer turns only on what it mentions: environments that agree there give it one answer, by induction on the tree.
use mathlib.Core.Path.{◌≡◌, refl, ap, ap₂}
use mathlib.Core.Bool.{Bool}
use Prim.Native.Nat.{ℕ}
use lib.Dec.{T}
use Rattle.formula.specs.Values.{ValueType, wrap}
use Rattle.formula.specs.Tree.{Tree, constant, identifier, after, unary, binary, division, connective}
use Rattle.formula.specs.Evaluate.{Env}
use Rattle.formula.specs.Mentions.{mentions}
use Rattle.formula.proofs.Truth.{and_split}
use Rattle.formula.proofs.Mentions.{Agree}
use Rattle.answer.specs.Answer.{within, binary_answer, division_answer, connective_answer, unary_answer, answer}

module _ {type : ℕ → ValueType} {P Q : ℕ → Bool} (ρ σ : Env type) (h : Agree P Q ρ σ) where
  pub answer_agree : (t : Tree) → T (mentions P Q t) → answer ρ t ≡ answer σ t
  unfolding answer mentions
  answer_agree (constant c) s = refl
  answer_agree (identifier x) s = ap (λ v. within (wrap (type x) v)) (h.present x s)
  answer_agree (after x) s = ap (λ v. within (wrap (type x) v)) (h.after x s)
  answer_agree (unary o t) s = ap (unary_answer o) (answer_agree t s)
  answer_agree (binary o t u) s =
      let p = and_split (mentions P Q t) (mentions P Q u) s in ap₂ (binary_answer o) (answer_agree t p.0) (answer_agree u p.1)
  answer_agree (division o t u) s =
      let p = and_split (mentions P Q t) (mentions P Q u) s in ap₂ (division_answer o) (answer_agree t p.0) (answer_agree u p.1)
  answer_agree (connective o t u) s =
      let p = and_split (mentions P Q t) (mentions P Q u) s in ap₂ (connective_answer o) (answer_agree t p.0) (answer_agree u p.1)
