-- 02, requests 5 and 8: the terms that reading a formula meets, in order, "no term met leaves signed 64 bits", and the first fault in this order.
use Rattle.std.specs.Prelude.{◌≡◌, false, List, [], ◌∷◌, ◌++◌, ℕ, T, ℤ}
use Rattle.std.proofs.Math.Option.{Option, none, some}
use Rattle.lists.specs.Choice.{pick}
use Rattle.lists.specs.All.{In, First}
use Rattle.formula.specs.Values.{ValueType, AnyValue, number, as_truth}
use Rattle.formula.specs.Tree.{Connective, Tree, constant, identifier, after, unary, binary, division, connective}
use Rattle.formula.specs.Evaluate.{Env, read_tree, reads_right}
use Rattle.answer.specs.Answer.{Answer, value, outside, undefined, fits, fits_value}

-- of the terms of a right side, those that are met beside a left side that is read so: "∧ and ⇒ read their right side only where the left is true, ∨ only where it is false"
abbrev pub where_read : Connective → Option AnyValue → List Tree → List Tree
where_read o none ts = []
where_read o (some v) ts = pick (reads_right o (as_truth v)) ts []

module _ {type : ℕ → ValueType} (ρ : Env type) where
  -- "read the spelled rows from the left", "operands before their operator"
  unfoldable pub terms : Tree → List Tree
  terms (constant c) = constant c ∷ []
  terms (identifier x) = identifier x ∷ []
  terms (after x) = after x ∷ []
  terms (unary o t) = terms t ++ (unary o t ∷ [])
  terms (binary o t u) = terms t ++ (terms u ++ (binary o t u ∷ []))
  terms (division o t u) = terms t ++ (terms u ++ (division o t u ∷ []))
  terms (connective o t u) = terms t ++ (where_read o (read_tree ρ t) (terms u) ++ (connective o t u ∷ []))

  -- no term met leaves 64 bits: each has a number that fits, if its value is a number
  abbrev pub NoneLeaves : Tree → Type 0
  NoneLeaves t = (u : Tree) (z : ℤ) → In u (terms t) → read_tree ρ u ≡ some (number z) → T (fits z)

  -- a term that has a value, which is in 64 bits
  abbrev pub Fine : Tree → Type 0
  Fine t = (v : AnyValue) × (read_tree ρ t ≡ some v) × T (fits_value v)

  -- "16 marks an evaluated term outside 64 bits and 17 an undefined one"
  abbrev pub TermFault : Tree → Answer → Type 0
  TermFault t (value v) = ⊥
  TermFault t outside = (z : ℤ) × (read_tree ρ t ≡ some (number z)) × (fits z ≡ false)
  TermFault t undefined = read_tree ρ t ≡ none

  -- "first fault in this order": all terms before it are fine, its operands among them, so the fault is its own
  abbrev pub FirstFault : Tree → Answer → Type 0
  FirstFault t a = First Fine TermFault (terms t) a

  -- what an answer says of a formula
  abbrev pub Says : Tree → Answer → Type 0
  Says t (value v) = (read_tree ρ t ≡ some v) × NoneLeaves t
  Says t outside = FirstFault t outside
  Says t undefined = FirstFault t undefined
