-- 02, requests 5 and 8: what an answer says. It is a value exactly where reading in order gives that value and every term met is fine, and a fault exactly where that is the
-- first fault of the terms met, in order. By induction on the tree: an operand's fault is the first of what the operator meets, and where the operands are fine the operator's
-- own term is the last that is met. One of these holds at most, so the answer is what holds.
use mathlib.Core.Path.{◌≡◌, refl, sym, ap, ap₂, ◌∙◌, subst}
use mathlib.Core.Bool.{Bool, true, false, true≢false}
use mathlib.Core.List.{List, [], ◌∷◌, ◌++◌}
use mathlib.Core.Option.{Option, none, some, map, some-injective, none-ne-some}
use mathlib.Core.Logic.{◌↔◌}
use Prim.Native.Nat.{ℕ}
use lib.Dec.{T}
use lib.IntN.{ℤ}
use Rattle.lists.specs.Choice.{pick}
use Rattle.lists.specs.All.{All, all_nil, all_cons, In, First, fault_here}
use Rattle.lists.proofs.All.{all_at, all_in, all_join, first_left, first_right, first_in, first_not_fine, first_one}
use Rattle.formula.specs.Values.{ValueType, AnyValue, number, truth, wrap, as_truth}
use Rattle.formula.specs.Tree.{Connective, Tree, constant, identifier, after, unary, binary, division, connective}
use Rattle.formula.specs.Evaluate.{Env, read_tree, constant_value, unary_value, binary_value, division_defined, division_value, connective_value, reads_right}
use Rattle.formula.specs.Evaluate.{and_then, read_division, read_connective}
use Rattle.formula.proofs.Truth.{test_true, true_test}
use Rattle.answer.specs.Answer.{Answer, value, outside, undefined, fits, fits_value, within, value_then, operands, always}
use Rattle.answer.specs.Answer.{binary_answer, division_answer, right_of, connective_answer, unary_answer, answer}
use Rattle.answer.specs.Met.{where_read, terms, NoneLeaves, Fine, TermFault, FirstFault, Says}

module _ {type : ℕ → ValueType} (ρ : Env type) where
  -- ---- what an answer says of a term, by the terms that are met with it
  abbrev SaysOf : List Tree → Tree → Answer → Type 0
  SaysOf ts t (value v) = (read_tree ρ t ≡ some v) × All (Fine ρ) ts
  SaysOf ts t outside = First (Fine ρ) (TermFault ρ) ts outside
  SaysOf ts t undefined = First (Fine ρ) (TermFault ρ) ts undefined

  abbrev SaysFine : Tree → Answer → Type 0
  SaysFine t a = SaysOf (terms ρ t) t a

  -- terms that are met before, and are fine
  says_later : {ts : List Tree} (us : List Tree) (t : Tree) (a : Answer) → All (Fine ρ) ts → SaysOf us t a → SaysOf (ts ++ us) t a
  says_later us t (value v) h (r, k) = (r, all_join h k)
  says_later us t outside h s = first_right h s
  says_later us t undefined h s = first_right h s

  -- an operand's fault, or what follows from its value
  says_then : (t n : Tree) (us : List Tree) (a : Answer) (f : AnyValue → Answer) → SaysFine t a → ((v : AnyValue) → read_tree ρ t ≡ some v → SaysOf us n (f v))
      → SaysOf (terms ρ t ++ us) n (value_then a f)
  says_then t n us (value v) f (r, h) k = says_later us n (f v) h (k v r)
  says_then t n us outside f s k = first_left us s
  says_then t n us undefined f s k = first_left us s

  -- ---- a term by itself
  says_within : (t : Tree) (v : AnyValue) → read_tree ρ t ≡ some v → SaysOf (t ∷ []) t (within v)
  unfolding within
  says_within t (truth b) r = (r, all_cons (truth b, r, tt) all_nil)
  says_within t (number z) r = go (fits z) refl
    where
      go : (b : Bool) → fits z ≡ b → SaysOf (t ∷ []) t (pick b (value (number z)) outside)
      go true h = (r, all_cons (number z, r, true_test (fits z) h) all_nil)
      go false h = fault_here {n = outside} (z, r, h)

  says_defined : (t : Tree) (d : Bool) (v : AnyValue) → read_tree ρ t ≡ pick d (some v) none → SaysOf (t ∷ []) t (pick d (within v) undefined)
  says_defined t true v r = says_within t v r
  says_defined t false v r = fault_here {n = undefined} r

  -- ---- two operands
  says_operands : (t u n : Tree) (defined : AnyValue → AnyValue → Bool) (f : AnyValue → AnyValue → AnyValue) (a b : Answer) → SaysFine t a → SaysFine u b
      → ((v w : AnyValue) → read_tree ρ t ≡ some v → read_tree ρ u ≡ some w → read_tree ρ n ≡ pick (defined v w) (some (f v w)) none)
      → SaysOf (terms ρ t ++ (terms ρ u ++ (n ∷ []))) n (operands defined f a b)
  unfolding operands
  says_operands t u n defined f a b s q k =
      says_then t n (terms ρ u ++ (n ∷ [])) a (λ v. value_then b (λ w. pick (defined v w) (within (f v w)) undefined)) s
      (λ v r. says_then u n (n ∷ []) b (λ w. pick (defined v w) (within (f v w)) undefined) q (λ w p. says_defined n (defined v w) (f v w) (k v w r p)))

  -- a right side, where it is read and where it isn't
  says_right : (o : Connective) (v : AnyValue) (u n : Tree) (b : Answer) → SaysFine u b → read_tree ρ n ≡ read_connective o v (read_tree ρ u)
      → SaysOf (where_read o (some v) (terms ρ u) ++ (n ∷ [])) n (right_of o v b)
  says_right o v u n b q r = go (reads_right o (as_truth v)) r
    where
      joined : AnyValue → AnyValue
      joined w = truth (connective_value o (as_truth v) (as_truth w))

      decided : AnyValue
      decided = truth (connective_value o (as_truth v) false)

      go : (d : Bool) → read_tree ρ n ≡ pick d (map joined (read_tree ρ u)) (some decided)
          → SaysOf (pick d (terms ρ u) [] ++ (n ∷ [])) n (pick d (value_then b (λ w. value (joined w))) (value decided))
      go true r = says_then u n (n ∷ []) b (λ w. value (joined w)) q (λ w p. let is = r ∙ ap (map joined) p in (is, all_cons (joined w, is, tt) all_nil))
      go false r = (r, all_cons (decided, r, tt) all_nil)

  -- ---- a formula
  answer_says : (t : Tree) → SaysFine t (answer ρ t)
  unfolding answer terms read_tree unary_answer binary_answer division_answer connective_answer
  answer_says (constant c) = says_within (constant c) (constant_value c) refl
  answer_says (identifier x) = says_within (identifier x) (wrap (type x) (ρ.present x)) refl
  answer_says (after x) = says_within (after x) (wrap (type x) (ρ.after x)) refl
  answer_says (unary o t) =
      says_then t (unary o t) (unary o t ∷ []) (answer ρ t) (λ v. within (unary_value o v)) (answer_says t)
      (λ v r. says_within (unary o t) (unary_value o v) (ap (map (unary_value o)) r))
  answer_says (binary o t u) =
      says_operands t u (binary o t u) always (binary_value o) (answer ρ t) (answer ρ u) (answer_says t) (answer_says u)
      (λ v w r p. ap₂ (λ a b. and_then a (λ v. map (binary_value o v) b)) r p)
  answer_says (division o t u) =
      says_operands t u (division o t u) (division_defined o) (division_value o) (answer ρ t) (answer ρ u) (answer_says t) (answer_says u)
      (λ v w r p. ap₂ (λ a b. and_then a (λ v. and_then b (read_division o v))) r p)
  answer_says (connective o t u) =
      let n = connective o t u in
      says_then t n (where_read o (read_tree ρ t) (terms ρ u) ++ (n ∷ [])) (answer ρ t) (λ v. right_of o v (answer ρ u)) (answer_says t)
      (λ v r. subst (λ x. SaysOf (where_read o x (terms ρ u) ++ (n ∷ [])) n (right_of o v (answer ρ u))) (sym r)
      (says_right o v u n (answer ρ u) (answer_says u) (ap (λ x. and_then x (λ v. read_connective o v (read_tree ρ u))) r)))

  -- ---- only one answer says what holds
  fine_not_faulty : (t : Tree) (a : Answer) → Fine ρ t → TermFault ρ t a → ⊥
  fine_not_faulty t (value w) f g = g
  fine_not_faulty t outside (v, r, h) (z, q, g) =
      let is = some-injective v (number z) (sym r ∙ q) in true≢false (sym (test_true (fits z) (subst (λ v. T (fits_value v)) is h)) ∙ g)
  fine_not_faulty t undefined (v, r, h) q = none-ne-some v (sym q ∙ r)

  one_fault : (t : Tree) (a b : Answer) → TermFault ρ t a → TermFault ρ t b → a ≡ b
  one_fault t (value v) b f g = absurd f
  one_fault t outside (value v) f g = absurd g
  one_fault t outside outside f g = refl
  one_fault t outside undefined (z, r, h) q = absurd (none-ne-some (number z) (sym q ∙ r))
  one_fault t undefined (value v) f g = absurd g
  one_fault t undefined outside q (z, r, h) = absurd (none-ne-some (number z) (sym q ∙ r))
  one_fault t undefined undefined f g = refl

  says_one : (t : Tree) (a b : Answer) → SaysFine t a → SaysFine t b → a ≡ b
  says_one t (value v) (value w) (r, h) (q, k) = ap value (some-injective v w (sym r ∙ q))
  says_one t (value v) outside (r, h) f = absurd (first_not_fine fine_not_faulty h f)
  says_one t (value v) undefined (r, h) f = absurd (first_not_fine fine_not_faulty h f)
  says_one t outside (value w) f (r, h) = absurd (first_not_fine fine_not_faulty h f)
  says_one t outside outside f g = refl
  says_one t outside undefined f g = first_one fine_not_faulty one_fault f g
  says_one t undefined (value w) f (r, h) = absurd (first_not_fine fine_not_faulty h f)
  says_one t undefined outside f g = first_one fine_not_faulty one_fault f g
  says_one t undefined undefined f g = refl

  answer_fine : (t : Tree) (a : Answer) → (answer ρ t ≡ a) ↔ SaysFine t a
  answer_fine t a = (λ e. subst (SaysFine t) e (answer_says t), λ s. says_one t (answer ρ t) a (answer_says t) s)

  -- ---- where reading gives a value, so does it of every term that is met
  abbrev Read : Tree → Type 0
  Read t = (v : AnyValue) × (read_tree ρ t ≡ some v)

  -- from a value that was read
  read_then : (r : Option AnyValue) (f : AnyValue → Option AnyValue) (v : AnyValue) → and_then r f ≡ some v → (a : AnyValue) × (r ≡ some a) × (f a ≡ some v)
  read_then none f v e = absurd (none-ne-some v e)
  read_then (some a) f v e = (a, refl, e)

  read_map : (f : AnyValue → AnyValue) (r : Option AnyValue) (v : AnyValue) → map f r ≡ some v → (a : AnyValue) × (r ≡ some a)
  read_map f none v e = absurd (none-ne-some v e)
  read_map f (some a) v e = (a, refl)

  -- what a right side is read from
  read_right : (o : Connective) (a v : AnyValue) (u : Tree) → read_connective o a (read_tree ρ u) ≡ some v → ((b : AnyValue) → read_tree ρ u ≡ some b → All Read (terms ρ u))
      → All Read (where_read o (some a) (terms ρ u))
  read_right o a v u e k = go (reads_right o (as_truth a)) e
    where
      go : (d : Bool) → pick d (map (λ w. truth (connective_value o (as_truth a) (as_truth w))) (read_tree ρ u)) (some (truth (connective_value o (as_truth a) false))) ≡ some v
          → All Read (pick d (terms ρ u) [])
      go true e = let p = read_map (λ w. truth (connective_value o (as_truth a) (as_truth w))) (read_tree ρ u) v e in k p.0 p.1
      go false e = all_nil

  read_terms : (t : Tree) (v : AnyValue) → read_tree ρ t ≡ some v → All Read (terms ρ t)
  unfolding terms read_tree
  read_terms (constant c) v e = all_cons (v, e) all_nil
  read_terms (identifier x) v e = all_cons (v, e) all_nil
  read_terms (after x) v e = all_cons (v, e) all_nil
  read_terms (unary o t) v e = let (a, r) = read_map (unary_value o) (read_tree ρ t) v e in all_join (read_terms t a r) (all_cons (v, e) all_nil)
  read_terms (binary o t u) v e =
      let (a, r, f) = read_then (read_tree ρ t) (λ v. map (binary_value o v) (read_tree ρ u)) v e in
      let (b, q) = read_map (binary_value o a) (read_tree ρ u) v f in
      all_join (read_terms t a r) (all_join (read_terms u b q) (all_cons (v, e) all_nil))
  read_terms (division o t u) v e =
      let (a, r, f) = read_then (read_tree ρ t) (λ v. and_then (read_tree ρ u) (read_division o v)) v e in
      let (b, q, g) = read_then (read_tree ρ u) (read_division o a) v f in
      all_join (read_terms t a r) (all_join (read_terms u b q) (all_cons (v, e) all_nil))
  read_terms (connective o t u) v e =
      let (a, r, f) = read_then (read_tree ρ t) (λ v. read_connective o v (read_tree ρ u)) v e in
      all_join (read_terms t a r) (all_join
      (subst (λ x. All Read (where_read o x (terms ρ u))) (sym r) (read_right o a v u f (λ b q. read_terms u b q))) (all_cons (v, e) all_nil))

  -- ---- a value is read, and no term met leaves 64 bits
  pub answer_reads : (t : Tree) (v : AnyValue) → answer ρ t ≡ value v → (read_tree ρ t ≡ some v) × NoneLeaves ρ t
  answer_reads t v e =
      let (r, h) = (answer_fine t (value v)).0 e in
      (r, λ u z i q. let (w, p, k) = all_at h i in subst (λ w. T (fits_value w)) (some-injective w (number z) (sym p ∙ q)) k)

  pub reads_answer : (t : Tree) (v : AnyValue) → read_tree ρ t ≡ some v → NoneLeaves ρ t → answer ρ t ≡ value v
  reads_answer t v r h =
      let read = read_terms t v r in
      (answer_fine t (value v)).1 (r, all_in (terms ρ t) (λ u i. let (w, p) = all_at read i in (w, p, fits_read w (λ z q. h u z i (p ∙ q)))))
    where
      fits_read : (w : AnyValue) → ((z : ℤ) → some w ≡ some (number z) → T (fits z)) → T (fits_value w)
      fits_read (number z) k = k z refl
      fits_read (truth b) k = tt

  -- ---- the answer is what holds
  pub answer_exact : (t : Tree) (a : Answer) → (answer ρ t ≡ a) ↔ Says ρ t a
  answer_exact t (value v) = (answer_reads t v, λ (r, h). reads_answer t v r h)
  answer_exact t outside = answer_fine t outside
  answer_exact t undefined = answer_fine t undefined

  -- ---- a fault: a term met leaves 64 bits, or reading in order reaches an undefined term
  abbrev pub SomeLeaves : Tree → Type 0
  SomeLeaves t = (u : Tree) × (z : ℤ) × In u (terms ρ t) × (read_tree ρ u ≡ some (number z)) × (fits z ≡ false)

  pub first_outside : (t : Tree) → FirstFault ρ t outside → SomeLeaves t
  first_outside t f = let (u, i, (z, r, h)) = first_in f in (u, z, i, r, h)

  pub first_undefined : (t : Tree) → FirstFault ρ t undefined → read_tree ρ t ≡ none
  first_undefined t f = go (read_tree ρ t) refl
    where
      go : (r : Option AnyValue) → read_tree ρ t ≡ r → r ≡ none
      go none e = refl
      go (some v) e = let (u, i, q) = first_in f in let (w, p) = all_at (read_terms t v e) i in absurd (none-ne-some w (sym q ∙ p))
