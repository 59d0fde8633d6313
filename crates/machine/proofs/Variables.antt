-- An identifier is a variable, or a shared one, by the number of its kind: by cases on the numbers that it is compared with.
use Prim.Native.Nat.{ℕ, ◌<◌}
use mathlib.Core.Path.{◌≡◌, refl, sym, ap, ap₂, ◌∙◌, subst, fun_ext}
use mathlib.Core.List.{List, ◌++◌}
use mathlib.Core.Logic.{◌↔◌}
use mathlib.Core.Bool.{Bool, true, false, not, ◌&&◌, ◌||◌}
use native.Mathlib.Omega.{arith}
use lib.Dec.{T, eqb, eqb→eq}
use borrow.Author.Tests.{eqb-true, ne_eqb}
use Rattle.lists.specs.Choice.{pick}
use Rattle.lists.specs.All.{In}
use Rattle.lists.specs.Below.{numbers, keep}
use Rattle.lists.proofs.Below.{numbers_in, in_numbers, keep_in, in_keep}
use Rattle.lists.proofs.Distinct.{Distinct, pairwise_join, pairwise_keep, rising_distinct}
use Rattle.lists.proofs.Flat.{keep_keep}
use Rattle.table.specs.Names.{is_variable_of}
use Rattle.table.specs.Rows.{Rows, count, named, kind_of}
use Rattle.table.specs.Lookups.{is_variable_number}
use Rattle.table.proofs.Sections.{named_bounds, bounds_named}
use Rattle.formula.proofs.Truth.{eq→eqb, or_right, or_cases}
use Rattle.machine.specs.Machine.{Kind, is_variable, is_shared, constant_kind, abstractVariable, concreteVariable, abstractParameter, concreteParameter, sharedVariable}
use Rattle.machine.specs.Machine.{shared_variables, unshared_variables}
use Rattle.machine.specs.Described.{kind_numbered, variables_of, machine_of}
use Rattle.machine.proofs.Described.{variable_named, named_variable_lem, variables_rise}

-- a kind by the tests that its number meets
abbrev by_tests : Bool → Bool → Bool → Bool → Bool → Kind
by_tests a b c s d =
    pick a constant_kind (pick b abstractVariable (pick c concreteVariable (pick s sharedVariable (pick d abstractParameter concreteParameter))))

-- a number is not also a larger one
differs : (n j k : ℕ) → j < k → eqb n j ≡ true → eqb n k ≡ false
differs n j k l p = ne_eqb n k (omega (arith, eqb-true n j p))

variable_kind_lem : (n : ℕ) → is_variable (kind_numbered n) ≡ (eqb n 2 || (eqb n 3 || eqb n 6))
unfolding kind_numbered
variable_kind_lem n =
    go (eqb n 1) (eqb n 2) (eqb n 3) (eqb n 6) (eqb n 4) (differs n 1 2 (omega arith)) (differs n 1 3 (omega arith)) (differs n 1 6 (omega arith))
  where
    go : (a b c s d : Bool) → (a ≡ true → b ≡ false) → (a ≡ true → c ≡ false) → (a ≡ true → s ≡ false) → is_variable (by_tests a b c s d) ≡ (b || (c || s))
    go true b c s d f g h = sym (ap₂ ◌||◌ (f refl) (ap₂ ◌||◌ (g refl) (h refl)))
    go false true c s d f g h = refl
    go false false true s d f g h = refl
    go false false false true d f g h = refl
    go false false false false true f g h = refl
    go false false false false false f g h = refl

pub shared_kind : (n : ℕ) → is_shared (kind_numbered n) ≡ eqb n 6
unfolding kind_numbered
shared_kind n =
    go (eqb n 1) (eqb n 2) (eqb n 3) (eqb n 6) (eqb n 4) (differs n 1 6 (omega arith)) (differs n 2 6 (omega arith)) (differs n 3 6 (omega arith))
  where
    go : (a b c s d : Bool) → (a ≡ true → s ≡ false) → (b ≡ true → s ≡ false) → (c ≡ true → s ≡ false) → is_shared (by_tests a b c s d) ≡ s
    go true b c s d f g h = sym (f refl)
    go false true c s d f g h = sym (g refl)
    go false false true s d f g h = sym (h refl)
    go false false false true d f g h = refl
    go false false false false true f g h = refl
    go false false false false false f g h = refl

pub is_shared_lem : (K : Kind) → T (is_shared K) → K ≡ sharedVariable
is_shared_lem constant_kind h = absurd h
is_shared_lem abstractVariable h = absurd h
is_shared_lem concreteVariable h = absurd h
is_shared_lem abstractParameter h = absurd h
is_shared_lem concreteParameter h = absurd h
is_shared_lem sharedVariable h = refl

pub variable_numbered : (t : Rows) (x : ℕ) → is_variable ((machine_of t).kind x) ≡ is_variable_number t x
unfolding machine_of
variable_numbered t x = variable_kind_lem (kind_of t x)

module _ (t : Rows) where
  abbrev identifiers : List ℕ
  identifiers = numbers (count t 10) 1

  -- the shared variables are the identifiers of kind 6, the unshared ones those of kind 2
  pub shared_numbered : shared_variables (machine_of t) ≡ keep (λ x. eqb (kind_of t x) 6) identifiers
  unfolding machine_of variables_of
  shared_numbered =
      keep_keep (λ x. is_shared (kind_numbered (kind_of t x))) (λ x. is_variable_of 2 (kind_of t x)) identifiers
      ∙ ap (λ P. keep P identifiers) (fun_ext (λ x.
      ap (λ b. is_variable_of 2 (kind_of t x) && b) (shared_kind (kind_of t x)) ∙ go (eqb (kind_of t x) 2) (eqb (kind_of t x) 6)))
    where
      go : (b s : Bool) → ((b || s) && s) ≡ s
      go true true = refl
      go true false = refl
      go false true = refl
      go false false = refl

  pub unshared_numbered : unshared_variables (machine_of t) ≡ keep (λ x. eqb (kind_of t x) 2) identifiers
  unfolding machine_of variables_of
  unshared_numbered =
      keep_keep (λ x. not (is_shared (kind_numbered (kind_of t x)))) (λ x. is_variable_of 2 (kind_of t x)) identifiers
      ∙ ap (λ P. keep P identifiers) (fun_ext (λ x.
      ap (λ b. is_variable_of 2 (kind_of t x) && not b) (shared_kind (kind_of t x))
      ∙ go (eqb (kind_of t x) 2) (eqb (kind_of t x) 6) (differs (kind_of t x) 2 6 (omega arith))))
    where
      go : (b s : Bool) → (b ≡ true → s ≡ false) → ((b || s) && not s) ≡ b
      go true s f = ap (λ s. not s) (f refl)
      go false true f = refl
      go false false f = refl

  -- an identifier of kind 6 is one of the first, one of kind 2 of the others
  named_of_kind : (k x : ℕ) → T (named t 10 x) → kind_of t x ≡ k → In x (keep (λ x. eqb (kind_of t x) k) identifiers)
  named_of_kind k x n e =
      let b = named_bounds t 10 x n in
      keep_in (λ x. eqb (kind_of t x) k) (numbers_in (count t 10) 1 x b.0 (omega (arith, b.1))) (eq→eqb (kind_of t x) k e)

  pub named_shared : (x : ℕ) → T (named t 10 x) → kind_of t x ≡ 6 → In x (shared_variables (machine_of t))
  named_shared x n e = subst (In x) (sym shared_numbered) (named_of_kind 6 x n e)

  pub named_unshared : (x : ℕ) → T (named t 10 x) → kind_of t x ≡ 2 → In x (unshared_variables (machine_of t))
  named_unshared x n e = subst (In x) (sym unshared_numbered) (named_of_kind 2 x n e)

  -- 02, request 2: "a variable of both machines"
  pub shared_both : (x : ℕ) → In x (shared_variables (machine_of t)) ↔ (In x (machine_of t).abstract_variables × In x (machine_of t).concrete_variables)
  unfolding machine_of
  shared_both x = (both, common)
    where
      both : In x (shared_variables (machine_of t)) → In x (variables_of t 2) × In x (variables_of t 3)
      both i =
          let (j, k) = in_keep (λ x. eqb (kind_of t x) 6) identifiers (subst (In x) shared_numbered i) in
          let r = in_numbers (count t 10) 1 x j in
          let n = bounds_named t 10 x r.0 (omega (arith, r.1)) in
          (named_variable_lem t 2 x n (or_right (eqb (kind_of t x) 2) _ k), named_variable_lem t 3 x n (or_right (eqb (kind_of t x) 3) _ k))

      common : In x (variables_of t 2) × In x (variables_of t 3) → In x (shared_variables (machine_of t))
      common (i, j) =
          let (n, k) = variable_named t 2 x i in
          or_cases (eqb (kind_of t x) 2) (eqb (kind_of t x) 6) k
          (λ p. absurd (or_cases (eqb (kind_of t x) 3) (eqb (kind_of t x) 6) (variable_named t 3 x j).1
          (λ q. omega (arith, eqb→eq (kind_of t x) 2 p, eqb→eq (kind_of t x) 3 q)) (λ q. omega (arith, eqb→eq (kind_of t x) 2 p, eqb→eq (kind_of t x) 6 q))))
          (λ p. named_shared x n (eqb→eq (kind_of t x) 6 p))

  pub unshared_kind : (x : ℕ) → In x (unshared_variables (machine_of t)) → kind_of t x ≡ 2
  unshared_kind x i = eqb→eq (kind_of t x) 2 (in_keep (λ x. eqb (kind_of t x) 2) identifiers (subst (In x) unshared_numbered i)).1

  -- the concrete machine's variables, the shared ones among them, and the unshared ones of the abstract machine: each once
  pub variables_apart : Distinct ((machine_of t).concrete_variables ++ unshared_variables (machine_of t))
  unfolding machine_of
  variables_apart =
      pairwise_join (rising_distinct (variables_rise t 3)) (pairwise_keep _ (rising_distinct (variables_rise t 2))) (λ x y i j e.
      let two : kind_of t x ≡ 2 = ap (kind_of t) e ∙ unshared_kind y j in
      or_cases (eqb (kind_of t x) 3) (eqb (kind_of t x) 6) (variable_named t 3 x i).1
      (λ p. omega (arith, eqb→eq (kind_of t x) 3 p)) (λ p. omega (arith, eqb→eq (kind_of t x) 6 p)))

  pub abstract_distinct : Distinct (machine_of t).abstract_variables
  unfolding machine_of
  abstract_distinct = rising_distinct (variables_rise t 2)
