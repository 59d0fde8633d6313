-- What check 12 gives: an initialisation of either machine, an action of it for each variable of its machine, and a variant where there is a convergent
-- event.
use Prim.Native.Nat.{ℕ, ◌+◌, ◌<◌}
use mathlib.Core.Path.{◌≡◌, refl, subst₂}
use mathlib.Core.Bool.{Bool, true, false, not, ◌&&◌, ◌||◌, true≢false}
use mathlib.Core.Logic.{◌⊎◌, ◌↔◌, inl, inr, ⊎_elim}
use lib.Dec.{T, eqb, eqb→eq, not_T}
use Rattle.lists.specs.Below.{some_below}
use Rattle.lists.proofs.Below.{some_found, some_shown}
use Rattle.formula.proofs.Truth.{eq→eqb, and_join, or_left, or_neither, not_false_test, false_refutes}
use Rattle.table.specs.Names.{is_variable_of}
use Rattle.table.specs.Rows.{Rows, tagged, named, row_of, number_in, machine_number, class_of}
use Rattle.table.proofs.Sections.{named_row, number_of_row}
use Rattle.rules.specs.Sight.{has_variable_kind}
use Rattle.rules.specs.Rules.{initialises, assigned, lacks_action, lacks_witness, event_lacks, of_class, some_of_class, some_variant, lacks_variant, lacks_new_event, missing}
use Rattle.rules.proofs.Obeys.{Obeys}
use Rattle.rules.proofs.Tags.{tagged_test, tags_rising}

-- 02, request 1: "A variant may stand with class 2 or 3 and must stand with class 2."
pub record VariantStands (t : Rows) : Type 0 where
  pub may : T (some_variant t) → T (some_of_class t 2) ⊎ T (some_of_class t 3)
  pub must : T (some_of_class t 2) → T (some_variant t)

-- nothing lacks by the variant exactly where it stands so
pub variant_stands_lem : (t : Rows) → (lacks_variant t || lacks_new_event t) ≡ false ↔ VariantStands t
variant_stands_lem t =
    let k = some_of_class t 2 in
    let n = some_of_class t 3 in
    let v = some_variant t in
    (λ e. record { may = may k n v e; must = must k n v e }, λ s. none k n v s.may s.must)
  where
    may : (k n v : Bool) → ((k && not v) || (v && not (k || n))) ≡ false → T v → T k ⊎ T n
    may true n v e p = inl tt
    may false true v e p = inr tt
    may false false true e p = absurd (true≢false e)
    may false false false e p = absurd p

    must : (k n v : Bool) → ((k && not v) || (v && not (k || n))) ≡ false → T k → T v
    must true n true e p = tt
    must true n false e p = absurd (true≢false e)
    must false n v e p = absurd p

    none : (k n v : Bool) → (T v → T k ⊎ T n) → (T k → T v) → ((k && not v) || (v && not (k || n))) ≡ false
    none true n true a b = refl
    none true n false a b = absurd (b tt)
    none false true true a b = refl
    none false true false a b = refl
    none false false false a b = refl
    none false false true a b = ⊎_elim (λ f. absurd f) (λ f. absurd f) (a tt)

-- the parts of the check
pub record NothingMissing (t : Rows) : Type 0 where
  pub abstract_initialised : T (some_below (initialises t 1) t.size)
  pub concrete_initialised : T (some_below (initialises t 2) t.size)
  pub nothing_lacking : some_below (event_lacks t) t.size ≡ false
  pub variant_stands : VariantStands t

module _ (t : Rows) (ok : Obeys t) where
  abbrev some : (ℕ → Bool) → Bool
  some P = some_below P t.size

  pub nothing_missing : NothingMissing t
  unfolding missing
  nothing_missing =
      let p = or_neither (not (some (initialises t 1))) _ ok.present in
      let q = or_neither (not (some (initialises t 2))) _ p.1 in
      let r = or_neither (some (event_lacks t)) _ q.1 in
      record {
        abstract_initialised = not_false_test (some (initialises t 1)) p.0;
        concrete_initialised = not_false_test (some (initialises t 2)) q.0;
        nothing_lacking = r.0;
        variant_stands = (variant_stands_lem t).0 r.1;
      }

  -- "an initial action for a variable"
  pub initial_action : (e x : ℕ) → T (named t 40 e) → class_of t e ≡ 0 → T (named t 10 x) → T (has_variable_kind t (1 + machine_number t e) x) → T (assigned t e x)
  initial_action e x n c m k =
      let up = tags_rising t ok in
      let i = row_of t 40 e in
      let j = row_of t 10 x in
      let p = named_row t up 40 e n in
      let q = named_row t up 10 x m in
      let at = assigned t (number_in t 40 i) (number_in t 10 j) in
      let wanted = and_join (eqb (t.b i) 0) (is_variable_of (1 + t.a i) (t.a j)) (eq→eqb (t.b i) 0 c) k in
      let lacks : T (not at) → ⊥ = λ f.
      false_refutes (some (event_lacks t)) nothing_missing.nothing_lacking
      (some_shown (event_lacks t) t.size i p.0
      (and_join (tagged t 40 i) (some_below (λ j. tagged t 10 j && (lacks_action t i j || lacks_witness t i j)) t.size) (tagged_test t 40 i p.1)
      (some_shown (λ j. tagged t 10 j && (lacks_action t i j || lacks_witness t i j)) t.size j q.0
      (and_join (tagged t 10 j) (lacks_action t i j || lacks_witness t i j) (tagged_test t 10 j q.1)
      (or_left (lacks_action t i j) (lacks_witness t i j) (and_join (eqb (t.b i) 0 && is_variable_of (1 + t.a i) (t.a j)) (not at) wanted f)))))) in
      subst₂ (λ e x. T (assigned t e x)) (number_of_row t up 40 e n) (number_of_row t up 10 x m) (twice_not at (not_T (not at) lacks))
    where
      twice_not : (b : Bool) → T (not (not b)) → T b
      twice_not true h = tt
      twice_not false h = h

  -- an event shows its class
  class_shown : (e class : ℕ) → T (named t 40 e) → class_of t e ≡ class → T (some_of_class t class)
  class_shown e class n c =
      let i = row_of t 40 e in
      let p = named_row t (tags_rising t ok) 40 e n in
      some_shown (of_class t class) t.size i p.0 (and_join (tagged t 40 i) (eqb (t.b i) class) (tagged_test t 40 i p.1) (eq→eqb (t.b i) class c))

  -- a variant "must stand with class 2"
  pub convergent_variant_lem : (e : ℕ) → T (named t 40 e) → class_of t e ≡ 2 → (i : ℕ) × (i < t.size) × (t.tag i ≡ 70)
  convergent_variant_lem e n c =
      let r = some_found (tagged t 70) t.size (nothing_missing.variant_stands.must (class_shown e 2 n c)) in
      (r.0, r.1, eqb→eq (t.tag r.0) 70 r.2)
