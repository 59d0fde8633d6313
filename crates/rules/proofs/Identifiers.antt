-- What check 6 gives of an identifier: its kind is one of the six and its type one of the two, and a parameter belongs to an event of its machine that is no initialisation.
use Prim.Native.Nat.{ℕ, ◌+◌, ◌≤◌}
use mathlib.Core.Path.{◌≡◌, subst, subst₂, ◌∙◌}
use mathlib.Core.Bool.{Bool, not, ◌&&◌, ◌||◌}
use native.Mathlib.Omega.{arith}
use lib.Dec.{T, leb, eqb, leb→le, eqb→eq}
use borrow.Author.Tests.{ne_eqb}
use Rattle.lists.specs.Choice.{pick}
use Rattle.lists.proofs.Choice.{not_chosen}
use Rattle.formula.proofs.Truth.{and_split, or_cases, rule_met}
use Rattle.table.specs.Rows.{Rows, tagged, named, row_of, kind_of, type_of, owner_of, machine_number, class_of}
use Rattle.table.proofs.Sections.{named_row}
use Rattle.rules.specs.Sight.{has_kind, own_parameter}
use Rattle.rules.specs.Rules.{owner_event, good_owner, identifier_offends}
use Rattle.rules.proofs.Obeys.{Obeys}
use Rattle.rules.proofs.Tags.{tagged_test, tags_rising}

-- 01: "type: 1 integer, 2 boolean", of types and of the sorts that are types
abbrev pub is_type : ℕ → Bool
is_type s = eqb s 1 || eqb s 2

-- 01: "kind: 1 constant .. 5 concrete parameter"; 02, request 2: 6
abbrev is_kind : ℕ → Bool
is_kind k = leb 1 k && leb k 6

module _ (t : Rows) (ok : Obeys t) where
  identifier_row : (x : ℕ) → T (named t 10 x) → T (is_kind (kind_of t x)) × T (is_type (type_of t x)) × T (good_owner t (row_of t 10 x))
  unfolding identifier_offends
  identifier_row x h =
      let i = row_of t 10 x in
      let r = named_row t (tags_rising t ok) 10 x h in
      let rest = is_type (t.b i) && good_owner t i in
      let s = and_split (is_kind (t.a i)) rest (rule_met (tagged t 10 i) (is_kind (t.a i) && rest) (ok.identifiers i r.0) (tagged_test t 10 i r.1)) in
      let u = and_split (is_type (t.b i)) (good_owner t i) s.1 in
      (s.0, u.0, u.1)

  pub identifier_kind : (x : ℕ) → T (named t 10 x) → (1 ≤ kind_of t x) × (kind_of t x ≤ 6)
  identifier_kind x h =
      let s = and_split (leb 1 (kind_of t x)) (leb (kind_of t x) 6) (identifier_row x h).0 in
      (leb→le 1 (kind_of t x) s.0, leb→le (kind_of t x) 6 s.1)

  pub identifier_type : (x : ℕ) → T (named t 10 x) → T (is_type (type_of t x))
  identifier_type x h = (identifier_row x h).1

  abbrev owner_test : ℕ → ℕ → Bool
  owner_test kind e =
      pick (eqb kind 4) (owner_event t 1 e) (pick (eqb kind 5) (owner_event t 2 e) (eqb e 0))

  -- an identifier that is no parameter has owner 0
  pub unowned : (x : ℕ) → T (named t 10 x) → (kind_of t x ≡ 4 → ⊥) → (kind_of t x ≡ 5 → ⊥) → owner_of t x ≡ 0
  unowned x h p q =
      eqb→eq (owner_of t x) 0
      (subst T (not_chosen (eqb (kind_of t x) 4) _ _ (ne_eqb (kind_of t x) 4 p) ∙ not_chosen (eqb (kind_of t x) 5) _ _ (ne_eqb (kind_of t x) 5 q)) (identifier_row x h).2)

  -- "owner: own machine, class not 0": a parameter of an event has the kind of the event's machine, and the event is no initialisation
  pub parameter_owner : (e x : ℕ) → T (named t 10 x) → T (own_parameter t e x) → (kind_of t x ≡ 3 + machine_number t e) × T (not (eqb (class_of t e) 0))
  parameter_owner e x h p =
      let s = and_split (has_kind t 4 x || has_kind t 5 x) (eqb (owner_of t x) e) p in
      let o = eqb→eq (owner_of t x) e s.1 in
      or_cases (has_kind t 4 x) (has_kind t 5 x) s.0
      (λ k. let q = eqb→eq (kind_of t x) 4 k in owned 1 q (owner 4 q o))
      (λ k. let q = eqb→eq (kind_of t x) 5 k in owned 2 q (owner 5 q o))
    where
      owner : (kind : ℕ) → kind_of t x ≡ kind → owner_of t x ≡ e → T (owner_test kind e)
      owner kind q o = subst₂ (λ k f. T (owner_test k f)) q o (identifier_row x h).2

      owned : (machine : ℕ) → kind_of t x ≡ 3 + machine → T (owner_event t machine e) → (kind_of t x ≡ 3 + machine_number t e) × T (not (eqb (class_of t e) 0))
      owned machine q r =
          let initial = not (eqb (class_of t e) 0) in
          let u = and_split (eqb (machine_number t e) machine) initial (and_split (named t 40 e) (eqb (machine_number t e) machine && initial) r).1 in
          (omega (arith, eqb→eq (machine_number t e) machine u.0), u.1)
