-- The 25 sequents of the worked table are valid. They follow from one to
-- three of their hypotheses, by putting equals for equals, and those of the variant and of u ≤ N by the order of the whole numbers.
use Prim.Native.Nat.{ℕ, zero, suc}
use mathlib.Core.Path.{◌≡◌, refl, sym, ap, ◌∙◌, subst, subst⁻¹}
use mathlib.Core.Bool.{Bool, true, false, not}
use native.Mathlib.Omega.{arith}
use lib.Dec.{T, eqb-suc-zero}
use lib.IntN.{ℤ, pos, negsuc, suc_ℤ, ◌+ℤ◌, ◌-ℤ◌, -ℤ-+ℤ_cancel, +ℤ_idl, +ℤ_one}
use Rattle.lists.specs.All.{All, all_nil, all_cons}
use Rattle.lists.specs.Below.{count_below}
use Rattle.lists.specs.Choice.{pick}
use Rattle.lists.proofs.All.{all_head, all_tail, all_join}
use Rattle.table.specs.Rows.{start}
use Rattle.formula.specs.Values.{ValueType, integer, boolean, Value, AnyValue, number, truth, wrap, as_number, as_value, equal_value, at_mostℤ, lessℤ}
use Rattle.formula.specs.Tree.{literal, FALSE, equal, at_most, quotient, remainder, constant, identifier, after, binary}
use Rattle.formula.specs.Evaluate.{Env, evaluate, division_defined, division_value, total_division}
use Rattle.formula.specs.Formula.{Formula, some_value, some_after_value, Holds}
use Rattle.formula.proofs.Values.{equal_value_eq, eq_equal_value}
use Rattle.formula.proofs.Truth.{and_join}
use Rattle.formula.proofs.Division.{remainder_from_zero}
use Rattle.formula.proofs.Order.{at_most_gap, gap_at_most, suc_less, less_at_most, at_most_refl, at_most_trans}
use Rattle.formula.proofs.Override.{override_same, override_other}
use Rattle.machine.specs.Operator.{operator_numbered}
use Rattle.machine.specs.Described.{tree_to, tree_of, machine_of}
use Rattle.sequent.specs.Entry.{Entry, written, primed, defined, moves, feasible, witnessed, natural, decreases, not_increased, unchanged, formula}
use Rattle.sequent.specs.Sequent.{Meets, Valid}
use Rattle.sequent.specs.Listed.{sequents}
use Rattle.worked.proofs.Decoded.{words}
use Rattle.worked.proofs.Listed.{worked, listed, list1, list2, list3, list4, list5, list6}
use Rattle.worked.proofs.Formulas as f

-- Equals for equals, of any values.
equal_for : (P : AnyValue → Type 0) (v w : AnyValue) → T (equal_value v w) → P w → P v
equal_for P v w e h = subst P (sym (equal_value_eq v w e)) h

not_negative_from : (v w : AnyValue) → T (equal_value v w) → T (at_mostℤ (pos 0) (as_number w)) → T (at_mostℤ (pos 0) (as_number v))
not_negative_from = equal_for (λ z. T (at_mostℤ (pos 0) (as_number z)))

at_most_from : (v w n : AnyValue) → T (equal_value v w) → T (at_mostℤ (as_number w) (as_number n)) → T (at_mostℤ (as_number v) (as_number n))
at_most_from v w n = equal_for (λ z. T (at_mostℤ (as_number z) (as_number n))) v w

nonzero_from : (v w : AnyValue) → T (equal_value v w) → T (not (equal_value w (number (pos 0)))) → T (not (equal_value v (number (pos 0))))
nonzero_from = equal_for (λ z. T (not (equal_value z (number (pos 0)))))

above_nonzero : (v : AnyValue) → T (not (at_mostℤ (as_number v) (pos 0))) → T (not (equal_value v (number (pos 0))))
above_nonzero (number (pos zero)) h = absurd h
above_nonzero (number (pos (suc n))) h = rw (eqb-suc-zero n) tt
above_nonzero (number (negsuc n)) h = tt
above_nonzero (truth b) h = tt

-- a remainder of a number from 0 on is one, also where sequents read it as 0
remainder_natural : (a p : AnyValue) → T (at_mostℤ (pos 0) (as_number a)) → T (at_mostℤ (pos 0) (as_number (total_division remainder a p)))
remainder_natural a p h = go (division_defined remainder a p)
  where
    go : (d : Bool) → T (at_mostℤ (pos 0) (as_number (pick d (division_value remainder a p) (number (pos 0)))))
    go true = remainder_from_zero (as_number a) (as_number p) h
    go false = tt

-- from q = p: what holds of a ÷ p holds of a ÷ q
quotient_from : (a q p : AnyValue) → T (equal_value q p) → T (at_mostℤ (pos 0) (as_number (total_division quotient a p)))
    → T (at_mostℤ (pos 0) (as_number (total_division quotient a q)))
quotient_from a = equal_for (λ z. T (at_mostℤ (pos 0) (as_number (total_division quotient a z))))

symmetric : (v w : AnyValue) → T (equal_value v w) → T (equal_value w v)
symmetric v w e = eq_equal_value w v (sym (equal_value_eq v w e))

transitive : (u v w : AnyValue) → T (equal_value u v) → T (equal_value v w) → T (equal_value u w)
transitive u v w e f = eq_equal_value u w (equal_value_eq u v e ∙ equal_value_eq v w f)

pred_less : (u : ℤ) → T (lessℤ (u -ℤ pos 1) u)
pred_less u =
    let e : suc_ℤ (u -ℤ pos 1) ≡ u = sym (+ℤ_one (u -ℤ pos 1)) ∙ -ℤ-+ℤ_cancel u (pos 1) in
    suc_less (u -ℤ pos 1) u (subst (λ z. T (at_mostℤ z u)) (sym e) (at_most_refl u))

less_from : (v u : AnyValue) → T (equal_value v (number (as_number u -ℤ pos 1))) → T (lessℤ (as_number v) (as_number u))
less_from v u e = equal_for (λ z. T (lessℤ (as_number z) (as_number u))) v (number (as_number u -ℤ pos 1)) e (pred_less (as_number u))

minus_at_most : (u r : ℤ) → T (at_mostℤ (pos 0) r) → T (at_mostℤ (u -ℤ r) u)
minus_at_most u r h =
    let (n, e) = at_most_gap (pos 0) r h in
    let whole : r ≡ pos n = e ∙ +ℤ_idl (pos n) in
    subst (λ z. T (at_mostℤ (u -ℤ r) z)) (ap (λ x. (u -ℤ r) +ℤ x) (sym whole) ∙ -ℤ-+ℤ_cancel u r) (gap_at_most (u -ℤ r) n)

-- from v = u − r and 0 ≤ r
not_more_from : (v u r : AnyValue) → T (equal_value v (number (as_number u -ℤ as_number r))) → T (at_mostℤ (pos 0) (as_number r))
    → T (at_mostℤ (as_number v) (as_number u))
not_more_from v u r e h = at_most_from v (number (as_number u -ℤ as_number r)) u e (minus_at_most (as_number u) (as_number r) h)

-- a value fits a type
fits_type : (s t : ValueType) → s ≡ t → (v : Value t) → wrap s (as_value s (wrap t v)) ≡ wrap t v
fits_type s t e v = subst (λ x. wrap x (as_value x (wrap t v)) ≡ wrap t v) (sym e) (go t v)
  where
    go : (t : ValueType) (v : Value t) → wrap t (as_value t (wrap t v)) ≡ wrap t v
    go integer v = refl
    go boolean v = refl

module _ (ρ : Env worked.type) where
  abbrev type : ℕ → ValueType
  type = worked.type

  -- the value, and the after value, of an identifier
  abbrev now : ℕ → AnyValue
  now x = wrap (type x) (ρ.present x)

  abbrev next : ℕ → AnyValue
  next x = wrap (type x) (ρ.after x)

  -- an entry by the formula that it spells
  from : (e : Entry) {φ : Formula} → formula worked e ≡ φ → Meets worked ρ e → Holds ρ φ
  from e q h = subst (Holds ρ) q h

  shown : (e : Entry) {φ : Formula} → formula worked e ≡ φ → Holds ρ φ → Meets worked ρ e
  shown e q h = subst⁻¹ (Holds ρ) q h

  -- some value equals another identifier's; some after value is FALSE, some is not negative
  some_value_lem : (x y : ℕ) → (y ≡ x → ⊥) → type x ≡ type y → Holds ρ (some_value x (binary equal (identifier x) (identifier y)))
  unfolding evaluate
  some_value_lem x y n e =
      let v : Value (type x) = as_value (type x) (now y) in
      ∣ (
        v,
        eq_equal_value _ _ (ap (wrap (type x)) (override_same type ρ.present x v) ∙ fits_type (type x) (type y) e (ρ.present y)
            ∙ ap (wrap (type y)) (sym (override_other type ρ.present x v y n))),
      ) ∣₁

  some_false : (x : ℕ) → type x ≡ boolean → Holds ρ (some_after_value x (binary equal (after x) (constant FALSE)))
  unfolding evaluate
  some_false x e =
      let v : Value (type x) = as_value (type x) (truth false) in
      ∣ (v, eq_equal_value _ _ (ap (wrap (type x)) (override_same type ρ.after x v) ∙ fits_type (type x) boolean e false)) ∣₁

  some_natural : (x : ℕ) → type x ≡ integer → Holds ρ (some_after_value x (binary at_most (constant (literal 0)) (after x)))
  unfolding evaluate
  some_natural x e =
      let v : Value (type x) = as_value (type x) (number (pos 0)) in
      ∣ (v, subst (λ z. T (at_mostℤ (pos 0) (as_number z))) (sym (ap (wrap (type x)) (override_same type ρ.after x v) ∙ fits_type (type x) integer e (pos 0))) tt) ∣₁

-- the abstract initialisation: a := N, b := FALSE
valid1 : All (Valid worked) list1
unfolding Valid evaluate worked words machine_of tree_of tree_to start count_below operator_numbered
valid1 =
    -- INV of 6
    (all_cons (λ ρ h. shown ρ (primed 6) f.primed_6 (not_negative_from (next ρ 2) (now ρ 1) (from ρ (moves 1 2) f.moves_1_2 (all_head (all_tail h))) (from ρ (written 3) f.written_3 (all_head h))))
    -- INV of 9
    (all_cons (λ ρ h. shown ρ (primed 9) f.primed_9 (from ρ (moves 1 3) f.moves_1_3 (all_head (all_tail (all_tail h)))))
    all_nil))

-- the abstract event: guards ¬(q = 0) and 0 ≤ a ÷ q, a :| 0 ≤ a'
valid2 : All (Valid worked) list2
unfolding Valid evaluate worked words machine_of tree_of tree_to start count_below operator_numbered
valid2 =
    -- WD of 23
    (all_cons (λ ρ h. shown ρ (defined 23) f.defined_23 (from ρ (written 18) f.written_18 (all_head (all_tail (all_tail (all_tail h))))))
    -- FIS of 2
    (all_cons (λ ρ h. shown ρ (feasible 2 2) f.feasible_2_2 (some_natural ρ 2 f.type_2))
    -- INV of 6
    (all_cons (λ ρ h. shown ρ (primed 6) f.primed_6 (from ρ (moves 2 2) f.moves_2_2 (all_head (all_tail (all_tail (all_tail (all_tail (all_tail h))))))))
    all_nil)))

-- the concrete initialisation: a := N, u := N
valid3 : All (Valid worked) list3
unfolding Valid evaluate worked words machine_of tree_of tree_to start count_below operator_numbered
valid3 =
    -- WFIS of 3
    (all_cons (λ ρ h. shown ρ (witnessed 3 3) f.witnessed_3_3 (some_false ρ 3 f.type_3))
    -- SIM of 2
    (all_cons (λ ρ h. shown ρ (moves 1 2) f.moves_1_2 (from ρ (moves 3 2) f.moves_3_2 (all_head (all_tail h))))
    -- SIM of 3
    (all_cons (λ ρ h. shown ρ (moves 1 3) f.moves_1_3 (from ρ (written 31) f.written_31 (all_head (all_tail (all_tail (all_tail h))))))
    -- INV of 12
    (all_cons (λ ρ h. shown ρ (primed 12) f.primed_12 (at_most_from (next ρ 4) (now ρ 1) (now ρ 1) (from ρ (moves 3 4) f.moves_3_4 (all_head (all_tail (all_tail h)))) (at_most_refl (as_number (now ρ 1)))))
    all_nil))))

-- the refining event: guards ¬(p ≤ 0) and 0 ≤ a ÷ p, a := a mod p
valid4 : All (Valid worked) list4
unfolding Valid evaluate worked words machine_of tree_of tree_to start count_below operator_numbered
valid4 =
    -- WD of 40
    (all_cons (λ ρ h. shown ρ (defined 40) f.defined_40 (above_nonzero (now ρ 6) (from ρ (written 35) f.written_35 (all_head (all_tail (all_tail (all_tail (all_tail h))))))))
    -- WD of 43
    (all_cons (λ ρ h. shown ρ (defined 43) f.defined_43 (and_join (at_mostℤ (pos 0) (as_number (now ρ 2))) (lessℤ (pos 0) (as_number (now ρ 6))) (from ρ (written 6) f.written_6 (all_head (all_tail h))) (from ρ (written 35) f.written_35 (all_head (all_tail (all_tail (all_tail (all_tail h))))))))
    -- WFIS of 5
    (all_cons (λ ρ h. shown ρ (witnessed 4 5) f.witnessed_4_5 (some_value_lem ρ 5 6 (λ e. omega arith) (f.type_5 ∙ sym f.type_6)))
    -- WFIS of 3
    (all_cons (λ ρ h. shown ρ (witnessed 4 3) f.witnessed_4_3 (some_false ρ 3 f.type_3))
    -- GRD of 18
    (all_cons (λ ρ h. shown ρ (written 18) f.written_18 (nonzero_from (now ρ 5) (now ρ 6) (from ρ (written 46) f.written_46 (all_head (all_tail (all_tail (all_tail (all_tail (all_tail (all_tail h)))))))) (above_nonzero (now ρ 6) (from ρ (written 35) f.written_35 (all_head (all_tail (all_tail (all_tail (all_tail h)))))))))
    -- GRD of 23
    (all_cons (λ ρ h. shown ρ (written 23) f.written_23 (quotient_from (now ρ 2) (now ρ 5) (now ρ 6) (from ρ (written 46) f.written_46 (all_head (all_tail (all_tail (all_tail (all_tail (all_tail (all_tail h)))))))) (from ρ (written 40) f.written_40 (all_head (all_tail (all_tail (all_tail (all_tail (all_tail h)))))))))
    -- SIM of 2
    (all_cons (λ ρ h. shown ρ (moves 2 2) f.moves_2_2 (not_negative_from (next ρ 2) (total_division remainder (now ρ 2) (now ρ 6)) (from ρ (moves 4 2) f.moves_4_2 (all_head (all_tail (all_tail (all_tail (all_tail (all_tail (all_tail h)))))))) (remainder_natural (now ρ 2) (now ρ 6) (from ρ (written 6) f.written_6 (all_head (all_tail h))))))
    -- SIM of 3
    (all_cons (λ ρ h. shown ρ (moves 2 3) f.moves_2_3 (transitive (next ρ 3) (truth false) (now ρ 3) (from ρ (written 49) f.written_49 (all_head (all_tail (all_tail (all_tail (all_tail (all_tail (all_tail (all_tail (all_tail (all_tail h))))))))))) (symmetric (now ρ 3) (truth false) (from ρ (written 9) f.written_9 (all_head (all_tail (all_tail h)))))))
    -- INV of 12
    (all_cons (λ ρ h. shown ρ (primed 12) f.primed_12 (at_most_from (next ρ 4) (now ρ 4) (now ρ 1) (from ρ (moves 4 4) f.moves_4_4 (all_head (all_tail (all_tail (all_tail (all_tail (all_tail (all_tail (all_tail h))))))))) (from ρ (written 12) f.written_12 (all_head (all_tail (all_tail (all_tail h)))))))
    all_nil)))))))))

-- the convergent event: guard 0 < u, u := u − 1
valid5 : All (Valid worked) list5
unfolding Valid evaluate worked words machine_of tree_of tree_to start count_below operator_numbered
valid5 =
    -- SIM of 2
    (all_cons (λ ρ h. shown ρ (unchanged 2) f.unchanged_2 (from ρ (moves 5 2) f.moves_5_2 (all_head (all_tail (all_tail (all_tail (all_tail (all_tail h))))))))
    -- INV of 12
    (all_cons (λ ρ h. shown ρ (primed 12) f.primed_12 (at_most_trans (as_number (next ρ 4)) (as_number (now ρ 4)) (as_number (now ρ 1)) (less_at_most (as_number (next ρ 4)) (as_number (now ρ 4)) (less_from (next ρ 4) (now ρ 4) (from ρ (moves 5 4) f.moves_5_4 (all_head (all_tail (all_tail (all_tail (all_tail (all_tail (all_tail h)))))))))) (from ρ (written 12) f.written_12 (all_head (all_tail (all_tail (all_tail h)))))))
    -- NAT of 56
    (all_cons (λ ρ h. shown ρ (natural 56) f.natural_56 (less_at_most (pos 0) (as_number (now ρ 4)) (from ρ (written 52) f.written_52 (all_head (all_tail (all_tail (all_tail (all_tail h))))))))
    -- VAR of 56
    (all_cons (λ ρ h. shown ρ (decreases 56) f.decreases_56 (less_from (next ρ 4) (now ρ 4) (from ρ (moves 5 4) f.moves_5_4 (all_head (all_tail (all_tail (all_tail (all_tail (all_tail (all_tail h))))))))))
    all_nil))))

-- the anticipated event: guard 0 ≤ r, u := u − r
valid6 : All (Valid worked) list6
unfolding Valid evaluate worked words machine_of tree_of tree_to start count_below operator_numbered
valid6 =
    -- SIM of 2
    (all_cons (λ ρ h. shown ρ (unchanged 2) f.unchanged_2 (from ρ (moves 6 2) f.moves_6_2 (all_head (all_tail (all_tail (all_tail (all_tail (all_tail h))))))))
    -- INV of 12
    (all_cons (λ ρ h. shown ρ (primed 12) f.primed_12 (at_most_trans (as_number (next ρ 4)) (as_number (now ρ 4)) (as_number (now ρ 1)) (not_more_from (next ρ 4) (now ρ 4) (now ρ 7) (from ρ (moves 6 4) f.moves_6_4 (all_head (all_tail (all_tail (all_tail (all_tail (all_tail (all_tail h)))))))) (from ρ (written 59) f.written_59 (all_head (all_tail (all_tail (all_tail (all_tail h))))))) (from ρ (written 12) f.written_12 (all_head (all_tail (all_tail (all_tail h)))))))
    -- VAR of 56
    (all_cons (λ ρ h. shown ρ (not_increased 56) f.not_increased_56 (not_more_from (next ρ 4) (now ρ 4) (now ρ 7) (from ρ (moves 6 4) f.moves_6_4 (all_head (all_tail (all_tail (all_tail (all_tail (all_tail (all_tail h)))))))) (from ρ (written 59) f.written_59 (all_head (all_tail (all_tail (all_tail (all_tail h))))))))
    all_nil)))

pub valid : All (Valid worked) (sequents worked)
valid =
    subst (All (Valid worked)) (sym listed) (all_join valid1 (all_join valid2 (all_join valid3 (all_join valid4 (all_join valid5 valid6)))))
