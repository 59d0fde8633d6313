-- ≤ and < are the order of the whole numbers: a ≤ b says that b is a plus a natural number, and a < b that a + 1 ≤ b. The other
-- laws follow from these two by the laws of the sum.
use mathlib.Core.Path.{◌≡◌, sym, ap, subst, ◌∙◌}
use mathlib.Core.Bool.{not, cond}
use mathlib.Core.Logic.{◌⊎◌, inl, inr}
use Prim.Native.Nat.{ℕ, zero, suc, ◌+◌, ◌-◌, ◌≤◌, ◌<◌}
use native.Mathlib.Omega.{arith}
use lib.Dec.{T, leb, ltb, leb→le, le→leb, nleb→lt, lt→ltb, ltb→lt, nltb→le, not_T, T_not}
use lib.IntN.{ℤ, pos, negsuc, suc_ℤ, sub_ℕ, ◌+ℤ◌, +ℤ_idr, +ℤ_assoc, +ℤ_comm, +ℤ_one}
use Rattle.formula.specs.Values.{at_mostℤ, lessℤ}
use Rattle.formula.proofs.Truth.{test_or_not, test_true, test_false}

-- a difference of naturals, by their order
pub sub_le : (a b : ℕ) → b ≤ a → sub_ℕ a b ≡ pos (a - b)
sub_le a b h = ap (λ t. cond t (negsuc (b - suc a)) (pos (a - b))) (test_false (ltb a b) (not_T (ltb a b) (λ t. absurd (far (ltb→lt a b t)))))
  where
    far : a < b → ⊥
    far l = omega arith

pub sub_lt : (a b : ℕ) → a < b → sub_ℕ a b ≡ negsuc (b - suc a)
sub_lt a b h = ap (λ t. cond t (negsuc (b - suc a)) (pos (a - b))) (test_true (ltb a b) (lt→ltb a b h))

pub at_most_gap : (a b : ℤ) → T (at_mostℤ a b) → (n : ℕ) × (b ≡ a +ℤ pos n)
at_most_gap (pos a) (pos b) t = let h = leb→le a b t in let e : b ≡ a + (b - a) = omega arith in (b - a, ap pos e)
at_most_gap (pos a) (negsuc b) t = absurd t
at_most_gap (negsuc a) (pos b) t = (b + suc a, sym (sub_le (b + suc a) (suc a) (omega arith) ∙ ap pos (omega arith)))
at_most_gap (negsuc a) (negsuc b) t =
    let h = leb→le b a t in (a - b, sym (sub_lt (a - b) (suc a) (omega arith) ∙ ap negsuc (omega arith)))

pub gap_at_most : (a : ℤ) (n : ℕ) → T (at_mostℤ a (a +ℤ pos n))
gap_at_most (pos a) n = le→leb a (a + n) (omega arith)
gap_at_most (negsuc a) n = go (test_or_not (ltb n (suc a)))
  where
    go : T (ltb n (suc a)) ⊎ T (not (ltb n (suc a))) → T (at_mostℤ (negsuc a) (sub_ℕ n (suc a)))
    go (inl l) = rw (sub_lt n (suc a) (ltb→lt n (suc a) l)) (le→leb (suc a - suc n) a (omega arith))
    go (inr g) = rw (sub_le n (suc a) (nltb→le n (suc a) g)) tt

pub at_most_trans : (a b c : ℤ) → T (at_mostℤ a b) → T (at_mostℤ b c) → T (at_mostℤ a c)
at_most_trans a b c s t =
    let p = at_most_gap a b s in
    let q = at_most_gap b c t in
    let e : c ≡ a +ℤ pos (p.0 + q.0) = q.1 ∙ ap (λ x. x +ℤ pos q.0) p.1 ∙ +ℤ_assoc a (pos p.0) (pos q.0) in
    subst (λ x. T (at_mostℤ a x)) (sym e) (gap_at_most a (p.0 + q.0))

pub at_most_refl : (a : ℤ) → T (at_mostℤ a a)
at_most_refl a = subst (λ x. T (at_mostℤ a x)) (+ℤ_idr a) (gap_at_most a 0)

pub at_most_antisym : (a b : ℤ) → T (at_mostℤ a b) → T (at_mostℤ b a) → a ≡ b
at_most_antisym (pos a) (pos b) s t = let h = leb→le a b s in let k = leb→le b a t in ap pos (omega arith)
at_most_antisym (pos a) (negsuc b) s t = absurd s
at_most_antisym (negsuc a) (pos b) s t = absurd t
at_most_antisym (negsuc a) (negsuc b) s t = let h = leb→le b a s in let k = leb→le a b t in ap negsuc (omega arith)

pub at_most_or_less : (a b : ℤ) → T (at_mostℤ a b) ⊎ T (lessℤ b a)
at_most_or_less a b = test_or_not (at_mostℤ a b)

pub at_most_not_less : (a b : ℤ) → T (at_mostℤ a b) → T (lessℤ b a) → ⊥
at_most_not_less a b s t = T_not (at_mostℤ a b) t s

pub at_most_add : (a b c : ℤ) → T (at_mostℤ a b) → T (at_mostℤ (a +ℤ c) (b +ℤ c))
at_most_add a b c t =
    let p = at_most_gap a b t in
    let n = pos p.0 in
    let e : b +ℤ c ≡ (a +ℤ c) +ℤ n = ap (λ x. x +ℤ c) p.1 ∙ +ℤ_assoc a n c ∙ ap (λ x. a +ℤ x) (+ℤ_comm n c) ∙ sym (+ℤ_assoc a c n) in
    subst (λ x. T (at_mostℤ (a +ℤ c) x)) (sym e) (gap_at_most (a +ℤ c) p.0)

pub at_most_suc : (a b : ℤ) → T (at_mostℤ a b) → T (at_mostℤ (suc_ℤ a) (suc_ℤ b))
at_most_suc a b t = rw (+ℤ_one a, +ℤ_one b) at (at_most_add a b (pos 1) t)

pub less_suc : (a b : ℤ) → T (lessℤ a b) → T (at_mostℤ (suc_ℤ a) b)
less_suc (pos a) (pos b) t = le→leb (suc a) b (nleb→lt b a t)
less_suc (pos a) (negsuc b) t = absurd t
less_suc (negsuc zero) (pos b) t = le→leb 0 b (omega arith)
less_suc (negsuc (suc a)) (pos b) t = tt
less_suc (negsuc zero) (negsuc b) t = let h = nleb→lt zero b t in absurd (omega arith)
less_suc (negsuc (suc a)) (negsuc b) t = let h = nleb→lt (suc a) b t in le→leb b a (omega arith)

pub suc_less : (a b : ℤ) → T (at_mostℤ (suc_ℤ a) b) → T (lessℤ a b)
suc_less (pos a) (pos b) t = let h = leb→le (suc a) b t in not_T (leb b a) (λ s. let k = leb→le b a s in omega arith)
suc_less (pos a) (negsuc b) t = absurd t
suc_less (negsuc zero) (pos b) t = tt
suc_less (negsuc (suc a)) (pos b) t = tt
suc_less (negsuc zero) (negsuc b) t = absurd t
suc_less (negsuc (suc a)) (negsuc b) t = let h = leb→le b a t in not_T (leb (suc a) b) (λ s. let k = leb→le (suc a) b s in omega arith)

pub suc_at_most : (a : ℤ) → T (at_mostℤ a (suc_ℤ a))
suc_at_most a = rw (+ℤ_one a) at (gap_at_most a 1)

pub less_at_most : (a b : ℤ) → T (lessℤ a b) → T (at_mostℤ a b)
less_at_most a b t = at_most_trans a (suc_ℤ a) b (suc_at_most a) (less_suc a b t)

pub less_at_most_trans : (a b c : ℤ) → T (lessℤ a b) → T (at_mostℤ b c) → T (lessℤ a c)
less_at_most_trans a b c s t = suc_less a c (at_most_trans (suc_ℤ a) b c (less_suc a b s) t)

pub at_most_less_trans : (a b c : ℤ) → T (at_mostℤ a b) → T (lessℤ b c) → T (lessℤ a c)
at_most_less_trans a b c s t = suc_less a c (at_most_trans (suc_ℤ a) (suc_ℤ b) c (at_most_suc a b s) (less_suc b c t))

-- a value that is at least 0 leaves room for one step
pub bound_one : (v : ℤ) → T (at_mostℤ (pos 0) v) → T (at_mostℤ (pos 1) (v +ℤ pos 1))
bound_one v t = at_most_add (pos 0) v (pos 1) t

-- what is at most the lower value plus one is, with one more, at most the higher value plus one
pub bound_falls : (k : ℕ) (v w : ℤ) → T (lessℤ w v) → T (at_mostℤ (pos k) (w +ℤ pos 1)) → T (at_mostℤ (pos (suc k)) (v +ℤ pos 1))
bound_falls k v w l t =
    let h : T (at_mostℤ (pos k) (suc_ℤ w)) = rw (+ℤ_one w) at t in
    rw (+ℤ_one v) (at_most_suc (pos k) v (at_most_trans (pos k) (suc_ℤ w) v h (less_suc w v l)))

-- what is at most the lower value plus one is at most the higher value plus one
pub bound_kept : (k : ℕ) (v w : ℤ) → T (at_mostℤ w v) → T (at_mostℤ (pos k) (w +ℤ pos 1)) → T (at_mostℤ (pos k) (v +ℤ pos 1))
bound_kept k v w l t = at_most_trans (pos k) (w +ℤ pos 1) (v +ℤ pos 1) t (at_most_add w v (pos 1) l)
