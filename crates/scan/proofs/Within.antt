-- The last number that passes by recursion on the bound; and what a span of a test says of searches and counts.
use Prim.Native.Nat.{ℕ, zero, suc, ◌≤◌, ◌<◌}
use mathlib.Core.Path.{◌≡◌, refl, sym, subst}
use mathlib.Core.Bool.{Bool, true, false}
use mathlib.Core.Logic.{⊎_elim}
use native.Mathlib.Omega.{arith}
use native.Mathlib.Nat.{eq-or-lt_of_le}
use native.Mathlib.Decide.{dec_lt}
use Rattle.lists.specs.Choice.{pick}
use Rattle.lists.specs.Below.{NoneBelow}
use Rattle.scan.specs.declared.Span.{Span}
use Rattle.scan.specs.Span.{Spans}
use Rattle.scan.specs.Spans.{span_to}

module _ (P : ℕ → Bool) where
  pub past_at_most : (n : ℕ) → span_to P n ≤ n
  unfolding span_to
  past_at_most zero = omega arith
  past_at_most (suc n) = go (P n) (past_at_most n)
    where
      go : (b : Bool) → span_to P n ≤ n → pick b (suc n) (span_to P n) ≤ suc n
      go true h = omega arith
      go false h = omega arith

  pub past_above : (n j : ℕ) → span_to P n ≤ j → j < n → P j ≡ false
  unfolding span_to
  past_above zero j h l = absurd (omega arith)
  past_above (suc n) j h l = go (P n) refl h (past_above n j)
    where
      go : (b : Bool) → P n ≡ b → pick b (suc n) (span_to P n) ≤ j → (span_to P n ≤ j → j < n → P j ≡ false) → P j ≡ false
      go true e g above = absurd (omega arith)
      go false e g above = ⊎_elim (λ (q : j ≡ n). subst (λ x. P x ≡ false) (sym q) e) (λ (q : j < n). above g q) (eq-or-lt_of_le (omega arith))

  -- past the span nothing passes that did not before
  pub spans_none : (n : ℕ) (s : Span) → Spans P n s → (i : ℕ) → NoneBelow P i → s.to ≤ i → NoneBelow P n
  spans_none n s spans i none h j l = go (dec_lt j i)
    where
      go : Dec (j < i) → P j ≡ false
      go (yes k) = none j k
      go (no f) = spans.above j (omega (arith, f)) l

  -- the span of a test is one of every stricter test
  pub spans_stricter : (Q : ℕ → Bool) → ((j : ℕ) → P j ≡ false → Q j ≡ false) → {n : ℕ} {s : Span} → Spans P n s → Spans Q n s
  spans_stricter Q f h = record { within = h.within; below = λ j l. f j (h.below j l); above = λ j g l. f j (h.above j g l) }
