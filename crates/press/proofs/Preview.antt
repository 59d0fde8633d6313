-- What a preview writes: what pressing makes of a copy of the first list's values, with its types, into lists that are as long; nothing where it is refused.
use mathlib.Core.Path.{◌≡◌, refl, sym, ap, ◌∙◌}
use mathlib.Core.Bool.{Bool, true, false, true≢false}
use mathlib.Core.List.{List}
use Prim.Native.Nat.{ℕ, min, ◌≤◌}
use native.Mathlib.Omega.{arith}
use borrow.Author.Tests.{ltb-true, ltb-false}
use lib.Dec.{ltb, eqb, eqb→eq}
use lib.IntN.{ℤ, pos}
use lib.ListN.{length, take, drop, replicate, length-replicate}
use lib.Seq.{take_all, take_at, length-take-le}
use Rattle.std.specs.Prelude.{Result, is_ok}
use Rattle.lists.specs.Choice.{pick}
use Rattle.formula.proofs.Truth.{true_test}
use Rattle.rules.specs.declared.Refusal.{Refusal}
use Rattle.bench.specs.State.{laid}
use Rattle.bench.specs.Press.{Outcome, made, refused, reply_of, kept_or, outcome}
use Rattle.bench.proofs.State.{laid_size, laid_same}
use Rattle.bench.proofs.Lengths.{outcome_length, outcome_long}
use Rattle.press.specs.Numbers.{room_for}

-- there is room for at most 64 records only in lists of that length
room_says : (ss : List ℤ) (ts : List ℕ) (n : ℕ) → room_for ss ts ≡ n → n ≤ 64 → (length ss ≡ n) × (length ts ≡ n)
unfolding room_for
room_says ss ts n e h = go (eqb (length ss) (length ts)) refl e
  where
    go : (b : Bool) → eqb (length ss) (length ts) ≡ b → pick b (length ss) 65 ≡ n → (length ss ≡ n) × (length ts ≡ n)
    go true q e = (e, sym (eqb→eq (length ss) (length ts) (true_test _ q)) ∙ e)
    go false q e = absurd (omega (arith, e, h))

pub room_is : (ss : List ℤ) (ts : List ℕ) → pick (eqb (length ss) (length ts)) (length ss) 65 ≡ room_for ss ts
unfolding room_for
room_is ss ts = refl

-- a reply, and what the second lists hold then
abbrev pub Writes : Outcome → List ℕ → List ℤ → List ℕ → Result (Unit {0}) Refusal → List ℤ → List ℕ → Type 0
Writes o sorts ss ts r ss' ts' = (r ≡ reply_of o) × ((ss' ≡ kept_or (λ zs. zs) ss o) × (ts' ≡ kept_or (λ zs. sorts) ts o))

pub as_writes : {o p : Outcome} (sorts : List ℕ) (ss : List ℤ) (ts : List ℕ) {r : Result (Unit {0}) Refusal} {ss' : List ℤ} {ts' : List ℕ} → o ≡ p → Writes p sorts ss ts r ss' ts' → Writes o sorts ss ts r ss' ts'
as_writes sorts ss ts e (a, (b, c)) = (a ∙ sym (ap reply_of e), (b ∙ sym (ap (kept_or (λ zs. zs) ss) e), c ∙ sym (ap (kept_or (λ zs. sorts) ts) e)))

module _ (table step : List ℕ) (copy : List ℤ) (sorts : List ℕ) (ss : List ℤ) (ts : List ℕ) {room : ℕ} (is : room ≡ room_for ss ts) {r : Result (Unit {0}) Refusal} {us : List ℤ}
    (reply : r ≡ reply_of (outcome table step copy sorts room)) (values : us ≡ kept_or (λ zs. zs) copy (outcome table step copy sorts room)) where
  abbrev found : Outcome
  found = outcome table step copy sorts (room_for ss ts)

  same : outcome table step copy sorts room ≡ found
  same = ap (outcome table step copy sorts) is

  replied : r ≡ reply_of found
  replied = reply ∙ ap reply_of same

  pub preview_kept : is_ok r ≡ false → Writes found sorts ss ts r ss ts
  preview_kept h = (replied, go found (sym (ap is_ok replied) ∙ h))
    where
      go : (o : Outcome) → is_ok (reply_of o) ≡ false → (ss ≡ kept_or (λ zs. zs) ss o) × (ts ≡ kept_or (λ zs. sorts) ts o)
      go (made zs) q = absurd (true≢false q)
      go (refused n row) q = (refl, refl)

  pub preview_made : {ss' : List ℤ} {ts' : List ℕ} → is_ok r ≡ true → ss' ≡ laid us ss → ts' ≡ laid sorts ts → Writes found sorts ss ts r ss' ts'
  preview_made {ss'} {ts'} h p q =
      let w = go found refl (sym (ap is_ok replied) ∙ h) (values ∙ ap (kept_or (λ zs. zs) copy) same) in
      (replied, (p ∙ w.0, q ∙ w.1))
    where
      go : (o : Outcome) → found ≡ o → is_ok (reply_of o) ≡ true → us ≡ kept_or (λ zs. zs) copy o → (laid us ss ≡ kept_or (λ zs. zs) ss o) × (laid sorts ts ≡ kept_or (λ zs. sorts) ts o)
      go (made zs) e t v =
          let (a, s, m, few) = outcome_length table step copy sorts (room_for ss ts) zs e in
          let k = room_says ss ts (length copy) m few in
          (ap (λ us. laid us ss) v ∙ laid_same zs ss (k.0 ∙ sym a), laid_same sorts ts (k.1 ∙ sym s))
      go (refused n row) e t v = absurd (true≢false (sym t))

-- ---- the copy that is pressed on: the first 65 values
module _ (zs : List ℤ) {n : ℕ} (is : n ≡ min (length zs) 65) where
  abbrev places : List ℤ
  places = replicate 65 (pos 0)

  pub copy_few : n ≤ 65
  copy_few = omega arith

  copied : length zs ≤ 65 → take (length zs) (laid zs places) ≡ zs
  unfolding laid
  copied h =
      let l = length-replicate 65 (pos 0) in
      let t = take_all (length places) zs (omega (arith, h, l)) in
      take_at (take (length places) zs) (drop (length zs) places) (length zs) (ap length t) ∙ t

  pub copy_outcome : (table step : List ℕ) (sorts : List ℕ) (room : ℕ) {ys : List ℤ} → ys ≡ take n (laid zs places) → outcome table step ys sorts room ≡ outcome table step zs sorts room
  copy_outcome table step sorts room q = ap (λ ys. outcome table step ys sorts room) q ∙ go (ltb (length zs) 65) refl
    where
      go : (b : Bool) → ltb (length zs) 65 ≡ b → outcome table step (take n (laid zs places)) sorts room ≡ outcome table step zs sorts room
      go true h =
          let l = ltb-true (length zs) 65 h in
          let e : n ≡ length zs = omega (arith, l) in
          ap (λ ys. outcome table step ys sorts room) (ap (λ m. take m (laid zs places)) e ∙ copied (omega (arith, l)))
      go false h =
          let l = ltb-false (length zs) 65 h in
          let s = laid_size zs places ∙ length-replicate 65 (pos 0) in
          let m = length-take-le n (laid zs places) (omega (arith, s)) in
          outcome_long table step (take n (laid zs places)) zs sorts sorts room room (omega (arith, m, l)) (omega (arith, l))
