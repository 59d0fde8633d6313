-- The numbers from where the notes start on are filled with 0.
use Prim.Native.Nat.{ℕ, zero, suc, ◌-◌, ◌≤◌, ◌<◌}
use mathlib.Core.Path.{◌≡◌, refl, ap, ◌∙◌}
use mathlib.Core.List.{List, [], ◌++◌, append-nil}
use native.Mathlib.Omega.{arith}
use borrow.Author.Rules.{rules}
use borrow.Rule.Slice.PartMut.{put_mid}
use lib.ListN.{length, get_or, take, drop, replicate, length-drop, drop_of_length-le}
use Rattle.std.proofs.lemmas.List.{places, get_or_append_left, get_or-append_right, get_or-take, length-take-le}
use Rattle.scan.specs.Spans.{nodes_at}
use Rattle.nodes.proofs.clear_notes.Goals as goal

zero_at : (n k : ℕ) → ◌≡◌ {A = ℕ} (get_or (replicate n 0) k 0) 0
zero_at zero k = refl
zero_at (suc n) zero = refl
zero_at (suc n) (suc k) = zero_at n k

module _ (s filled : List ℕ) (a n : ℕ) (h : a ≤ length s) where
  whole : put_mid a (length s - a) s filled ≡ take a s ++ filled
  whole =
      let none : drop (length s - a) (drop a s) ≡ [] = drop_of_length-le (drop a s) (simp length-drop (omega arith)) in
      rw (none, append-nil)

  kept : (k : ℕ) → k < a → get_or (put_mid a (length s - a) s filled) k 0 ≡ get_or s k 0
  kept k l =
      ap (λ xs. get_or xs k 0) whole ∙ get_or_append_left (take a s) filled 0 k (omega (arith, length-take-le a s h)) ∙ get_or-take a s k 0 l

  zeros : filled ≡ replicate n 0 → (k : ℕ) → a ≤ k → get_or (put_mid a (length s - a) s filled) k 0 ≡ 0
  zeros e k l =
      ap (λ xs. get_or xs k 0) whole ∙ get_or-append_right (take a s) filled a k 0 (length-take-le a s h) l ∙ ap (λ xs. get_or xs (k - a) 0) e ∙ zero_at n (k - a)

pub returns : goal.returns
returns c =
    let s = c.args.spans.now in
    record {
      size = search (rules, places);
      kept = kept s c.fill.new.self nodes_at 0 (omega arith);
      zeros = zeros s c.fill.new.self nodes_at _ (omega arith) (c.fill.ensures.after (λ y e. e));
    }
