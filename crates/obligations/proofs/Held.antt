-- What is held and the bytes that are written behind it are held together.
use Prim.Native.Nat.{ℕ, ◌+◌, ◌-◌, ◌≤◌}
use mathlib.Core.Path.{◌≡◌, sym, ap, ◌∙◌, subst}
use mathlib.Core.List.{List, ◌++◌, append_assoc}
use native.Mathlib.Omega.{arith}
use lib.ListN.{length, take, drop, length-append, length-take, length-drop}
use lib.Seq.{length-take-le, take_at}
use borrow.Rule.Slice.PartMut.{put_mid, post_of, same_len_mid}
use Rattle.lists.specs.Over.{over}
use Rattle.lists.proofs.Over.{over_length}
use Rattle.reply.specs.Replies.{output}
use Rattle.obligations.specs.declared.Batch.{Batch}
use Rattle.obligations.specs.Output.{StandsAt}
use Rattle.obligations.specs.Held.{Waits, written_to}
use Rattle.obligations.proofs.Stands.{stands_none, stands_join}

-- what was written into what is left of a buffer behind its first bytes stands behind them
behind : (at n : ℕ) (out ws xs : List ℕ) → at ≤ length out → length ws ≡ n → take (at + n) (put_mid at (length out - at) out (over ws xs)) ≡ take at out ++ ws
unfolding over
behind at n out ws xs h e =
    let rest : List ℕ = drop (length ws) xs ++ post_of at (length out - at) out in
    let joined : put_mid at (length out - at) out (over ws xs) ≡ (take at out ++ ws) ++ rest = simp append_assoc in
    ap (take (at + n)) joined ∙ take_at (take at out ++ ws) rest (at + n) (length-append (take at out) ws ∙ omega (arith, length-take-le at out h))

module _ (bytes : List ℕ) where
  pub none_waits : (b : Batch) (out : List ℕ) → b.held ≡ 0 → b.printer.at ≤ length (output bytes) → Waits bytes b out
  none_waits b out e h =
      record { within = omega arith; stands = subst (λ n. StandsAt bytes b.printer.at (take n out)) (sym e) (stands_none bytes b.printer.at h) }

  module _ {b : Batch} {out : List ℕ} (w : Waits bytes b out) where
    pub held_length : length (take b.held out) ≡ b.held
    held_length = length-take-le b.held out w.within

    -- what is held ends in the output
    pub written_within : written_to b ≤ length (output bytes)
    written_within = omega (arith, w.stands.within, held_length)

    pub behind_waits : {ws part : List ℕ} {n : ℕ} → StandsAt bytes (written_to b) ws → length ws ≡ n → b.held + n ≤ length out
        → part ≡ over ws (take (length out - b.held) (drop b.held out))
        → Waits bytes (record { printer = b.printer; held = b.held + n }) (put_mid b.held (length out - b.held) out part)
    behind_waits {ws} {part} {n} s e room p =
        let left : List ℕ = take (length out - b.held) (drop b.held out) in
        let fits : length ws ≤ length left = simp (length-take, length-drop) (omega arith) in
        let front : take (b.held + n) (put_mid b.held (length out - b.held) out part) ≡ take b.held out ++ ws =
        ap (λ ys. take (b.held + n) (put_mid b.held (length out - b.held) out ys)) p ∙ behind b.held n out ws left w.within e in
        let goes_on : StandsAt bytes (b.printer.at + length (take b.held out)) ws = subst (λ m. StandsAt bytes (b.printer.at + m) ws) (sym held_length) s in
        record {
          within = omega (arith, same_len_mid b.held (length out - b.held) out part (ap length p ∙ over_length ws left fits));
          stands = subst (StandsAt bytes b.printer.at) (sym front) (stands_join bytes w.stands goes_on);
        }
