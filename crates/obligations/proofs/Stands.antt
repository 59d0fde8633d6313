-- Parts of the output: the row 89 of a refused table is all of it, and the rows of a sequent stand behind those of the sequents before it (reply's Output).
use Prim.Native.Nat.{ℕ, ◌+◌, ◌-◌, ◌≤◌, ◌<◌}
use mathlib.Core.Path.{◌≡◌, refl, sym, ap, ap₂, ◌∙◌}
use mathlib.Core.List.{List, [], ◌∷◌, ◌++◌, flat_map, append-nil}
use native.Mathlib.Omega.{arith}
use lib.ListN.{length, take, drop, length-append, drop_of_length-le}
use lib.Seq.{take-append_seam, drop-append_seam, drop-drop, take-add}
use Rattle.std.specs.Prelude.{Ok, Err}
use Rattle.lists.specs.Below.{numbers}
use Rattle.lists.specs.Over.{over}
use Rattle.lists.proofs.Flat.{flat_join, numbers_join}
use Rattle.row.specs.declared.Row.{Row}
use Rattle.row.specs.Row.{row_bytes, width}
use Rattle.row.proofs.Form.{row_length_lem}
use Rattle.rules.specs.Refusal.{refused}
use Rattle.rules.specs.Verdict.{verdict}
use Rattle.rules.specs.Offence.{machine}
use Rattle.reply.specs.Row.{row}
use Rattle.reply.specs.Replies.{sequent_bytes, output}
use Rattle.reply.proofs.Output.{output_refused, output_accepted, output_split}
use Rattle.obligations.specs.Output.{StandsAt}

-- a row fills a buffer of its length
pub fills : (r : Row) (xs out : List ℕ) → length xs ≡ 38 → out ≡ over (row_bytes width r) xs → out ≡ row_bytes width r
unfolding over
fills r xs out e q =
    q ∙ ap (λ ys. row_bytes width r ++ ys) (drop_of_length-le xs {i = length (row_bytes width r)} (omega (arith, row_length_lem width r))) ∙ append-nil (row_bytes width r)

module _ (bytes : List ℕ) where
  stands_behind : (front part rest : List ℕ) → output bytes ≡ front ++ (part ++ rest) → StandsAt bytes (length front) part
  stands_behind front part rest e = record {
    within = omega (arith, ap length e, length-append front (part ++ rest), length-append part rest);
    same = sym (ap (λ o. take (length part) (drop (length front) o)) e ∙ ap (take (length part)) (drop-append_seam front (part ++ rest)) ∙ take-append_seam part rest);
  }

  -- nothing stands everywhere, and a part and the part that stands behind it are one part
  pub stands_none : (at : ℕ) → at ≤ length (output bytes) → StandsAt bytes at []
  stands_none at h = record { within = omega arith; same = refl }

  pub stands_join : {at : ℕ} {front back : List ℕ} → StandsAt bytes at front → StandsAt bytes (at + length front) back → StandsAt bytes at (front ++ back)
  stands_join {at} {front} {back} f b = record {
    within = omega (arith, f.within, b.within, length-append front back);
    same =
        ap₂ (λ (xs : List ℕ) (ys : List ℕ). xs ++ ys) f.same (b.same ∙ ap (take (length back)) (sym (drop-drop (length front) at (output bytes))))
        ∙ sym (ap (λ n. take n (drop at (output bytes))) (length-append front back) ∙ take-add (length front) (length back) (drop at (output bytes)));
  }

  pub refusal_stands : (number at : ℕ) → verdict bytes ≡ Err (refused number at) → StandsAt bytes 0 (row_bytes width (row 89 number at 0))
  refusal_stands number at e =
      stands_behind [] (row_bytes width (row 89 number at 0)) [] (output_refused bytes number at e ∙ sym (append-nil (row_bytes width (row 89 number at 0))))

  -- where the rows of the sequents 1 to k end
  unfoldable pub rows_end_of : ℕ → ℕ
  rows_end_of k = length (flat_map (sequent_bytes (machine bytes)) (numbers k 1))

  pub rows_none : rows_end_of 0 ≡ 0
  unfolding rows_end_of numbers flat_map
  rows_none = refl

  pub rows_next : (k : ℕ) → rows_end_of (k + 1) ≡ rows_end_of k + length (sequent_bytes (machine bytes) (k + 1))
  unfolding rows_end_of numbers flat_map
  rows_next k =
      let f : ℕ → List ℕ = sequent_bytes (machine bytes) in
      let q : 1 + k ≡ k + 1 = omega arith in
      ap (λ ks. length (flat_map f ks)) (numbers_join k 1 1 ∙ ap (λ j. numbers k 1 ++ (j ∷ [])) q)
      ∙ ap length (flat_join f (numbers k 1) ((k + 1) ∷ []) ∙ ap (λ bs. flat_map f (numbers k 1) ++ bs) (append-nil (f (k + 1))))
      ∙ length-append (flat_map f (numbers k 1)) (f (k + 1))

  module _ (n : ℕ) (accepted : verdict bytes ≡ Ok n) where
    pub rows_all : rows_end_of n ≡ length (output bytes)
    unfolding rows_end_of
    rows_all = sym (ap length (output_accepted bytes n accepted))

    pub sequent_stands : (k : ℕ) → k < n → StandsAt bytes (rows_end_of k) (sequent_bytes (machine bytes) (k + 1))
    unfolding rows_end_of
    sequent_stands k h =
        let f : ℕ → List ℕ = sequent_bytes (machine bytes) in
        stands_behind (flat_map f (numbers k 1)) (f (k + 1)) (flat_map f (numbers (n - (k + 1)) (k + 2))) (output_split bytes n accepted k h)
