-- The steps of a part of a run, taken one after another: replaying on from the place that is reached gives what replaying from the part's first byte on gives.
use mathlib.Core.Path.{◌≡◌, refl, sym, ap, ap₂, subst, ◌∙◌}
use mathlib.Core.Bool.{Bool, true, false, ◌||◌, true≢false}
use mathlib.Core.List.{List, [], ◌++◌, append-nil, append_assoc}
use mathlib.Core.Logic.{inl, inr}
use Prim.Native.Nat.{ℕ, suc, ◌+◌, ◌-◌, ◌/◌, ◌≤◌, ◌<◌}
use native.Mathlib.Omega.{arith}
use borrow.Author.Tests.{ltb-true}
use lib.Dec.{ltb}
use lib.ListN.{length, drop, length-drop}
use lib.Seq.{drop-append-le}
use Rattle.std.specs.Prelude.{Result, Ok, Err}
use Rattle.row.specs.Row.{width, row_length}
use Rattle.row.specs.declared.Place.{Place}
use Rattle.table.specs.Rows.{Rows, count}
use Rattle.table.specs.Counts.{counts_of}
use Rattle.table.specs.declared.Table.{Table}
use Rattle.table.proofs.Counts.{counts_identifiers}
use Rattle.rules.specs.declared.Refusal.{Refusal}
use Rattle.rules.specs.Refusal.{refused as refusal}
use Rattle.recording.specs.Lines.{lines}
use Rattle.recording.specs.Replay.{Values, no_values, replay_from, replay_log}
use Rattle.recording.proofs.Enough.{lines_few, replay_enough}
use Rattle.values.specs.Values.{lines_at, row_at, AtHand}
use Rattle.steps.specs.declared.Progress.{Progress}
use Rattle.steps.specs.declared.Progress.TheVariants as step
use Rattle.steps.specs.declared.Part.{Part}
use Rattle.steps.specs.declared.Part.TheVariants.{More, Ended}
use Rattle.steps.specs.Steps.{replay_on, ReplaysStep, BeginsWithin}
use Rattle.steps.specs.Parts.{later_row, replay_rest, part_on, ReplaysPart, is_more, Windows, stops, goes_on, Stops}
use Rattle.steps.proofs.Later.{later, rest_later, rest_within}

-- the test for going on, by the number of identifiers that was counted
pub enough_is : (t : Rows) (table : Table) → table ≡ counts_of t → (last : Bool) (rows : ℕ) → (last || ltb table.identifiers rows) ≡ true → (last || ltb (count t 10) rows) ≡ true
enough_is t table e last rows h = ap (λ k. last || ltb k rows) (sym (counts_identifiers t table e)) ∙ h

pub not_last : (last b : Bool) → (last || b) ≡ false → last ≡ false
not_last true b h = h
not_last false b h = refl

-- more bytes follow a part only where it isn't the last one
abbrev Follows : Bool → List ℕ → Type 0
Follows last more = last ≡ true → more ≡ []

module _ (t : Rows) (before : ℕ) (part : List ℕ) (last : Bool) (n₀ : ℕ) (us : Values) where
  -- n steps taken, up to a place
  pub record Taken (n at : ℕ) (vs : Values) : Type 0 where
    pub same : (more : List ℕ) → Follows last more → (most : ℕ)
        → replay_from t most n (row_at at) (lines_at (part ++ more) at) vs ≡ replay_from t (n - n₀ + most) n₀ 1 (lines (part ++ more)) us
    pub within : at ≤ length part
    pub since : n₀ ≤ n
    pub few : n ≤ n₀ + at

  pub taken_none : {at : ℕ} → at ≡ 0 → Taken n₀ at us
  taken_none {at} e = record {
    same = λ more f most.
        let z : most ≡ n₀ - n₀ + most = omega arith in
        ap (λ at. replay_from t most n₀ (row_at at) (lines_at (part ++ more) at) us) e ∙ ap (λ most. replay_from t most n₀ 1 (lines (part ++ more)) us) z;
    within = omega (arith, e);
    since = omega arith;
    few = omega arith;
  }

  module _ {n at : ℕ} {vs : Values} (taken : Taken n at vs) where
    -- with steps enough on both sides
    all_same : (more : List ℕ) → Follows last more → replay_from t (suc (length (part ++ more))) n (row_at at) (lines_at (part ++ more) at) vs ≡ replay_rest t n₀ 1 (lines (part ++ more)) us
    unfolding replay_rest
    all_same more f =
        let all = part ++ more in
        let l = lines_few all in
        taken.same more f (suc (length all)) ∙ replay_enough t (n - n₀ + suc (length all)) (suc (length (lines all))) n₀ 1 (lines all) us (omega (arith, l)) (omega arith)

    pub part_more : (p : Place) → p.at ≡ at → last ≡ false → ReplaysPart t n₀ before part last us (Ok (More n p)) vs × Stops (Ok (More n p)) n₀ part last
    unfolding part_on replay_rest
    part_more p e f = (
      λ more follows.
          let all = part ++ more in
          let l = lines_few (drop at all) in
          let d = length-drop at all in
          ap (λ at. replay_rest t n (before + row_at at) (lines_at all at) vs) e ∙ rest_later t before n (row_at at) (lines_at all at) vs (omega arith)
          ∙ ap (later before)
          (replay_enough t (suc (length (lines_at all at))) (suc (length all)) n (row_at at) (lines_at all at) vs (omega arith) (omega (arith, l, d))
          ∙ all_same more follows)
          ∙ sym (rest_later t before n₀ 1 (lines all) us (omega arith)),
      (f, (let w = taken.within in omega (arith, w, e)), (let w = taken.few in omega (arith, w, e))),
    )

    -- ---- a step more, all of whose rows are at hand
    module _ (enough : (last || ltb (count t 10) ((length part - at) / row_length width)) ≡ true) (r : Result Progress Refusal) (ws : Values)
        (reads : ReplaysStep t n part at vs r ws) (begins : BeginsWithin r (at + row_length width) (length part)) where
      at_hand_lem : (more : List ℕ) → Follows last more → AtHand part at (1 + count t 10) more
      at_hand_lem more f = go last enough f
        where
          go : (b : Bool) → (b || ltb (count t 10) ((length part - at) / row_length width)) ≡ true → (b ≡ true → more ≡ []) → AtHand part at (1 + count t 10) more
          go true e f = inr (f refl)
          go false e f = let h = ltb-true (count t 10) ((length part - at) / row_length width) e in let w = taken.within in inl (omega (arith, h, w))

      onward : (more : List ℕ) → Follows last more → (most : ℕ) → replay_on t r most n (part ++ more) ws ≡ replay_from t (n - n₀ + suc most) n₀ 1 (lines (part ++ more)) us
      onward more f most = reads more (at_hand_lem more f) most ∙ taken.same more f (suc most)

      whole : (more : List ℕ) → Follows last more → replay_on t r (length (part ++ more)) n (part ++ more) ws ≡ replay_rest t n₀ 1 (lines (part ++ more)) us
      whole more f = reads more (at_hand_lem more f) (length (part ++ more)) ∙ all_same more f

      pub taken_next : (p : Place) → r ≡ Ok (step.Going p) → Taken (n + 1) p.at ws
      unfolding replay_on
      taken_next p q =
          let b = subst (λ r. BeginsWithin r (at + row_length width) (length part)) q begins in
          let low = b.0 in
          let s = taken.since in
          let w = taken.few in
          record {
            same = λ more f most.
                let z : n - n₀ + suc most ≡ n + 1 - n₀ + most = omega (arith, s) in
                ap (λ r. replay_on t r most n (part ++ more) ws) (sym q) ∙ onward more f most ∙ ap (λ most. replay_from t most n₀ 1 (lines (part ++ more)) us) z;
            within = b.1;
            since = omega (arith, s);
            few = omega (arith, w, low);
          }

      pub taken_further : (p : Place) → r ≡ Ok (step.Going p) → at < p.at
      taken_further p q = let low = (subst (λ r. BeginsWithin r (at + row_length width) (length part)) q begins).0 in omega (arith, low)

      pub part_ended : (steps : ℕ) → r ≡ Ok (step.Ended steps) → ReplaysPart t n₀ before part last us (Ok (Ended steps)) ws
      unfolding replay_on part_on later
      part_ended steps q more f =
          ap (later before) (ap (λ r. replay_on t r (length (part ++ more)) n (part ++ more) ws) (sym q) ∙ whole more f) ∙ sym (rest_later t before n₀ 1 (lines (part ++ more)) us (omega arith))

      module _ (wrong : Refusal) (q : r ≡ Err wrong) where
        refused : (more : List ℕ) → Follows last more → Err wrong ≡ replay_rest t n₀ 1 (lines (part ++ more)) us
        unfolding replay_on
        refused more f = ap (λ r. replay_on t r (length (part ++ more)) n (part ++ more) ws) (sym q) ∙ whole more f

        pub refused_within : wrong.row ≤ 1 + length part
        refused_within =
            let all = part ++ [] in
            let h = rest_within t n₀ 1 (lines all) us wrong.number wrong.row (refused [] (λ last. refl)) in
            let l = lines_few all in
            let e = ap length (append-nil part) in
            omega (arith, h, l, e)

        pub part_refused : {later-row : ℕ} → later-row ≡ later_row before wrong.row → ReplaysPart t n₀ before part last us (Err (refusal wrong.number later-row)) ws
        unfolding part_on later
        part_refused is more f = ap (λ r. Err (refusal wrong.number r)) is ∙ ap (later before) (refused more f) ∙ sym (rest_later t before n₀ 1 (lines (part ++ more)) us (omega arith))

-- ---- a part that is the whole of a run
module _ (t : Rows) (run : List ℕ) (us ws : Values) (r : Result Part Refusal) (reads : ReplaysPart t 0 0 run true us r ws) (stops : Stops r 0 run true) where
  whole_run : part_on t 0 r run ws ≡ replay_rest t 0 1 (lines run) us
  whole_run = subst (λ all. part_on t 0 r all ws ≡ replay_rest t 0 1 (lines all) us) (append-nil run) (reads [] (λ last. refl))

  pub never_more : (n : ℕ) (p : Place) → r ≡ Ok (More n p) → ⊥
  never_more n p q = true≢false (subst (λ r. Stops r 0 run true) q stops).0

  pub run_ended : (steps : ℕ) → r ≡ Ok (Ended steps) → Ok steps ≡ replay_rest t 0 1 (lines run) us
  unfolding part_on
  run_ended steps q = ap (λ r. part_on t 0 r run ws) (sym q) ∙ whole_run

  pub run_refused : (wrong : Refusal) → r ≡ Err wrong → Err wrong ≡ replay_rest t 0 1 (lines run) us
  unfolding part_on
  run_refused wrong q = ap (λ r. part_on t 0 r run ws) (sym q) ∙ whole_run

-- a run replayed from its first row on
pub replay_whole : (t : Rows) (run : List ℕ) → replay_rest t 0 1 (lines run) no_values ≡ replay_log t run
unfolding replay_rest replay_log
replay_whole t run = refl

-- ---- windows
module _ (t : Rows) where
  -- a reply that is there doesn't turn on the bytes
  reply_there : (before : ℕ) (r : Result Part Refusal) (run other : List ℕ) (ws : Values) → is_more r ≡ false → part_on t before r run ws ≡ part_on t before r other ws
  unfolding part_on
  reply_there before (Ok (More n place)) run other ws h = absurd (true≢false h)
  reply_there before (Ok (Ended steps)) run other ws h = refl
  reply_there before (Err wrong) run other ws h = refl

  -- Windows that are replayed one after another give the reply of the run that they are made of.
  pub windows_replay : {n before : ℕ} {window unread : List ℕ} {vs : Values} {reply : Result ℕ Refusal} → Windows t n before window vs unread reply → reply ≡ replay_rest t n (before + 1) (lines (window ++ unread)) vs
  unfolding part_on
  windows_replay {before = before} {window = window} {unread = unread} (stops last r ws follows there reads) = reply_there before r window (window ++ unread) ws there ∙ reads unread follows
  windows_replay {before = before} {window = window} (goes_on {unread = unread} next last m place ws follows within reads rest) =
      let at = place.at in
      let row : before + at / 38 + 1 ≡ before + row_at at = omega arith in
      windows_replay rest
      ∙ ap₂ (λ i bytes. replay_rest t m i (lines bytes) ws) row (append_assoc (drop at window) next unread ∙ sym (drop-append-le at window (next ++ unread) within))
      ∙ reads (next ++ unread) follows

  -- from the first window on
  pub windows_whole : {window unread : List ℕ} {reply : Result ℕ Refusal} → Windows t 0 0 window no_values unread reply → reply ≡ replay_log t (window ++ unread)
  windows_whole {window} {unread} w = windows_replay w ∙ replay_whole t (window ++ unread)
