-- What one row of a run makes of the reading: by what the reader finds at the place.
use mathlib.Core.Path.{◌≡◌, refl, sym, ap, ap₂, subst, ◌∙◌}
use mathlib.Core.Bool.{Bool, true, false, not, ◌&&◌, ◌||◌}
use mathlib.Core.List.{List, [], ◌∷◌, ◌++◌, append-nil}
use mathlib.Core.Logic.{inl, inr}
use Prim.Native.Nat.{ℕ, ◌+◌, ◌-◌, ◌*◌, ◌≤◌, ◌<◌}
use native.Mathlib.Omega.{arith}
use borrow.Author.Tests.{eq-eqb, ne_eqb, ltb-true, ltb-false, lt-ltb, le-ltb}
use lib.Dec.{ltb, eqb}
use Rattle.std.specs.Prelude.{Ok, Err}
use lib.ListN.{length, take, drop, length-drop, length-append}
use lib.Seq.{drop-drop, drop-append-le, take-append-le}
use Rattle.lists.specs.Choice.{pick}
use Rattle.lists.specs.Below.{one_if, first}
use Rattle.row.specs.Row.{greatest, width, row_length, part}
use Rattle.row.specs.Reading.{line_at, found_at, read_at, Line}
use Rattle.row.specs.declared.Row.{Row}
use Rattle.row.specs.declared.Place.{Place}
use Rattle.std.specs.Prelude.{Some, None}
use Rattle.row.specs.declared.Read.{Read}
use Rattle.row.specs.declared.Read.TheVariants as read
use Rattle.formula.specs.Values.{whole_number}
use Rattle.table.specs.Names.{is_variable_of}
use Rattle.table.specs.Rows.{Rows, count, kind_of, owner_of}
use Rattle.machine.specs.Machine.{unassigned, becomes_equal, becomes_such_that}
use Rattle.machine.specs.Described.{sets, action_of}
use Rattle.machine.proofs.Described.{action_by_row}
use Rattle.recording.specs.Rows.{is_initial, is_given, is_value_row, logged}
use Rattle.recording.specs.Replay.{Values, Found, bad, store_by, read_values}
use Rattle.recording.specs.Lines.{lines}
use Rattle.recording.proofs.Lines.{lines_none, lines_torn, lines_whole}
use Rattle.bench.specs.Choice.{is_such_that, asked}
use Rattle.values.specs.declared.BadRow.{BadRow}
use Rattle.values.specs.Values.{Reached, lines_at, row_at, AtHand, is_told, is_wanted, wanted, read_on, ReadsValue, ReadsIdentifier, ReadsValues, Reaches}
use Rattle.values.proofs.Behind.{behind, behind_all, behind_next, behind_none, kept_within}

-- a row that is stored, and one that isn't
pub row_stored : {b : Bool} {u v : Values} (w : Values) → b ≡ true → u ≡ v → (true ≡ b) × (u ≡ pick b v w)
row_stored {v = v} w h e = (sym h, e ∙ sym (ap (λ b. pick b v w) h))

pub row_left : {b : Bool} (v w : Values) → b ≡ false → (false ≡ b) × (w ≡ pick b v w)
row_left v w h = (sym h, sym (ap (λ b. pick b v w) h))

-- the reader finds the first of the rows from the place on, and the place after it
module _ (run : List ℕ) (at : ℕ) where
  pub data Seen : Read → Type 0 where
    at_end : lines_at run at ≡ [] → Seen read.End
    at_bad : (ls : List Line) → lines_at run at ≡ None ∷ ls → Seen read.Malformed
    at_row : (r : Row) (p : Place) → lines_at run at ≡ Some r ∷ lines_at run p.at → (p.at ≡ at + row_length width) × (p.at ≤ length run) → Seen (read.Next r p)

  abbrev bytes : List ℕ
  bytes = part run at (at + row_length width)

  whole_row : at + row_length width ≤ length run → lines_at run at ≡ line_at greatest width bytes ∷ lines_at run (at + row_length width)
  whole_row h =
      let d = length-drop at run in
      let n : at + 38 - at ≡ 38 = omega arith in
      lines_whole (drop at run) (omega (arith, d))
      ∙ ap₂ (λ k bytes. line_at greatest width (take k (drop at run)) ∷ lines bytes) (sym n) (drop-drop (row_length width) at run)

  found_seen : (l : Line) → at + row_length width ≤ length run → line_at greatest width bytes ≡ l → Seen (found_at (at + row_length width) l)
  found_seen (Some r) h e = at_row r (record { at = at + 38 }) (whole_row h ∙ ap (λ l. l ∷ lines_at run (at + 38)) e) (refl, h)
  found_seen None h e = at_bad (lines_at run (at + 38)) (whole_row h ∙ ap (λ l. l ∷ lines_at run (at + 38)) e)

  read_seen : Seen (read_at greatest width run at)
  read_seen = go (ltb at (length run)) (ltb (length run) (at + row_length width)) refl refl
    where
      found : Read
      found = found_at (at + row_length width) (line_at greatest width bytes)

      go : (a b : Bool) → ltb at (length run) ≡ a → ltb (length run) (at + row_length width) ≡ b → Seen (pick a (pick b read.Malformed found) read.End)
      go false b p q = let d = length-drop at run in let h = ltb-false at (length run) p in at_end (lines_none (drop at run) (omega (arith, d, h)))
      go true true p q =
          let d = length-drop at run in let h = ltb-true at (length run) p in let k = ltb-true (length run) (at + row_length width) q in
          at_bad [] (lines_torn (drop at run) (omega (arith, d, h)) (omega (arith, d, h, k)))
      go true false p q = found_seen (line_at greatest width bytes) (ltb-false (length run) (at + row_length width) q) refl

  read_whole : at + row_length width ≤ length run → read_at greatest width run at ≡ found_at (at + row_length width) (line_at greatest width bytes)
  read_whole h = simp (lt-ltb at (length run) (omega arith), le-ltb (length run) (at + row_length width) h)

-- a row that is at hand is the same whatever follows
read_more : (run more : List ℕ) (at : ℕ) → AtHand run at 1 more → read_at greatest width run at ≡ read_at greatest width (run ++ more) at
read_more run more at (inr e) = ap (λ bytes. read_at greatest width bytes at) (sym (ap (λ more. run ++ more) e ∙ append-nil run))
read_more run more at (inl h) =
    let l = length-append run more in
    let d = length-drop at run in
    read_whole run at (omega arith)
    ∙ ap (λ bytes. found_at (at + 38) (line_at greatest width bytes))
    (sym (ap (take (at + 38 - at)) (drop-append-le at run more (omega arith)) ∙ take-append-le (at + 38 - at) (drop at run) more (omega (arith, d))))
    ∙ sym (read_whole (run ++ more) at (omega (arith, l)))

-- ---- what was read, by what it is
module _ (run more : List ℕ) (at : ℕ) (hand : AtHand run at 1 more) {f : Read} (seen : f ≡ read_at greatest width run at) where
  found_is : Seen (run ++ more) at f
  found_is = subst (Seen (run ++ more) at) (sym (seen ∙ read_more run more at hand)) (read_seen (run ++ more) at)

  pub end_lines : f ≡ read.End → lines_at (run ++ more) at ≡ []
  end_lines e = of_end (subst (Seen (run ++ more) at) e found_is)
    where
      of_end : Seen (run ++ more) at read.End → lines_at (run ++ more) at ≡ []
      of_end (at_end h) = h

  pub malformed_lines : f ≡ read.Malformed → (ls : List Line) × (lines_at (run ++ more) at ≡ None ∷ ls)
  malformed_lines e = of_malformed (subst (Seen (run ++ more) at) e found_is)
    where
      of_malformed : Seen (run ++ more) at read.Malformed → (ls : List Line) × (lines_at (run ++ more) at ≡ None ∷ ls)
      of_malformed (at_bad ls h) = (ls, h)

  pub row_lines : (r : Row) (p : Place) → f ≡ read.Next r p → lines_at (run ++ more) at ≡ Some r ∷ lines_at (run ++ more) p.at
  row_lines r p e = of_row (subst (Seen (run ++ more) at) e found_is)
    where
      of_row : Seen (run ++ more) at (read.Next r p) → lines_at (run ++ more) at ≡ Some r ∷ lines_at (run ++ more) p.at
      of_row (at_row r p h k) = h

-- the place after a row, and its number
pub next_place : (run : List ℕ) (at : ℕ) {f : Read} → f ≡ read_at greatest width run at → (r : Row) (p : Place) → f ≡ read.Next r p → (p.at ≡ at + row_length width) × (p.at ≤ length run)
next_place run at seen r p e = of_row (subst (Seen run at) (sym seen ∙ e) (read_seen run at))
  where
    of_row : Seen run at (read.Next r p) → (p.at ≡ at + row_length width) × (p.at ≤ length run)
    of_row (at_row r p h k) = k

next_row : (at : ℕ) {b : ℕ} → b ≡ at + row_length width → row_at b ≡ row_at at + 1
next_row at e = ap row_at e ∙ omega arith

-- ---- reading the row 91 of the identifier x
module _ (t : Rows) (given : Bool) (x : ℕ) (run : List ℕ) (at : ℕ) (vs : Values) {f : Read} (seen : f ≡ read_at greatest width run at) where
  pub value_ends : f ≡ read.End → ReadsValue t given x run at vs (Err (record { row = 0 })) vs
  unfolding read_on read_values
  value_ends q more hand e g ys = sym (ap (λ ls. read_values t e (x ∷ ys) (row_at at) ls vs) (end_lines run more at hand seen q))

  pub value_malformed : {row : ℕ} → f ≡ read.Malformed → row ≡ row_at at → ReadsValue t given x run at vs (Err (record { row = row })) vs
  unfolding read_on read_values
  value_malformed q k more hand e g ys = ap bad k ∙ sym (ap (λ ls. read_values t e (x ∷ ys) (row_at at) ls vs) (malformed_lines run more at hand seen q).1)

  module _ (r : Row) (p : Place) (q : f ≡ read.Next r p) {good : Bool} {ws : Values} (is : good ≡ is_value_row t x r)
      (stored : ws ≡ pick (is_value_row t x r) (store_by given x (whole_number r.b) vs) vs) where
    abbrev next : Values
    next = store_by given x (whole_number r.b) vs

    pub value_stored : good ≡ true → ReadsValue t given x run at vs (Ok p) ws
    unfolding read_on read_values
    value_stored b more hand e g ys =
        let passes : is_value_row t x r ≡ true = sym is ∙ b in
        let rest : List Line = lines_at (run ++ more) p.at in
        ap₂ (λ i us. read_values t e ys i rest us) (next_row at (next_place run at seen r p q).0) (stored ∙ ap (λ b. pick b next vs) passes ∙ ap (λ g. store_by g x (whole_number r.b) vs) g)
        ∙ sym (ap (λ ls. read_values t e (x ∷ ys) (row_at at) ls vs) (row_lines run more at hand seen r p q)
        ∙ ap (λ b. pick b (read_values t e ys (row_at at + 1) rest (store_by (is_given t e x) x (whole_number r.b) vs)) (bad (row_at at))) passes)

    pub value_wrong : {row : ℕ} → good ≡ false → row ≡ row_at at → ReadsValue t given x run at vs (Err (record { row = row })) ws
    unfolding read_on read_values
    value_wrong b k more hand e g ys =
        let fails : is_value_row t x r ≡ false = sym is ∙ b in
        let rest : List Line = lines_at (run ++ more) p.at in
        ap bad k ∙ sym (ap (λ ls. read_values t e (x ∷ ys) (row_at at) ls vs) (row_lines run more at hand seen r p q)
        ∙ ap (λ b. pick b (read_values t e ys (row_at at + 1) rest (store_by (is_given t e x) x (whole_number r.b) vs)) (bad (row_at at))) fails)

-- ---- an identifier that may have no row 91

-- whether it is given, by what was read of it
module _ (t : Rows) (e x : ℕ) {i : Bool} {k : ℕ} (is : i ≡ is_initial t e) (kind : k ≡ kind_of t x) where
  abbrev given : Bool → Bool → Bool
  given i parameter = pick i (eqb k 1) (parameter && eqb (owner_of t x) e)

  given_by : is_given t e x ≡ given i (eqb k 5)
  given_by = sym (ap₂ (λ i k. pick i (eqb k 1) (eqb k 5 && eqb (owner_of t x) e)) is kind)

  pub given_constant : i ≡ true → eqb k 1 ≡ is_given t e x
  given_constant h = sym (given_by ∙ ap (λ i. given i (eqb k 5)) h)

  pub given_none : i ≡ false → (k ≡ 5 → ⊥) → false ≡ is_given t e x
  given_none h other = sym (given_by ∙ ap₂ given h (ne_eqb k 5 other))

  pub given_owned : {o : ℕ} → i ≡ false → k ≡ 5 → o ≡ owner_of t x → eqb o e ≡ is_given t e x
  given_owned h parameter o = ap (λ o. eqb o e) o ∙ sym (given_by ∙ ap₂ given h (eq-eqb k 5 parameter))

module _ (t : Rows) (pressing : Bool) (e x : ℕ) (run : List ℕ) {w : Bool} (is : w ≡ is_wanted t pressing e x) where
  pub identifier_read : (at : ℕ) (vs : Values) (given : Bool) (r : Reached) (ws : Values) → w ≡ true → given ≡ is_given t e x → ReadsValue t given x run at vs r ws → Reaches r run (at + row_length width)
      → ReadsIdentifier t pressing e x run at vs r ws × Reaches r run (at + row_length width * one_if (is_wanted t pressing e x))
  identifier_read at vs given r ws h g reads next =
      let has : is_wanted t pressing e x ≡ true = sym is ∙ h in (
        λ more hand ys. reads more (subst (λ b. AtHand run at (one_if b) more) has hand) e g ys
            ∙ sym (ap (λ b. read_values t e (pick b (x ∷ ys) ys) (row_at at) (lines_at (run ++ more) at) vs) has),
        subst (λ b. Reaches r run (at + row_length width * one_if b)) (sym has) next,
      )

  pub identifier_skipped : (p : Place) (vs : Values) → p.at ≤ length run → w ≡ false → ReadsIdentifier t pressing e x run p.at vs (Ok p) vs × Reaches (Ok p) run (p.at + row_length width * one_if (is_wanted t pressing e x))
  unfolding read_on
  identifier_skipped p vs within h =
      let has : is_wanted t pressing e x ≡ false = sym is ∙ h in (
        λ more hand ys. sym (ap (λ b. read_values t e (pick b (x ∷ ys) ys) (row_at p.at) (lines_at (run ++ more) p.at) vs) has),
        (omega arith ∙ sym (ap (λ b. p.at + row_length width * one_if b) has), within),
      )

-- what rows tell: a log of each variable, a choice of those of 52 actions
pub wanted_logged : (t : Rows) (e : ℕ) → wanted t false e ≡ logged t e
unfolding wanted logged
wanted_logged t e = refl

pub wanted_asked : (t : Rows) (e : ℕ) → wanted t true e ≡ asked t e
unfolding wanted asked
wanted_asked t e = refl

-- a 52 is an action that isn't a 51
pub such_that : (t : Rows) (e x : ℕ) {i n tag : ℕ} → i ≡ first (sets t e x) t.size 0 → n ≡ t.size → tag ≡ t.tag i → ltb i n && not (eqb tag 51) ≡ is_such_that (action_of t e x)
such_that t e x {i} p q r =
    ap₂ (λ n tag. ltb i n && not (eqb tag 51)) q r ∙ go (ltb i t.size) (eqb (t.tag i) 51)
    ∙ sym (ap is_such_that (action_by_row t e x i p (ltb i t.size) (eqb (t.tag i) 51) refl refl))
  where
    go : (a b : Bool) → (a && not b) ≡ is_such_that (pick a (pick b (becomes_equal (t.c i)) (becomes_such_that (t.c i))) unassigned)
    go true true = refl
    go true false = refl
    go false b = refl

-- whose after values rows tell
module _ (t : Rows) (pressing : Bool) (e x : ℕ) {v : Bool} {k : ℕ} (variable : v ≡ is_variable_of 3 k) (kind : k ≡ kind_of t x) where
  abbrev told : Bool → Bool
  told pressing = (not pressing || is_such_that (action_of t e x)) && is_variable_of 3 (kind_of t x)

  pub told_choice : {s : Bool} → pressing ≡ true → s ≡ is_such_that (action_of t e x) → (s && v) ≡ is_told t pressing e x
  told_choice h s = ap₂ ◌&&◌ s (variable ∙ ap (is_variable_of 3) kind) ∙ sym (ap told h)

  pub told_log : pressing ≡ false → v ≡ is_told t pressing e x
  told_log h = variable ∙ ap (is_variable_of 3) kind ∙ sym (ap told h)

-- ---- the identifiers behind x
module _ (t : Rows) (pressing : Bool) (e : ℕ) where
  abbrev pub wanted_from : ℕ → List ℕ
  wanted_from x = behind (is_wanted t pressing e) (count t 10) x

  -- at most one row for each identifier
  pub wanted_within : length (wanted t pressing e) ≤ count t 10
  unfolding wanted
  wanted_within = kept_within (is_wanted t pressing e) (count t 10) 1

  wanted_all : wanted_from 0 ≡ wanted t pressing e
  unfolding wanted
  wanted_all = behind_all (is_wanted t pressing e) (count t 10)

  -- what reading for all identifiers from a place on finds
  abbrev pub reads_all : List ℕ → ℕ → Values → List ℕ → Found
  reads_all run at vs more = read_values t e (wanted t pressing e) (row_at at) (lines_at (run ++ more) at) vs

  -- reading on for those behind x gives that
  pub record Rest (run : List ℕ) (start : ℕ) (us : Values) (x at : ℕ) (vs : Values) : Type 0 where
    pub reads : (more : List ℕ) → AtHand run start (length (wanted t pressing e)) more → read_values t e (wanted_from x) (row_at at) (lines_at (run ++ more) at) vs ≡ reads_all run start us more
    pub place : at + row_length width * length (wanted_from x) ≡ start + row_length width * length (wanted t pressing e)
    pub within : at ≤ length run

  module _ (run : List ℕ) where
    pub rest_start_lem : (at : ℕ) (vs : Values) → at ≤ length run → Rest run at vs 0 at vs
    rest_start_lem at vs within = record {
      reads = λ more hand. ap (λ xs. read_values t e xs (row_at at) (lines_at (run ++ more) at) vs) wanted_all;
      place = ap (λ xs. at + row_length width * length xs) wanted_all;
      within = within;
    }

    module _ {start : ℕ} {us : Values} (x : ℕ) (h : x < count t 10) (at : ℕ) (vs : Values) (rest : Rest run start us x at vs) (r : Reached) (ws : Values)
        (reads : ReadsIdentifier t pressing e (x + 1) run at vs r ws) (next : Reaches r run (at + row_length width * one_if (is_wanted t pressing e (x + 1)))) where
      rows_left : length (wanted_from x) ≡ one_if (is_wanted t pressing e (x + 1)) + length (wanted_from (x + 1))
      rows_left = ap length (behind_next (is_wanted t pressing e) (count t 10) x h) ∙ go (is_wanted t pressing e (x + 1))
        where
          go : (b : Bool) → length (pick b ((x + 1) ∷ wanted_from (x + 1)) (wanted_from (x + 1))) ≡ one_if b + length (wanted_from (x + 1))
          go true = omega arith
          go false = omega arith

      at_hand_lem : (more : List ℕ) → AtHand run start (length (wanted t pressing e)) more → AtHand run at (one_if (is_wanted t pressing e (x + 1))) more
      at_hand_lem more (inl k) = inl (omega (arith, k, rows_left, rest.place))
      at_hand_lem more (inr k) = inr k

      whole : (more : List ℕ) → AtHand run start (length (wanted t pressing e)) more → read_on t r e (wanted_from (x + 1)) (run ++ more) ws ≡ reads_all run start us more
      whole more hand =
          reads more (at_hand_lem more hand) (wanted_from (x + 1))
          ∙ sym (ap (λ xs. read_values t e xs (row_at at) (lines_at (run ++ more) at) vs) (behind_next (is_wanted t pressing e) (count t 10) x h)) ∙ rest.reads more hand

      pub rest_next : (p : Place) → r ≡ Ok p → Rest run start us (x + 1) p.at ws
      unfolding read_on
      rest_next p q =
          let k = subst (λ r. Reaches r run (at + row_length width * one_if (is_wanted t pressing e (x + 1)))) q next in
          record {
            reads = λ more hand. ap (λ r. read_on t r e (wanted_from (x + 1)) (run ++ more) ws) (sym q) ∙ whole more hand;
            place = (let e = k.0 in omega (arith, e, rows_left, rest.place));
            within = k.1;
          }

      pub rest_bad : (wrong : BadRow) → r ≡ Err wrong → ReadsValues t e (wanted t pressing e) run start us (Err wrong) ws
      unfolding read_on
      rest_bad wrong q more hand = ap (λ r. read_on t r e (wanted_from (x + 1)) (run ++ more) ws) (sym q) ∙ whole more hand

    pub rest_end : {start : ℕ} {us : Values} (x : ℕ) (p : Place) (vs : Values) → count t 10 ≤ x → Rest run start us x p.at vs
        → ReadsValues t e (wanted t pressing e) run start us (Ok p) vs × Reaches (Ok p) run (start + row_length width * length (wanted t pressing e))
    unfolding read_on
    rest_end x p vs h rest = (
      λ more hand. ap (λ xs. read_values t e xs (row_at p.at) (lines_at (run ++ more) p.at) vs) (sym (behind_none (is_wanted t pressing e) (count t 10) x h)) ∙ rest.reads more hand,
      (let z = ap length (behind_none (is_wanted t pressing e) (count t 10) x h) in (omega (arith, z, rest.place), rest.within)),
    )
