-- Reading the rows 91 of a step stops exactly at the first identifier whose row is missing or bad: at the end of the log, or at a row that is torn, in no row form or
-- unexpected. By induction on the identifiers; and what a bad row is, of rows as of bytes.
use Prim.Native.Nat.{ℕ, ◌+◌}
use mathlib.Core.Path.{◌≡◌, refl, sym, ap, ◌∙◌, subst}
use mathlib.Core.Bool.{Bool, true, false}
use mathlib.Core.List.{List, [], ◌∷◌, ◌++◌, flat_map, append-nil}
use mathlib.Core.Logic.{◌⊎◌, inl, inr}
use native.Mathlib.Omega.{arith}
use lib.Dec.{T}
use lib.ListN.{length}
use Rattle.lists.specs.Choice.{pick}
use Rattle.lists.specs.All.{all_nil, all_cons}
use Rattle.lists.proofs.All.{all_head}
use Rattle.row.specs.Row.{width, row_bytes}
use Rattle.row.specs.declared.Row.{Row}
use Rattle.row.specs.Reading.{Line}
use Rattle.std.specs.Prelude.{Some, None}
use Rattle.formula.specs.Values.{whole_number}
use Rattle.formula.proofs.Truth.{test_true, true_test}
use Rattle.table.specs.Rows.{Rows}
use Rattle.recording.specs.Rows.{is_value_row}
use Rattle.recording.specs.Lines.{lines}
use Rattle.recording.specs.Replay.{Values, Found, found, bad, store, read_values}
use Rattle.recording.specs.Refusal.{Begins}
use Rattle.recording.proofs.Values.{bad_never, read_first}
use Rattle.recording.proofs.Lines.{nothing_more, head_is, whole_never, lines_none, lines_nothing, lines_open, open_lines}

-- ---- a row that is bad

-- the rows begin with one that passes a test
pub record Starts (good : Row → Bool) (ls : List Line) : Type 0 where
  pub row : Row
  pub others : List Line
  pub passes : T (good row)
  pub lines_are_of : ls ≡ Some row ∷ others

-- there is a row, and it is torn, in no row form or unexpected
abbrev pub Bad : (Row → Bool) → List Line → Type 0
Bad good ls = ¬ (ls ≡ []) × ¬ Starts good ls

-- so of bytes
abbrev pub BadBytes : Rows → (Row → Bool) → List ℕ → Type 0
BadBytes t good bytes = ¬ (bytes ≡ []) × ¬ Begins t good bytes

whole_is : {q r : Row} → Some q ≡ Some r → q ≡ r
whole_is {q} e = ap (λ (l : Line). elim l [ Some r ↦ r | None ↦ q ]) e

module _ (good : Row → Bool) where
  pub bad_malformed : (ls : List Line) → Bad good (None ∷ ls)
  bad_malformed ls = (λ e. nothing_more (sym e), λ s. whole_never (head_is s.lines_are_of))

  pub bad_whole : (r : Row) (ls : List Line) → good r ≡ false → Bad good (Some r ∷ ls)
  bad_whole r ls g = (λ e. nothing_more (sym e), λ s. subst T (ap good (sym (whole_is (head_is s.lines_are_of))) ∙ g) s.passes)

  pub whole_bad : (r : Row) (ls : List Line) → Bad good (Some r ∷ ls) → good r ≡ false
  whole_bad r ls (some, b) = go (good r) refl
    where
      go : (g : Bool) → good r ≡ g → good r ≡ false
      go true e = absurd (b (record { row = r; others = ls; passes = true_test _ e; lines_are_of = refl }))
      go false e = e

module _ (t : Rows) (good : Row → Bool) (bytes : List ℕ) where
  begins_starts : Begins t good bytes → Starts good (lines bytes)
  unfolding flat_map
  begins_starts b = record {
    row = b.row;
    others = lines b.others;
    passes = b.passes;
    lines_are_of = ap lines (b.bytes_are ∙ ap (λ bytes. bytes ++ b.others) (sym (append-nil (row_bytes width b.row)))) ∙ open_lines (b.row ∷ []) b.others (all_cons b.in_form all_nil);
  }

  starts_begins : Starts good (lines bytes) → Begins t good bytes
  unfolding flat_map
  starts_begins s =
      let o = lines_open (s.row ∷ []) s.others bytes s.lines_are_of in
      record {
        row = s.row;
        others = o.more;
        passes = s.passes;
        in_form = all_head o.in_form;
        bytes_are = o.bytes_are ∙ ap (λ bytes. bytes ++ o.more) (append-nil (row_bytes width s.row));
      }

  pub bad_bytes : BadBytes t good bytes → Bad good (lines bytes)
  bad_bytes (some, b) = (λ e. some (lines_nothing bytes e), λ s. b (starts_begins s))

  pub bytes_bad : Bad good (lines bytes) → BadBytes t good bytes
  bytes_bad (some, b) = (λ e. some (ap lines e ∙ lines_none [] refl), λ s. b (begins_starts s))

-- ---- the rows 91 of a step
bad_is : {i j : ℕ} → bad i ≡ bad j → i ≡ j
bad_is {i} e = ap (λ (f : Found). elim f [ found vs ls ↦ i | bad j ↦ j ]) e

module _ (t : Rows) (e : ℕ) where
  -- the rows before are read, and then the log ends, with row 0, or the next row is bad
  abbrev pub Stops : ℕ → List Line → ℕ → ℕ → Type 0
  Stops y rest i j = ((rest ≡ []) × (j ≡ 0)) ⊎ (Bad (is_value_row t y) rest × (j ≡ i))

  pub record Stopped (xs : List ℕ) (i : ℕ) (ls : List Line) (vs : Values) (j : ℕ) : Type 0 where
    pub before : List ℕ
    pub identifier : ℕ
    pub later : List ℕ
    pub values : Values
    pub rest : List Line
    pub are : xs ≡ before ++ (identifier ∷ later)
    pub reads : read_values t e before i ls vs ≡ found values rest
    pub stops : Stops identifier rest (i + length before) j

  -- at the first row
  stopped_here : (x : ℕ) (xs : List ℕ) (i : ℕ) (ls : List Line) (vs : Values) (j : ℕ) → Stops x ls i j → Stopped (x ∷ xs) i ls vs j
  unfolding read_values
  stopped_here x xs i ls vs j s =
      record { before = []; identifier = x; later = xs; values = vs; rest = ls; are = refl; reads = refl; stops = subst (λ i. Stops x ls i j) (omega arith) s }

  -- at a later one
  stopped_later : (x : ℕ) (xs : List ℕ) (i : ℕ) (r : Row) (ls : List Line) (vs : Values) (j : ℕ) → is_value_row t x r ≡ true
      → Stopped xs (i + 1) ls (store t e x (whole_number r.b) vs) j → Stopped (x ∷ xs) i (Some r ∷ ls) vs j
  unfolding read_values
  stopped_later x xs i r ls vs j g s = record {
    before = x ∷ s.before;
    identifier = s.identifier;
    later = s.later;
    values = s.values;
    rest = s.rest;
    are = ap (λ ys. x ∷ ys) s.are;
    reads = ap (λ b. pick b (read_values t e s.before (i + 1) ls (store t e x (whole_number r.b) vs)) (bad i)) g ∙ s.reads;
    stops = subst (λ i. Stops s.identifier s.rest i j) (omega arith) s.stops;
  }

  pub read_stops : (xs : List ℕ) (i : ℕ) (ls : List Line) (vs : Values) (j : ℕ) → read_values t e xs i ls vs ≡ bad j → Stopped xs i ls vs j
  unfolding read_values
  read_stops [] i ls vs j h = absurd (bad_never (sym h))
  read_stops (x ∷ xs) i [] vs j h = stopped_here x xs i [] vs j (inl (refl, sym (bad_is h)))
  read_stops (x ∷ xs) i (None ∷ ls) vs j h = stopped_here x xs i (None ∷ ls) vs j (inr (bad_malformed (is_value_row t x) ls, sym (bad_is h)))
  read_stops (x ∷ xs) i (Some r ∷ ls) vs j h = go (is_value_row t x r) refl h (read_stops xs (i + 1) ls (store t e x (whole_number r.b) vs) j)
    where
      us : Values
      us = store t e x (whole_number r.b) vs

      go : (b : Bool) → is_value_row t x r ≡ b → pick b (read_values t e xs (i + 1) ls us) (bad i) ≡ bad j
          → (read_values t e xs (i + 1) ls us ≡ bad j → Stopped xs (i + 1) ls us j) → Stopped (x ∷ xs) i (Some r ∷ ls) vs j
      go true g h rest = stopped_later x xs i r ls vs j g (rest h)
      go false g h rest = stopped_here x xs i (Some r ∷ ls) vs j (inr (bad_whole (is_value_row t x) r ls g, sym (bad_is h)))

  -- the other way round: reading goes on after the rows that were read
  read_on_lem : (xs ys : List ℕ) (i : ℕ) (ls : List Line) (vs ws : Values) (rest : List Line) → read_values t e xs i ls vs ≡ found ws rest
      → read_values t e (xs ++ ys) i ls vs ≡ read_values t e ys (i + length xs) rest ws
  unfolding read_values
  read_on_lem [] ys i ls vs ws rest h = ap onward h ∙ ap (λ i. read_values t e ys i rest ws) (omega arith)
    where
      onward : Found → Found
      onward f = elim f [ found us ls ↦ read_values t e ys i ls us | bad j ↦ bad j ]
  read_on_lem (x ∷ xs) ys i ls vs ws rest h =
      let f = read_first t e x xs i ls vs ws rest h in
      let us : Values = store t e x (whole_number f.row.b) vs in
      ap (λ ls. read_values t e (x ∷ (xs ++ ys)) i ls vs) f.lines
      ∙ ap (λ b. pick b (read_values t e (xs ++ ys) (i + 1) f.others us) (bad i)) (test_true (is_value_row t x f.row) f.good)
      ∙ read_on_lem xs ys (i + 1) f.others us ws rest f.then ∙ ap (λ i. read_values t e ys i rest ws) (omega arith)

  row_stops : (y : ℕ) (ys : List ℕ) (i j : ℕ) (rest : List Line) (vs : Values) → Stops y rest i j → read_values t e (y ∷ ys) i rest vs ≡ bad j
  unfolding read_values
  row_stops y ys i j rest vs (inl (n, z)) = ap (λ rest. read_values t e (y ∷ ys) i rest vs) n ∙ ap bad (sym z)
  row_stops y ys i j rest vs (inr (b, z)) = go rest b ∙ ap bad (sym z)
    where
      go : (rest : List Line) → Bad (is_value_row t y) rest → read_values t e (y ∷ ys) i rest vs ≡ bad i
      go [] b = absurd (b.0 refl)
      go (None ∷ ls) b = refl
      go (Some r ∷ ls) b = ap (λ g. pick g (read_values t e ys (i + 1) ls (store t e y (whole_number r.b) vs)) (bad i)) (whole_bad (is_value_row t y) r ls b)

  pub stops_read : (xs : List ℕ) (i : ℕ) (ls : List Line) (vs : Values) (j : ℕ) → Stopped xs i ls vs j → read_values t e xs i ls vs ≡ bad j
  stops_read xs i ls vs j s =
      ap (λ xs. read_values t e xs i ls vs) s.are ∙ read_on_lem s.before (s.identifier ∷ s.later) i ls vs s.values s.rest s.reads
      ∙ row_stops s.identifier s.later (i + length s.before) j s.rest s.values s.stops
