-- Reading the rows 91 of a step: it finds values exactly where the rows are those of these values, and then each is stored in its place and nothing else changes.
-- By induction on the identifiers.
use Prim.Native.Nat.{ℕ, ◌+◌, ◌<◌}
use mathlib.Core.Path.{◌≡◌, refl, sym, ap, ap₂, ◌∙◌, subst}
use mathlib.Core.Bool.{Bool, true, false, true≢false, ◌&&◌}
use mathlib.Core.List.{List, [], ◌∷◌, ◌++◌, map}
use mathlib.Core.Logic.{◌⊎◌, inl, inr}
use lib.Dec.{T, eqb, eqb→eq}
use lib.IntN.{ℤ, pos}
use lib.ListN.{length, get_or, set, length-set}
use lib.Seq.{get_or-set_same, get_or-set_other}
use Rattle.lists.specs.Choice.{pick}
use Rattle.lists.specs.All.{All, In, here, there}
use Rattle.lists.proofs.All.{all_head, all_tail, all_at, in_nil, in_cons, in_dec}
use Rattle.lists.proofs.Distinct.{Distinct, pairwise_head, pairwise_tail}
use Rattle.row.specs.Row.{greatest, width, Writable}
use Rattle.row.specs.declared.Row.{Row}
use Rattle.row.specs.Reading.{Line}
use Rattle.std.specs.Prelude.{Some, None}
use Rattle.formula.specs.Values.{Value, whole_number}
use Rattle.formula.proofs.Truth.{and_split, and_join, test_true, true_test, eq→eqb}
use Rattle.answer.specs.Stored.{stored_value}
use Rattle.table.specs.Rows.{Rows, type_of}
use Rattle.machine.specs.Machine.{Machine}
use Rattle.machine.specs.Described.{machine_of}
use Rattle.recording.specs.Rows.{is_given, is_logged, is_value_row}
use Rattle.recording.specs.Replay.{Values, Found, found, bad, store_by, store, read_values, move}
use Rattle.recording.specs.Recorded.{logged_word, value_row}
use Rattle.recording.proofs.Words.{stored_word, word_stored, word_logged}

-- a row that stands in the log is in the row form
abbrev pub LineFormed : Line → Type 0
LineFormed (Some r) = Writable greatest width r
LineFormed None = Unit {0}

-- the lists have a place for each identifier
pub record Sized (vs : Values) : Type 0 where
  pub present : length vs.present ≡ 65
  pub after : length vs.after ≡ 65

pub bad_never : {i : ℕ} {vs : Values} {ls : List Line} → bad i ≡ found vs ls → ⊥
bad_never e = true≢false (ap (λ (f : Found). elim f [ found vs ls ↦ false | bad i ↦ true ]) e)

-- a row by its four numbers
pub row_parts : (r : Row) {k x b c : ℕ} → r.tag ≡ k → r.a ≡ x → r.b ≡ b → r.c ≡ c → r ≡ record { tag = k; a = x; b = b; c = c }
row_parts r {k} {x} {b} f g h j =
    ap (λ n. record { tag = n; a = r.a; b = r.b; c = r.c }) f ∙ ap (λ n. record { tag = k; a = n; b = r.b; c = r.c }) g
    ∙ ap (λ n. record { tag = k; a = x; b = n; c = r.c }) h ∙ ap (λ n. record { tag = k; a = x; b = b; c = n }) j

module _ (t : Rows) (e : ℕ) where
  abbrev machine : Machine
  machine = machine_of t

  -- where the value of an identifier stands
  abbrev pub placed : Values → ℕ → List ℤ
  placed vs x = pick (is_given t e x) vs.present vs.after

  abbrev pub value_at : Values → (x : ℕ) → Value (machine.type x)
  value_at vs x = stored_value (machine.type x) (get_or (placed vs x) x (pos 0))

  -- ---- storing one value
  pub store_size : (x : ℕ) (z : ℤ) (vs : Values) → Sized vs → Sized (store t e x z vs)
  store_size x z vs h = go (is_given t e x)
    where
      go : (b : Bool) → Sized (store_by b x z vs)
      go true = record { present = length-set vs.present x z ∙ h.present; after = h.after }
      go false = record { present = h.present; after = length-set vs.after x z ∙ h.after }

  store_same : (x : ℕ) (z : ℤ) (vs : Values) → Sized vs → x < 65 → get_or (placed (store t e x z vs) x) x (pos 0) ≡ z
  store_same x z vs h l = go (is_given t e x)
    where
      go : (b : Bool) → get_or (pick b (store_by b x z vs).present (store_by b x z vs).after) x (pos 0) ≡ z
      go true = get_or-set_same vs.present x z (pos 0) (subst (λ n. x < n) (sym h.present) l)
      go false = get_or-set_same vs.after x z (pos 0) (subst (λ n. x < n) (sym h.after) l)

  -- another identifier keeps both its values
  pub record Kept (vs ws : Values) (y : ℕ) : Type 0 where
    pub present : get_or ws.present y (pos 0) ≡ get_or vs.present y (pos 0)
    pub after : get_or ws.after y (pos 0) ≡ get_or vs.after y (pos 0)

  kept_then : (us vs ws : Values) (y : ℕ) → Kept us vs y → Kept vs ws y → Kept us ws y
  kept_then us vs ws y h k = record { present = k.present ∙ h.present; after = k.after ∙ h.after }

  store_other : (x : ℕ) (z : ℤ) (vs : Values) (y : ℕ) → (y ≡ x → ⊥) → Kept vs (store t e x z vs) y
  store_other x z vs y h = go (is_given t e x)
    where
      go : (b : Bool) → Kept vs (store_by b x z vs) y
      go true = record { present = get_or-set_other vs.present x y z (pos 0) h; after = refl }
      go false = record { present = refl; after = get_or-set_other vs.after x y z (pos 0) h }

  -- an identifier that isn't given keeps its present value
  store_present : (x : ℕ) (z : ℤ) (vs : Values) (y : ℕ) → is_given t e y ≡ false → get_or (store t e x z vs).present y (pos 0) ≡ get_or vs.present y (pos 0)
  store_present x z vs y h = go (is_given t e x) refl
    where
      go : (b : Bool) → is_given t e x ≡ b
          → get_or (store_by b x z vs).present y (pos 0) ≡ get_or vs.present y (pos 0)
      go true g = get_or-set_other vs.present x y z (pos 0) (λ q. true≢false (sym g ∙ ap (is_given t e) (sym q) ∙ h))
      go false g = refl

  -- ---- reading one row
  pub record First (x : ℕ) (xs : List ℕ) (i : ℕ) (ls : List Line) (vs ws : Values) (rest : List Line) : Type 0 where
    pub row : Row
    pub others : List Line
    pub lines : ls ≡ Some row ∷ others
    pub good : T (is_value_row t x row)
    pub then : read_values t e xs (i + 1) others (store t e x (whole_number row.b) vs) ≡ found ws rest

  pub read_first : (x : ℕ) (xs : List ℕ) (i : ℕ) (ls : List Line) (vs ws : Values) (rest : List Line) → read_values t e (x ∷ xs) i ls vs ≡ found ws rest
      → First x xs i ls vs ws rest
  unfolding read_values
  read_first x xs i [] vs ws rest h = absurd (bad_never h)
  read_first x xs i (None ∷ ls) vs ws rest h = absurd (bad_never h)
  read_first x xs i (Some r ∷ ls) vs ws rest h = go (is_value_row t x r) refl h
    where
      go : (b : Bool) → is_value_row t x r ≡ b → pick b (read_values t e xs (i + 1) ls (store t e x (whole_number r.b) vs)) (bad i) ≡ found ws rest
          → First x xs i (Some r ∷ ls) vs ws rest
      go true g h = record { row = r; others = ls; lines = refl; good = true_test _ g; then = h }
      go false g h = absurd (bad_never h)

  -- ---- reading all rows of a step
  abbrev Small : List ℕ → Type 0
  Small xs = All (λ x. x < 65) xs

  pub read_size : (xs : List ℕ) (i : ℕ) (ls : List Line) (vs ws : Values) (rest : List Line) → Sized vs → read_values t e xs i ls vs ≡ found ws rest → Sized ws
  unfolding read_values
  read_size [] i ls vs ws rest s h = subst Sized (ap values_of h) s
    where
      values_of : Found → Values
      values_of f = elim f [ found us ls ↦ us | bad i ↦ vs ]
  read_size (x ∷ xs) i ls vs ws rest s h =
      let f = read_first x xs i ls vs ws rest h in
      read_size xs (i + 1) f.others (store t e x (whole_number f.row.b) vs) ws rest (store_size x (whole_number f.row.b) vs s) f.then

  pub read_kept : (xs : List ℕ) (i : ℕ) (ls : List Line) (vs ws : Values) (rest : List Line) (y : ℕ) → (In y xs → ⊥) → read_values t e xs i ls vs ≡ found ws rest → Kept vs ws y
  unfolding read_values
  read_kept [] i ls vs ws rest y out h = subst (λ us. Kept vs us y) (ap values_of h) (record { present = refl; after = refl })
    where
      values_of : Found → Values
      values_of f = elim f [ found us ls ↦ us | bad i ↦ vs ]
  read_kept (x ∷ xs) i ls vs ws rest y out h =
      let f = read_first x xs i ls vs ws rest h in
      let us : Values = store t e x (whole_number f.row.b) vs in
      kept_then vs us ws y (store_other x (whole_number f.row.b) vs y (λ q. out (here q))) (read_kept xs (i + 1) f.others us ws rest y (λ j. out (there j)) f.then)

  pub read_present : (xs : List ℕ) (i : ℕ) (ls : List Line) (vs ws : Values) (rest : List Line) (y : ℕ) → is_given t e y ≡ false → read_values t e xs i ls vs ≡ found ws rest
      → get_or ws.present y (pos 0) ≡ get_or vs.present y (pos 0)
  unfolding read_values
  read_present [] i ls vs ws rest y g h = ap (λ us. get_or us.present y (pos 0)) (sym (ap values_of h))
    where
      values_of : Found → Values
      values_of f = elim f [ found us ls ↦ us | bad i ↦ vs ]
  read_present (x ∷ xs) i ls vs ws rest y g h =
      let f = read_first x xs i ls vs ws rest h in
      let us : Values = store t e x (whole_number f.row.b) vs in
      read_present xs (i + 1) f.others us ws rest y g f.then ∙ store_present x (whole_number f.row.b) vs y g

  -- a value that no later row of the step changes
  value_kept : (vs ws : Values) (x : ℕ) → Kept vs ws x → get_or (placed ws x) x (pos 0) ≡ get_or (placed vs x) x (pos 0)
  value_kept vs ws x k = go (is_given t e x)
    where
      go : (b : Bool) → get_or (pick b ws.present ws.after) x (pos 0) ≡ get_or (pick b vs.present vs.after) x (pos 0)
      go true = k.present
      go false = k.after

  -- the value of an identifier is that of its row
  pub read_row : (x : ℕ) (xs : List ℕ) (i : ℕ) (ls : List Line) (vs ws : Values) (rest : List Line) → Sized vs → x < 65 → (In x xs → ⊥) → (f : First x xs i ls vs ws rest)
      → get_or (placed ws x) x (pos 0) ≡ whole_number f.row.b
  read_row x xs i ls vs ws rest s l out f =
      let us : Values = store t e x (whole_number f.row.b) vs in
      value_kept us ws x (read_kept xs (i + 1) f.others us ws rest x out f.then) ∙ store_same x (whole_number f.row.b) vs s l

  -- the rows are those of the values that are found
  row_is : (x : ℕ) (r : Row) → Writable greatest width r → T (is_value_row t x r) → r ≡ value_row t x (stored_value (machine.type x) (whole_number r.b))
  unfolding machine_of
  row_is x r w h =
      let p = and_split (eqb r.tag 91) (eqb r.a x && (is_logged (type_of t x) r.b && eqb r.c 0)) h in
      let q = and_split (eqb r.a x) (is_logged (type_of t x) r.b && eqb r.c 0) p.1 in
      let o = and_split (is_logged (type_of t x) r.b) (eqb r.c 0) q.1 in
      row_parts r (eqb→eq r.tag 91 p.0) (eqb→eq r.a x q.0) (sym (stored_word (type_of t x) r.b w.b_range.word o.0)) (eqb→eq r.c 0 o.1)

  pub read_rows : (xs : List ℕ) (i : ℕ) (ls : List Line) (vs ws : Values) (rest : List Line) → Sized vs → Distinct xs → Small xs → All LineFormed ls
      → read_values t e xs i ls vs ≡ found ws rest → ls ≡ map (λ x. Some (value_row t x (value_at ws x))) xs ++ rest
  unfolding read_values
  read_rows [] i ls vs ws rest s d l f h = ap lines_of h
    where
      lines_of : Found → List Line
      lines_of f = elim f [ found us ls ↦ ls | bad i ↦ [] ]
  read_rows (x ∷ xs) i ls vs ws rest s d l f h =
      let g = read_first x xs i ls vs ws rest h in
      let us : Values = store t e x (whole_number g.row.b) vs in
      let formed = subst (All LineFormed) g.lines f in
      let out : In x xs → ⊥ = λ j. all_at (pairwise_head d) j refl in
      let r : g.row ≡ value_row t x (value_at ws x) =
      row_is x g.row (all_head formed) g.good ∙ ap (λ z. value_row t x (stored_value (machine.type x) z)) (sym (read_row x xs i ls vs ws rest s (all_head l) out g)) in
      g.lines ∙ ap₂ (λ r ls. Some r ∷ ls) r
      (read_rows xs (i + 1) g.others us ws rest (store_size x (whole_number g.row.b) vs s) (pairwise_tail d) (all_tail l) (all_tail formed) g.then)

  -- the rows of values are read, and the values are found
  pub record Reads (xs : List ℕ) (i : ℕ) (ls : List Line) (vs : Values) (rest : List Line) (v : (x : ℕ) → Value (machine.type x)) : Type 0 where
    pub values : Values
    pub reads : read_values t e xs i ls vs ≡ found values rest
    pub are : (x : ℕ) → In x xs → value_at values x ≡ v x

  row_good : (x : ℕ) (v : Value (machine.type x)) → is_value_row t x (value_row t x v) ≡ true
  unfolding machine_of
  row_good x v = test_true _ (and_join (eqb x x) (is_logged (type_of t x) (logged_word (machine.type x) v) && true) (eq→eqb x x refl)
      (and_join (is_logged (type_of t x) (logged_word (machine.type x) v)) true (word_logged (type_of t x) v) tt))

  pub rows_read_lem : (xs : List ℕ) (i : ℕ) (vs : Values) (rest : List Line) (v : (x : ℕ) → Value (machine.type x)) → Sized vs → Distinct xs → Small xs
      → All (λ x. Writable greatest width (value_row t x (v x))) xs → Reads xs i (map (λ x. Some (value_row t x (v x))) xs ++ rest) vs rest v
  unfolding read_values
  rows_read_lem [] i vs rest v s d l w = record { values = vs; reads = refl; are = λ x j. absurd (in_nil j) }
  rows_read_lem (x ∷ xs) i vs rest v s d l w =
      let z : ℤ = whole_number (logged_word (machine.type x) (v x)) in
      let us : Values = store t e x z vs in
      let r = rows_read_lem xs (i + 1) us rest v (store_size x z vs s) (pairwise_tail d) (all_tail l) (all_tail w) in
      let out : In x xs → ⊥ = λ j. all_at (pairwise_head d) j refl in
      let own : value_at r.values x ≡ v x =
      ap (stored_value (machine.type x)) (value_kept us r.values x (read_kept xs (i + 1) _ us r.values rest x out r.reads) ∙ store_same x z vs s (all_head l))
      ∙ word_stored (machine.type x) (v x) (all_head w).b_range.word in
      record {
        values = r.values;
        reads = ap (λ b. pick b (read_values t e xs (i + 1) (map (λ x. Some (value_row t x (v x))) xs ++ rest) us) (bad i)) (row_good x (v x)) ∙ r.reads;
        are = λ y j. either r.values y (in_cons j) own (r.are y);
      }
    where
      either : (ws : Values) (y : ℕ) → (y ≡ x) ⊎ In y xs → value_at ws x ≡ v x → (In y xs → value_at ws y ≡ v y) → value_at ws y ≡ v y
      either ws y (inl q) own rest = subst (λ y. value_at ws y ≡ v y) (sym q) own
      either ws y (inr j) own rest = rest j

-- ---- the values that the next step begins with
pub record Moved (xs : List ℕ) (vs ws : Values) : Type 0 where
  pub size : Sized ws
  pub moved : (y : ℕ) → In y xs → get_or ws.present y (pos 0) ≡ get_or vs.after y (pos 0)
  pub others : (y : ℕ) → (In y xs → ⊥) → get_or ws.present y (pos 0) ≡ get_or vs.present y (pos 0)

pub move_moved : (xs : List ℕ) (vs : Values) → Sized vs → All (λ x. x < 65) xs → Moved xs vs (move xs vs)
unfolding move
move_moved [] vs s l = record { size = s; moved = λ y j. absurd (in_nil j); others = λ y j. refl }
move_moved (x ∷ xs) vs s l =
    let z : ℤ = get_or vs.after x (pos 0) in
    let us : Values = record { present = set vs.present x z; after = vs.after } in
    let r = move_moved xs us (record { present = length-set vs.present x z ∙ s.present; after = s.after }) (all_tail l) in
    record {
      size = r.size;
      moved = λ y j. own (move xs us) y (in_dec y xs) (in_cons j) (r.moved y) (r.others y);
      others = λ y out. r.others y (λ j. out (there j)) ∙ get_or-set_other vs.present x y z (pos 0) (λ q. out (here q));
    }
  where
    own : (ws : Values) (y : ℕ) → Dec (In y xs) → (y ≡ x) ⊎ In y xs → (In y xs → get_or ws.present y (pos 0) ≡ get_or vs.after y (pos 0))
        → ((In y xs → ⊥) → get_or ws.present y (pos 0) ≡ get_or (set vs.present x (get_or vs.after x (pos 0))) y (pos 0))
        → get_or ws.present y (pos 0) ≡ get_or vs.after y (pos 0)
    own ws y (yes j) q later keep = later j
    own ws y (no n) (inr j) later keep = absurd (n j)
    own ws y (no n) (inl q) later keep =
        keep n ∙ ap (λ y. get_or (set vs.present x (get_or vs.after x (pos 0))) y (pos 0)) q
        ∙ get_or-set_same vs.present x (get_or vs.after x (pos 0)) (pos 0) (subst (λ n. x < n) (sym s.present) (all_head l))
        ∙ ap (λ y. get_or vs.after y (pos 0)) (sym q)
