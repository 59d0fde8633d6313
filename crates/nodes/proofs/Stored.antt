-- What a list holds when a node's note or an action is written into it: each number by whether it is one that was written; the spans stand before all of these.
use Prim.Native.Nat.{ℕ, zero, suc, min, ◌+◌, ◌*◌, ◌≤◌, ◌<◌}
use mathlib.Core.Path.{◌≡◌, refl, ap, ap₂, sym, subst, ◌∙◌}
use mathlib.Core.Bool.{Bool, true, false, ◌&&◌, ◌||◌, true≢false}
use mathlib.Core.List.{List, [], ◌∷◌}
use native.Mathlib.Omega.{arith}
use native.Mathlib.Decide.{ℕ_discrete}
use borrow.Author.Tests.{eq-eqb, ne_eqb, eqb-true, leb-true, leb-false, ltb-true, ltb-false, lt-ltb, le-ltb, le-leb, lt-leb}
use lib.Dec.{ltb, leb, eqb}
use lib.ListN.{length, get_or, set, length-set}
use lib.Seq.{get_or-set_same, get_or-set_other}
use lib.Bits.{bit_or}
use Rattle.lists.specs.Choice.{pick}
use Rattle.lists.specs.Below.{one_if, count_below, some_below}
use Rattle.lists.specs.Different.{some_of, has}
use Rattle.lists.proofs.Below.{count_next, count_stays}
use Rattle.lists.proofs.Choice.{chosen, not_chosen}
use Rattle.formula.specs.Tree.{bottom, Tree, constant}
use Rattle.table.specs.Names.{node_tag, becomes_equal_tag}
use Rattle.table.specs.Rows.{Rows, count, operator_of, left_of, right_of, is_action}
use Rattle.table.specs.declared.Table.{Table as Counts}
use Rattle.table.specs.Counts.{counts_of}
use Rattle.table.specs.Lookups.{operand_node}
use Rattle.machine.specs.Described.{tree_to, tree_of, sets}
use Rattle.machine.proofs.Described.{operand_falls}
use Rattle.machine.specs.Operator.{operator_numbered}
use Rattle.rules.specs.Sorts.{Shape, shape_of}
use Rattle.conditions.specs.declared.Condition.{Condition}
use Rattle.conditions.specs.Condition.{condition_of}
use Rattle.scan.specs.declared.Span.{Span}
use Rattle.scan.specs.Spans.{of_tag, tag_span, action_at, event_limit, nodes_at, events_at, span_words, Spanned}
use Rattle.scan.proofs.Spans.{to_at_most, from_to}
use Rattle.scan.proofs.Actions.{assigns_spans}
use Rattle.sets.specs.Set.{set_of, set_where}
use Rattle.sets.proofs.Set.{set_where_or, set_where_same, set_where_none}
use Rattle.notes.specs.declared.Note.{Note}
use Rattle.notes.specs.Notes.{note_of, empty_note, note_by}
use Rattle.notes.proofs.Notes.{note_parts, note_none, note_step}
use Rattle.nodes.specs.Notes.{node_limit, note_in, noted_tree, assigned_set, Noted}
use Rattle.nodes.specs.Steps.{stored, Cleared, NotedTo}

-- the spans stand before the notes
pub spanned_kept : {t : Rows} (s s' : List ℕ) → length s' ≡ length s → ((k : ℕ) → k < nodes_at → get_or s' k 0 ≡ get_or s k 0) → Spanned t s → Spanned t s'
spanned_kept s s' size kept h = record {
  tags = record {
    size = size ∙ h.tags.size;
    starts = λ k l. kept (2 * k) (omega arith) ∙ h.tags.starts k l;
    ends = λ k l. kept (2 * k + 1) (omega arith) ∙ h.tags.ends k l;
  };
  actions = λ e x le lx. kept (action_at e x) (omega arith) ∙ h.actions e x le lx;
}

-- A list with the note of node n.
module _ (s : List ℕ) (n : ℕ) (d : Note) (size : length s ≡ span_words) (h : n ≤ node_limit) where
  abbrev one : List ℕ
  one = set s (nodes_at + 3 * n) d.mentioned

  abbrev both : List ℕ
  both = set one (nodes_at + (3 * n + 1)) d.defined

  stored_size : length (stored s n d) ≡ length s
  stored_size = simp length-set

  stored_other : (k : ℕ) → (k ≡ nodes_at + 3 * n → ⊥) → (k ≡ nodes_at + (3 * n + 1) → ⊥) → (k ≡ nodes_at + (3 * n + 2) → ⊥) → get_or (stored s n d) k 0 ≡ get_or s k 0
  stored_other k f g e =
      get_or-set_other both (nodes_at + (3 * n + 2)) k (one_if d.divides) 0 e
      ∙ get_or-set_other one (nodes_at + (3 * n + 1)) k d.defined 0 g
      ∙ get_or-set_other s (nodes_at + 3 * n) k d.mentioned 0 f

  one_test : (b : Bool) → eqb (one_if b) 1 ≡ b
  one_test true = refl
  one_test false = refl

  stored_same : note_in (stored s n d) n ≡ d
  stored_same = note_parts
      (get_or-set_other both (nodes_at + (3 * n + 2)) (nodes_at + 3 * n) (one_if d.divides) 0 (λ e. omega arith)
      ∙ get_or-set_other one (nodes_at + (3 * n + 1)) (nodes_at + 3 * n) d.defined 0 (λ e. omega arith)
      ∙ get_or-set_same s (nodes_at + 3 * n) d.mentioned 0 (omega arith))
      (get_or-set_other both (nodes_at + (3 * n + 2)) (nodes_at + (3 * n + 1)) (one_if d.divides) 0 (λ e. omega arith)
      ∙ get_or-set_same one (nodes_at + (3 * n + 1)) d.defined 0 (simp length-set (omega arith)))
      (ap (λ m. eqb m 1) (get_or-set_same both (nodes_at + (3 * n + 2)) (one_if d.divides) 0 (simp length-set (omega arith))) ∙ one_test d.divides)

  stored_apart : (k : ℕ) → (k ≡ n → ⊥) → note_in (stored s n d) k ≡ note_in s k
  stored_apart k f = note_parts
      (stored_other (nodes_at + 3 * k) (λ e. f (omega arith)) (λ e. omega arith) (λ e. omega arith))
      (stored_other (nodes_at + (3 * k + 1)) (λ e. omega arith) (λ e. f (omega arith)) (λ e. omega arith))
      (ap (λ m. eqb m 1) (stored_other (nodes_at + (3 * k + 2)) (λ e. omega arith) (λ e. omega arith) (λ e. f (omega arith))))

-- with one number more below the bound
below_next : (k n : ℕ) → (k ≡ n → ⊥) → ltb k n ≡ ltb k (n + 1)
below_next k n f = go (ltb k n) refl
  where
    go : (b : Bool) → ltb k n ≡ b → b ≡ ltb k (n + 1)
    go true e = sym (lt-ltb k (n + 1) (omega (arith, ltb-true k n e)))
    go false e = sym (le-ltb k (n + 1) (omega (arith, ltb-false k n e)))

some_next : (P : ℕ → Bool) (n : ℕ) → some_below P (n + 1) ≡ (some_below P n || P n)
some_next P n = ap (ltb 0) (count_next P n) ∙ go (count_below P n) (P n)
  where
    go : (c : ℕ) (b : Bool) → ltb 0 (c + one_if b) ≡ (ltb 0 c || b)
    go zero true = refl
    go zero false = refl
    go (suc c) b = lt-ltb 0 (suc c + one_if b) (omega arith) ∙ sym (ap (λ z. z || b) (lt-ltb 0 (suc c) (omega arith)))

some_stays : (P : ℕ → Bool) (n : ℕ) → P n ≡ false → some_below P n ≡ some_below P (n + 1)
some_stays P n e = go (some_below P n) ∙ ap (λ b. some_below P n || b) (sym e) ∙ sym (some_next P n)
  where
    go : (b : Bool) → b ≡ (b || false)
    go true = refl
    go false = refl

same_test : (x y : ℕ) → eqb x y ≡ (eqb y x || false)
same_test x y = go (ℕ_discrete x y)
  where
    go : Dec (x ≡ y) → eqb x y ≡ (eqb y x || false)
    go (yes e) = rw (eq-eqb x y e, eq-eqb y x (sym e))
    go (no f) = rw (ne_eqb x y f, ne_eqb y x (λ e. f (sym e)))

pub noted_limit : (a : Bool) (e : ℕ) → (a && leb e event_limit) ≡ true → (a ≡ true) × (e ≤ event_limit)
noted_limit true e h = (refl, leb-true e event_limit h)
noted_limit false e h = absurd (true≢false (sym h))

module _ (t : Rows) where
  -- nothing is noted yet
  pub noted_none : (s s' : List ℕ) → Spanned t s → Cleared s s' → NotedTo t 1 0 s'
  unfolding tree_of tree_to count_below
  noted_none s s' spanned cleared = record {
    spanned = spanned_kept s s' cleared.size cleared.kept spanned;
    nodes = λ k l. empty k ∙ note_none ∙ ap note_of (tree k);
    events = λ e l. cleared.zeros (events_at + e) (omega arith) ∙ sym set_where_none;
  }
    where
      empty : (k : ℕ) → note_in s' k ≡ empty_note
      empty k = note_parts (cleared.zeros (nodes_at + 3 * k) (omega arith)) (cleared.zeros (nodes_at + (3 * k + 1)) (omega arith))
          (ap (λ m. eqb m 1) (cleared.zeros (nodes_at + (3 * k + 2)) (omega arith)))

      tree : (k : ℕ) → ◌≡◌ {A = Tree} (constant bottom) (pick (ltb k 1) (tree_of t k) (constant bottom))
      tree zero = refl
      tree (suc k) = sym (not_chosen (ltb (suc k) 1) (tree_of t (suc k)) (constant bottom) (le-ltb (suc k) 1 (omega arith)))

  -- The note of node n, from what was read of its row and of the notes of its operands, which were stored before.
  module _ (s : List ℕ) (n i : ℕ) (low : 1 ≤ n) (high : n ≤ node_limit) (noted : NotedTo t n i s) where
    operand_noted : (m x : ℕ) → m ≡ operand_node n x → note_in s m ≡ note_of (tree_of t (operand_node n x))
    operand_noted m x e =
        let below : operand_node n x < n = operand_falls n x low in
        ap (note_in s) e ∙ noted.nodes (operand_node n x) (omega arith)
        ∙ ap note_of (chosen (ltb (operand_node n x) n) (tree_of t (operand_node n x)) (constant bottom) (lt-ltb (operand_node n x) n below))

    pub note_made : {h : Shape} {c : Condition} {b x y : ℕ} {l r : Note} → h ≡ shape_of (operator_of t n) → c ≡ condition_of (operator_numbered (operator_of t n))
        → b ≡ left_of t n → l ≡ note_in s x → x ≡ operand_node n (left_of t n) → r ≡ note_in s y → y ≡ operand_node n (right_of t n)
        → note_by h c b l r ≡ note_of (tree_of t n)
    note_made {b} {x} {y} {l} {r} shaped conditioned named left at right behind =
        ap₂ (λ h c. note_by h c b l r) shaped conditioned
        ∙ ap (λ b. note_by (shape_of (operator_of t n)) (condition_of (operator_numbered (operator_of t n))) b l r) named
        ∙ ap₂ (note_by (shape_of (operator_of t n)) (condition_of (operator_numbered (operator_of t n))) (left_of t n))
        (left ∙ operand_noted x (left_of t n) at) (right ∙ operand_noted y (right_of t n) behind)
        ∙ sym (note_step t n low)

  -- the note of one node more
  pub node_noted : (s : List ℕ) (n i : ℕ) (d : Note) → n ≤ node_limit → d ≡ note_of (tree_of t n) → NotedTo t n i s → NotedTo t (n + 1) i (stored s n d)
  node_noted s n i d h made noted = record {
    spanned = spanned_kept s (stored s n d) (stored_size s n d size h)
        (λ k l. stored_other s n d size h k (λ e. omega arith) (λ e. omega arith) (λ e. omega arith))
        noted.spanned;
    nodes = λ k l. go k l (ℕ_discrete k n);
    events = λ e l. stored_other s n d size h (events_at + e) (λ e. omega arith) (λ e. omega arith) (λ e. omega arith) ∙ noted.events e l;
  }
    where
      size : length s ≡ span_words
      size = noted.spanned.tags.size

      go : (k : ℕ) → k ≤ node_limit → Dec (k ≡ n) → note_in (stored s n d) k ≡ note_of (pick (ltb k (n + 1)) (tree_of t k) (constant bottom))
      go k l (yes e) =
          ap (note_in (stored s n d)) e ∙ stored_same s n d size h ∙ made ∙ ap (λ n. note_of (tree_of t n)) (sym e)
          ∙ ap note_of (sym (chosen (ltb k (n + 1)) (tree_of t k) (constant bottom) (lt-ltb k (n + 1) (omega arith))))
      go k l (no f) = stored_apart s n d size h k f ∙ noted.nodes k l ∙ ap (λ b. note_of (pick b (tree_of t k) (constant bottom))) (below_next k n f)

  -- rows that are no actions assign nothing
  pub rows_passed : (s : List ℕ) (n i j : ℕ) → i ≤ j → ((e x k : ℕ) → i ≤ k → k < j → sets t e x k ≡ false) → NotedTo t n i s → NotedTo t n j s
  rows_passed s n i j h none noted = record {
    spanned = noted.spanned;
    nodes = noted.nodes;
    events = λ e l. noted.events e l ∙ set_where_same (λ x. some_below (sets t e x) i) (λ x. some_below (sets t e x) j)
        (λ x. ap (ltb 0) (count_stays (sets t e x) i j h (none e x)));
  }

  -- the rows before the span of the actions, and those behind it
  module _ (s : List ℕ) (actions : Span) (span : actions ≡ tag_span t becomes_equal_tag) where
    pub actions_start : NotedTo t 1 0 s → (actions.from ≤ actions.to) × NotedTo t 1 actions.from s
    actions_start noted = subst (λ a. (a.from ≤ a.to) × NotedTo t 1 a.from s) (sym span)
        (from_to (of_tag t becomes_equal_tag) t.size, rows_passed s 1 0 _ (omega arith) (λ e x k _ l. (assigns_spans t e x).below k l) noted)

    pub actions_end : (i : ℕ) → i ≤ actions.to → actions.to ≤ i → NotedTo t 1 i s → NotedTo t 1 t.size s
    actions_end i h l noted =
        let same : i ≡ actions.to = omega arith in
        let e : i ≡ (tag_span t becomes_equal_tag).to = same ∙ ap (λ a. a.to) span in
        rows_passed s 1 _ t.size (to_at_most (of_tag t becomes_equal_tag) t.size) (λ e x k g l. (assigns_spans t e x).above k g l)
        (subst (λ i. NotedTo t 1 i s) e noted)

  pub action_passed : (s : List ℕ) (n i : ℕ) → (is_action t i && leb (t.a i) event_limit) ≡ false → NotedTo t n i s → NotedTo t n (i + 1) s
  action_passed s n i none noted = record {
    spanned = noted.spanned;
    nodes = noted.nodes;
    events = λ e l. noted.events e l ∙ set_where_same (λ x. some_below (sets t e x) i) (λ x. some_below (sets t e x) (i + 1))
        (λ x. some_stays (sets t e x) i (fails e x l (is_action t i) (eqb (t.a i) e) refl none));
  }
    where
      fails : (e x : ℕ) → e ≤ event_limit → (a p : Bool) → eqb (t.a i) e ≡ p → (a && leb (t.a i) event_limit) ≡ false → (a && (p && eqb (t.b i) x)) ≡ false
      fails e x l false p q f = refl
      fails e x l true false q f = refl
      fails e x l true true q f = absurd (omega (arith, leb-false (t.a i) event_limit f, eqb-true (t.a i) e q))

  -- one that is adds its variable to its event's set
  module _ (s : List ℕ) (n i : ℕ) (action : is_action t i ≡ true) (limit : t.a i ≤ event_limit) (noted : NotedTo t n i s) where
    abbrev old : ℕ
    old = get_or s (events_at + t.a i) 0

    abbrev new : ℕ
    new = bit_or old (set_of (t.b i ∷ []))

    abbrev assigned : ℕ → ℕ → ℕ
    assigned e n = set_where (λ x. some_below (sets t e x) n)

    own : new ≡ assigned (t.a i) (i + 1)
    unfolding set_of some_of
    own =
        let some : ℕ → Bool = λ x. some_below (sets t (t.a i) x) i in
        ap (λ m. bit_or m (set_of (t.b i ∷ []))) (noted.events (t.a i) limit)
        ∙ set_where_or some (has (t.b i ∷ []))
        ∙ set_where_same (λ x. some x || has (t.b i ∷ []) x) (λ x. some_below (sets t (t.a i) x) (i + 1))
        (λ x. ap (λ b. some x || b) (passes x) ∙ sym (some_next (sets t (t.a i) x) i))
      where
        passes : (x : ℕ) → has (t.b i ∷ []) x ≡ sets t (t.a i) x i
        passes x = sym (same_test (t.b i) x) ∙ sym (rw (action, eq-eqb (t.a i) (t.a i) refl))

    other : (e : ℕ) → (t.a i ≡ e → ⊥) → assigned e i ≡ assigned e (i + 1)
    other e f = set_where_same (λ x. some_below (sets t e x) i) (λ x. some_below (sets t e x) (i + 1)) (λ x. some_stays (sets t e x) i (fails x (is_action t i)))
      where
        fails : (x : ℕ) (a : Bool) → (a && (eqb (t.a i) e && eqb (t.b i) x)) ≡ false
        fails x true = rw (ne_eqb (t.a i) e f)
        fails x false = refl

    pub action_noted_lem : NotedTo t n (i + 1) (set s (events_at + t.a i) new)
    action_noted_lem = record {
      spanned = spanned_kept s (set s (events_at + t.a i) new) (simp length-set) (λ k l. get_or-set_other s (events_at + t.a i) k new 0 (λ e. omega arith))
          noted.spanned;
      nodes = λ k l. note_parts (get_or-set_other s (events_at + t.a i) (nodes_at + 3 * k) new 0 (λ e. omega arith))
          (get_or-set_other s (events_at + t.a i) (nodes_at + (3 * k + 1)) new 0 (λ e. omega arith))
          (ap (λ m. eqb m 1) (get_or-set_other s (events_at + t.a i) (nodes_at + (3 * k + 2)) new 0 (λ e. omega arith)))
          ∙ noted.nodes k l;
      events = λ e l. go e l (ℕ_discrete (t.a i) e);
    }
      where
        go : (e : ℕ) → e ≤ event_limit → Dec (t.a i ≡ e) → get_or (set s (events_at + t.a i) new) (events_at + e) 0 ≡ assigned e (i + 1)
        go e l (yes q) = subst (λ e. get_or (set s (events_at + t.a i) new) (events_at + e) 0 ≡ assigned e (i + 1)) q
            (get_or-set_same s (events_at + t.a i) new 0 (omega (arith, noted.spanned.tags.size)) ∙ own)
        go e l (no f) = get_or-set_other s (events_at + t.a i) (events_at + e) new 0 (λ q. f (omega arith)) ∙ noted.events e l ∙ other e f

  -- all nodes up to the limit and all rows
  pub nodes_counted : (table : Counts) → table ≡ counts_of t → table.nodes ≡ count t node_tag
  unfolding count
  nodes_counted table e = ap (λ k. k.nodes) e

  pub noted_all : (s : List ℕ) (n m : ℕ) → m ≡ count t node_tag → n ≡ min m node_limit + 1 → NotedTo t n t.size s → Noted t s
  noted_all s n m counted last noted = record {
    spanned = noted.spanned;
    nodes = λ k l. noted.nodes k l ∙ ap (λ b. note_of (pick b (tree_of t k) (constant bottom))) (within k l ∙ ap (λ m. leb k node_limit && leb k m) counted);
    events = λ e l. noted.events e l ∙ sym (chosen (leb e event_limit) (set_where (λ x. some_below (sets t e x) t.size)) 0 (le-leb e event_limit l));
  }
    where
      before : (c : Bool) (k : ℕ) → k ≤ node_limit → leb k m ≡ c → ltb k n ≡ c
      before true k l q = lt-ltb k n (omega (arith, leb-true k m q, last))
      before false k l q = le-ltb k n (omega (arith, leb-false k m q, last))

      within : (k : ℕ) → k ≤ node_limit → ltb k n ≡ (leb k node_limit && leb k m)
      within k l = before (leb k m) k l refl ∙ sym (rw (le-leb k node_limit l))

-- What is read where nothing is noted: above the limits.
module _ (t : Rows) where
  pub node_above : (n : ℕ) → node_limit < n → empty_note ≡ note_of (noted_tree t n)
  node_above n h =
      note_none ∙ ap note_of (sym (not_chosen (leb n node_limit && leb n (count t node_tag)) (tree_of t n) (constant bottom) (rw (lt-leb n node_limit h))))

  pub event_above : (e : ℕ) → event_limit < e → 0 ≡ assigned_set t e
  event_above e h = sym (not_chosen (leb e event_limit) (set_where (λ x. some_below (sets t e x) t.size)) 0 (lt-leb e event_limit h))
