-- The values of a state by identifier: where they stand, and the value that a place of a list that is made by number has.
use Prim.Native.Nat.{ℕ, zero, suc, ◌+◌, ◌-◌, ◌≤◌, ◌<◌}
use mathlib.Core.Path.{◌≡◌, refl, sym, ap, ◌∙◌, subst}
use mathlib.Core.Bool.{Bool, true, false, true≢false, not, ◌&&◌}
use mathlib.Core.List.{List, ◌++◌, map, append-nil}
use native.Mathlib.Omega.{arith}
use lib.Dec.{T, leb, eqb, eqb→eq}
use lib.IntN.{ℤ, pos}
use lib.ListN.{length, get_or, take, drop, replicate, length-append, length-drop, length-replicate, drop_of_length-le, get_or-append}
use lib.Seq.{take_all, length-take-le}
use borrow.Author.Tests.{leb-true, leb-false}
use Rattle.lists.specs.Below.{numbers}
use Rattle.lists.specs.Different.{some_of}
use Rattle.lists.proofs.Below.{numbers_in, in_numbers}
use Rattle.lists.proofs.Different.{some_in, some_member}
use Rattle.formula.proofs.Truth.{and_split, and_join, true_test, test_true, eq→eqb}
use Rattle.table.specs.Rows.{Rows, count}
use Rattle.bench.specs.State.{value_of, laid, placed, is_right, is_wrong, is_state, IsState, updated}

-- a list that is made by number
pub map_at : {A : Type 0} (f : ℕ → A) (n i k : ℕ) (d : A) → k < n → get_or (map f (numbers n i)) k d ≡ f (i + k)
unfolding numbers
map_at f zero i k d h = absurd (omega arith)
map_at f (suc n) i zero d h = ap f (omega arith)
map_at f (suc n) i (suc k) d h = map_at f n (suc i) k d (omega (arith, h)) ∙ ap f (omega arith)

pub map_size : {A : Type 0} (f : ℕ → A) (n i : ℕ) → length (map f (numbers n i)) ≡ n
unfolding numbers
map_size f zero i = refl
map_size f (suc n) i = ap suc (map_size f n (suc i))

pub updated_size : (t : Rows) (after zs : List ℤ) → length (updated t after zs) ≡ length zs
unfolding updated
updated_size t after zs = map_size _ (length zs) 1

-- what is laid into a list leaves its length
pub laid_size : {A : Type 0} (zs ms : List A) → length (laid zs ms) ≡ length ms
unfolding laid
laid_size zs ms = length-append (take (length ms) zs) (drop (length zs) ms) ∙ go (leb (length zs) (length ms)) refl
  where
    go : (b : Bool) → leb (length zs) (length ms) ≡ b → length (take (length ms) zs) + length (drop (length zs) ms) ≡ length ms
    go true h =
        let l = leb-true (length zs) (length ms) h in
        let t = ap length (take_all (length ms) zs l) in
        let d = length-drop (length zs) ms in
        omega (arith, l, t, d)
    go false h =
        let l = leb-false (length zs) (length ms) h in
        let t = length-take-le (length ms) zs (omega (arith, l)) in
        let d = length-drop (length zs) ms in
        omega (arith, l, t, d)

pub placed_size : (zs : List ℤ) → length (placed zs) ≡ 65
unfolding placed
placed_size zs = ap suc (laid_size zs (replicate 64 (pos 0)) ∙ length-replicate 64 (pos 0))

-- the value of an identifier stands in its place
pub placed_at : (zs : List ℤ) (x : ℕ) → 1 ≤ x → x ≤ length zs → length zs ≤ 64 → get_or (placed zs) x (pos 0) ≡ value_of zs x
unfolding placed laid
placed_at zs zero l h k = absurd (omega (arith, l))
placed_at zs (suc i) l h k =
    let n = length-replicate 64 (pos 0) in
    let t = take_all (length (replicate 64 (pos 0))) zs (omega (arith, k, n)) in
    let s = ap length t in
    get_or-append (take (length (replicate 64 (pos 0))) zs) (drop (length zs) (replicate 64 (pos 0))) (pos 0) i (omega (arith, h, s))
    ∙ ap (λ ys. get_or ys i (pos 0)) t ∙ ap (λ j. get_or zs j (pos 0)) (omega arith)

-- what is laid into a list that isn't longer
pub laid_whole : {A : Type 0} (zs ms : List A) → length ms ≤ length zs → laid zs ms ≡ take (length ms) zs
unfolding laid
laid_whole zs ms h = ap (λ ys. take (length ms) zs ++ ys) (drop_of_length-le ms h) ∙ append-nil (take (length ms) zs)

-- into one that is as long
pub laid_same : {A : Type 0} (zs ms : List A) → length ms ≡ length zs → laid zs ms ≡ zs
laid_same zs ms h = laid_whole zs ms (omega (arith, h)) ∙ take_all (length ms) zs (omega (arith, h))

-- ---- what a state is
pub and_true : (a b : Bool) → (a && b) ≡ true → a ≡ true
and_true true b h = refl
and_true false b h = h

pub state_right : (t : Rows) (zs : List ℤ) (types : List ℕ) → is_state t zs types ≡ true → IsState t zs types
unfolding is_state
state_right t zs types h =
    let n = count t 10 in
    let sizes : Bool = eqb (length zs) n && eqb (length types) n in
    let wrong : Bool = some_of (is_wrong t zs types) (numbers n 1) in
    let p = and_split sizes (not wrong) (true_test _ h) in
    let q = and_split (eqb (length zs) n) (eqb (length types) n) p.0 in
    record {
      size = eqb→eq (length zs) n q.0;
      sorts = eqb→eq (length types) n q.1;
      records = λ x l k. none (is_right t x (value_of zs x) (get_or types (x - 1) 0)) (some_in (is_wrong t zs types) (numbers_in n 1 x l (omega (arith, k)))) p.1;
    }
  where
    none : (b : Bool) → (not b ≡ true → some_of (is_wrong t zs types) (numbers (count t 10) 1) ≡ true) → T (not (some_of (is_wrong t zs types) (numbers (count t 10) 1))) → b ≡ true
    none true f h = refl
    none false f h = absurd (subst (λ b. T (not b)) (f refl) h)

pub right_state : (t : Rows) (zs : List ℤ) (types : List ℕ) → IsState t zs types → is_state t zs types ≡ true
unfolding is_state
right_state t zs types r =
    test_true _ (and_join (eqb (length zs) (count t 10) && eqb (length types) (count t 10)) (not (some_of (is_wrong t zs types) (numbers (count t 10) 1)))
    (and_join (eqb (length zs) (count t 10)) (eqb (length types) (count t 10)) (eq→eqb (length zs) (count t 10) r.size) (eq→eqb (length types) (count t 10) r.sorts))
    (go (some_of (is_wrong t zs types) (numbers (count t 10) 1)) refl))
  where
    go : (b : Bool) → some_of (is_wrong t zs types) (numbers (count t 10) 1) ≡ b → T (not b)
    go false h = tt
    go true h =
        let (x, i, w) = some_member (is_wrong t zs types) (numbers (count t 10) 1) h in
        let b = in_numbers (count t 10) 1 x i in
        absurd (true≢false (sym w ∙ ap not (r.records x b.0 (omega (arith, b.1)))))
