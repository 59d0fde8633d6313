-- Lists of sequents whose keys begin alike and go on with rising numbers stand in the order: blocks, which join where their numbers' ranges follow one
-- another. A block is made from items or from other things whose places rise.
use mathlib.Core.Path.{◌≡◌, refl, sym, ap, subst, subst₂, ◌∙◌}
use mathlib.Core.List.{List, [], ◌∷◌, ◌++◌, map, flat_map, append_assoc}
use mathlib.Core.Logic.{inl, inr, ⊎_elim}
use Prim.Native.Nat.{ℕ, suc, ◌≤◌, ◌<◌}
use native.Mathlib.Omega.{arith}
use Rattle.lists.specs.All.{In}
use Rattle.lists.specs.Pairwise.{Pairwise, pairwise_nil}
use Rattle.lists.proofs.All.{in_nil, in_either, in_unflat}
use Rattle.lists.proofs.Distinct.{pairwise_join, pairwise_one, pairwise_imp, pairwise_unmap, pairwise_flat}
use Rattle.lists.proofs.Flat.{flat_one}
use Rattle.machine.specs.Machine.{Machine}
use Rattle.sequent.specs.Entry.{Entry}
use Rattle.sequent.specs.Sequent.{Sequent, sequent}
use Rattle.sequent.specs.Order.{key, Less, key_of, Before}
use Rattle.sequent.proofs.Exact.{in_one}

pub less_asymmetric : (xs ys : List ℕ) → Less xs ys → Less ys xs → ⊥
less_asymmetric [] ys h k = h
less_asymmetric (x ∷ xs) [] h k = h
less_asymmetric (x ∷ xs) (y ∷ ys) (inl h) (inl k) = omega arith
less_asymmetric (x ∷ xs) (y ∷ ys) (inl h) (inr k) = omega (arith, k.0)
less_asymmetric (x ∷ xs) (y ∷ ys) (inr h) (inl k) = omega (arith, h.0)
less_asymmetric (x ∷ xs) (y ∷ ys) (inr h) (inr k) = less_asymmetric xs ys h.1 k.1

pub less_by : {xs ys ks ls : List ℕ} → xs ≡ ks → ys ≡ ls → Less ks ls → Less xs ys
less_by p q h = subst₂ Less (sym p) (sym q) h

less_after : (ks xs ys : List ℕ) → Less xs ys → Less (ks ++ xs) (ks ++ ys)
less_after [] xs ys h = h
less_after (k ∷ ks) xs ys h = inr (refl, less_after ks xs ys h)

module _ (m : Machine) where
  -- a sequent whose key begins with ks and goes on with a number from lo to below hi
  pub record Keyed (ks : List ℕ) (lo hi : ℕ) (s : Sequent) : Type 0 where
    pub number : ℕ
    pub rest : List ℕ
    pub is_key : key_of m s ≡ ks ++ (number ∷ rest)
    pub low : lo ≤ number
    pub high : number < hi

  -- such sequents, in order
  pub record Block (ks : List ℕ) (lo hi : ℕ) (ss : List Sequent) : Type 0 where
    pub sorted : Pairwise (Before m) ss
    pub keyed : (s : Sequent) → In s ss → Keyed ks lo hi s

  keyed_at : {n : ℕ} (ks rest : List ℕ) (s : Sequent) → key_of m s ≡ ks ++ (n ∷ rest) → Keyed ks n (suc n) s
  keyed_at {n} ks rest s p = record { number = n; rest = rest; is_key = p; low = omega arith; high = omega arith }

  pub blocks_apart : {ks : List ℕ} {lo mid next hi : ℕ} {s t : Sequent} → mid ≤ next → Keyed ks lo mid s → Keyed ks next hi t → Before m s t
  blocks_apart {ks} between h k = less_by h.is_key k.is_key (less_after ks _ _ (inl (omega (arith, h.high, k.low))))

  pub block_join : {ks : List ℕ} {lo mid next hi : ℕ} {ss ts : List Sequent} → (lo ≤ next) × (mid ≤ next) × (mid ≤ hi)
      → Block ks lo mid ss → Block ks next hi ts → Block ks lo hi (ss ++ ts)
  block_join {ks} {lo} {mid} {next} {hi} {ss} bounds b c = record {
    sorted = pairwise_join b.sorted c.sorted (λ s t i j. blocks_apart bounds.1 (b.keyed s i) (c.keyed t j));
    keyed = λ s i. ⊎_elim (λ j. left (b.keyed s j)) (λ j. right (c.keyed s j)) (in_either ss i);
  }
    where
      left : {s : Sequent} → Keyed ks lo mid s → Keyed ks lo hi s
      left h = record { number = h.number; rest = h.rest; is_key = h.is_key; low = h.low; high = omega (arith, h.high, bounds.2) }

      right : {s : Sequent} → Keyed ks next hi s → Keyed ks lo hi s
      right h = record { number = h.number; rest = h.rest; is_key = h.is_key; low = omega (arith, h.low, bounds.0); high = h.high }

  -- a block whose keys have one more number in common
  pub block_up : (ks : List ℕ) {n lo hi : ℕ} {ss : List Sequent} → Block (ks ++ (n ∷ [])) lo hi ss → Block ks n (suc n) ss
  block_up ks {n} b = record {
    sorted = b.sorted;
    keyed = λ s i. let h = b.keyed s i in keyed_at ks _ s (h.is_key ∙ append_assoc ks (n ∷ []) (h.number ∷ h.rest));
  }

  -- sequents that stand in the order of their items' places
  pub item_block : (ks : List ℕ) {n : ℕ} (at : ℕ → ℕ) (ss : List Sequent) → Pairwise (λ r q. at r < at q) (map (λ s. s.item) ss)
      → ((s : Sequent) → In s ss → key_of m s ≡ ks ++ (n ∷ at s.item ∷ [])) → Block ks n (suc n) ss
  item_block ks at ss rising keys = record {
    sorted = pairwise_imp (pairwise_unmap (λ s. s.item) ss rising)
        (λ s t i j less. less_by (keys s i) (keys t j) (less_after ks _ _ (inr (refl, inl less))));
    keyed = λ s i. keyed_at ks _ s (keys s i);
  }

  -- sequents that stand in the order of the places of what they are made for
  pub flat_block : {A : Type 0} (ks : List ℕ) {n : ℕ} (at : A → ℕ) (f : A → List Sequent) {xs : List A} → Pairwise (λ x y. at x < at y) xs
      → ((x : A) → In x xs → Pairwise (Before m) (f x))
      → ((x : A) (s : Sequent) → In x xs → In s (f x) → (rest : List ℕ) × (key_of m s ≡ ks ++ (n ∷ at x ∷ rest))) → Block ks n (suc n) (flat_map f xs)
  flat_block ks at f {xs} rising each keys = record {
    sorted = pairwise_flat f each
        (pairwise_imp rising (λ x y i j less s t k l. less_by (keys x s i k).1 (keys y t j l).1 (less_after ks _ _ (inr (refl, inl less)))));
    keyed = λ s i. let (x, j, k) = in_unflat f xs i in keyed_at ks _ s (keys x s j k).1;
  }

  -- one sequent of an event for each item
  pub map_block : {e n : ℕ} (at : ℕ → ℕ) (kind : ℕ) (hs : List Entry) (goal : ℕ → Entry) {rs : List ℕ} → Pairwise (λ r q. at r < at q) rs
      → ((r : ℕ) → key m kind e r ≡ e ∷ n ∷ at r ∷ []) → Block (e ∷ []) n (suc n) (map (λ r. sequent kind e r hs (goal r)) rs)
  map_block {e} {n} at kind hs goal {rs} rising keys =
      subst (Block (e ∷ []) n (suc n)) (sym (flat_one (λ r. sequent kind e r hs (goal r)) rs))
      (flat_block (e ∷ []) at (λ r. sequent kind e r hs (goal r) ∷ []) rising (λ r i. pairwise_one _) (λ r s i j. ([], ap (key_of m) (in_one j) ∙ keys r)))

  -- the sequents of at most one abstract event
  pub one_block : {ks : List ℕ} {lo hi : ℕ} (f : ℕ → List Sequent) {fs : List ℕ} → Pairwise (λ f g. ⊥) fs → ((x : ℕ) → In x fs → Block ks lo hi (f x))
      → Block ks lo hi (flat_map f fs)
  one_block f {fs} one each = record {
    sorted = pairwise_flat f (λ x i. (each x i).sorted) (pairwise_imp one (λ x y i j never. absurd never));
    keyed = λ s i. let (x, j, k) = in_unflat f fs i in (each x j).keyed s k;
  }

  pub nil_block : {ks : List ℕ} {lo hi : ℕ} → Block ks lo hi []
  nil_block = record { sorted = pairwise_nil; keyed = λ s i. absurd (in_nil i) }
