-- A property of every member of a list, membership, and the first fault, as derivations: data types whose list a proof never has to name.
use Rattle.std.specs.Prelude.{◌≡◌, List, [], ◌∷◌}

module _ {A : Type 0} where
  -- P holds of every member
  pub data All (P : A → Type 0) : List A → Type 0 where
    all_nil : All P []
    all_cons : {x : A} {xs : List A} → P x → All P xs → All P (x ∷ xs)

  -- a is a member
  pub data In (a : A) : List A → Type 0 where
    here : {x : A} {xs : List A} → a ≡ x → In a (x ∷ xs)
    there : {x : A} {xs : List A} → In a xs → In a (x ∷ xs)

-- "stopping at the first fault": of the members of a list, each of which is fine or has a fault
module _ {A N : Type 0} where
  pub data First (Fine : A → Type 0) (Fault : A → N → Type 0) : List A → N → Type 0 where
    fault_here : {x : A} {xs : List A} {n : N} → Fault x n → First Fine Fault (x ∷ xs) n
    fault_later : {x : A} {xs : List A} {n : N} → Fine x → First Fine Fault xs n → First Fine Fault (x ∷ xs) n
