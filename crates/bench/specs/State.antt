-- 02, request 6: "The state is a lent list of records, one for each identifier, with value (signed 64 bits) and type." The value of identifier x stands in place x − 1 of
-- the list of values, its type in that of the types.
use Rattle.std.specs.Prelude.{◌≡◌, Bool, true, not, ◌&&◌, ◌||◌, List, [], ◌∷◌, ◌++◌, map, ℕ, ◌-◌, ◌≤◌, eqb, ℤ, pos, length, get_or, take, drop, replicate}
use Rattle.lists.specs.Choice.{pick}
use Rattle.lists.specs.Below.{numbers}
use Rattle.lists.specs.Different.{some_of}
use Rattle.formula.specs.Values.{equalℤ}
use Rattle.table.specs.Names.{boolean_type, identifier_tag}
use Rattle.table.specs.Rows.{Rows, count, type_of}
use Rattle.recording.specs.Rows.{is_state_variable}
use Rattle.bench.specs.declared.Record.{Record}

unfoldable pub values_in : List Record → List ℤ
values_in rs = map (λ r. r.value) rs

unfoldable pub types_in : List Record → List ℕ
types_in rs = map (λ r. r.sort) rs

-- the value of an identifier
abbrev pub value_of : List ℤ → ℕ → ℤ
value_of zs x = get_or zs (x - 1) (pos 0)

module _ {A : Type 0} where
  -- what is laid into the first places of a list, as much as it has places for
  unfoldable pub laid : List A → List A → List A
  laid xs ys = take (length ys) xs ++ drop (length xs) ys

-- the same values with a place for each identifier that a table may have, 0 to 64: the value of x stands in place x
unfoldable pub placed : List ℤ → List ℤ
placed zs = pos 0 ∷ laid zs (replicate 64 (pos 0))

-- "booleans 0 or 1"
abbrev pub is_of_type : ℕ → ℤ → Bool
is_of_type type z = not (eqb type boolean_type) || (equalℤ z (pos 0) || equalℤ z (pos 1))

module _ (t : Rows) where
  -- "a wrong type or boolean": whether the record of x, with this value and this type, is right
  abbrev pub is_right : ℕ → ℤ → ℕ → Bool
  is_right x z type = eqb type (type_of t x) && is_of_type type z

  abbrev pub is_wrong : List ℤ → List ℕ → ℕ → Bool
  is_wrong zs types x = not (is_right x (value_of zs x) (get_or types (x - 1) 0))

  -- "one for each identifier": no "list of another length", and every record is right, those of abstract variables and of parameters too
  unfoldable pub is_state : List ℤ → List ℕ → Bool
  is_state zs types =
      (eqb (length zs) (count t identifier_tag) && eqb (length types) (count t identifier_tag))
      && not (some_of (is_wrong zs types) (numbers (count t identifier_tag) 1))

  -- the same, as one reads it
  pub record IsState (zs : List ℤ) (types : List ℕ) : Type 0 where
    pub size : length zs ≡ count t identifier_tag
    pub sorts : length types ≡ count t identifier_tag
    pub records : (x : ℕ) → 1 ≤ x → x ≤ count t identifier_tag → is_right x (value_of zs x) (get_or types (x - 1) 0) ≡ true

  -- "updates the variables' records": kinds 3 and 6 get their after values, which stand by identifier; all other records stay
  unfoldable pub updated : List ℤ → List ℤ → List ℤ
  updated after zs = map (λ x. pick (is_state_variable t x) (get_or after x (pos 0)) (value_of zs x)) (numbers (length zs) 1)

-- records with other values
unfoldable pub with_values_of : List ℤ → List Record → List Record
with_values_of [] rs = []
with_values_of (z ∷ zs) [] = []
with_values_of (z ∷ zs) (r ∷ rs) = record { value = z; sort = r.sort } ∷ with_values_of zs rs
