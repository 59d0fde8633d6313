-- 01, Rows: "A number, the tag included, is right-justified in ASCII after spaces, its minus byte 45, without leading zeros, plus
-- sign or minus zero, from −2147483648 to 2147483647." Any width; from −greatest − 1 to greatest.
use Rattle.std.specs.Prelude.{ℕ, zero, suc, ◌+◌, ◌-◌, ◌^◌, ◌%◌, ◌/◌, ◌<◌, ◌≡◌, List, [], ◌∷◌, ◌++◌, Bool, true, false, ltb, leb, length}
use Rattle.lists.specs.Choice.{pick}

-- 01, Rows: "in ASCII after spaces, its minus byte 45"
abbrev pub space : ℕ
space = 32

abbrev pub minus : ℕ
minus = 45

abbrev pub digit_zero : ℕ
digit_zero = 48

-- What the columns up to some place hold: only spaces, spaces and a minus, or these and digits (whether a minus stands before them,
-- and their value).
pub data Text : Type 0 where
  Spaces Minus : Text
  Digits : Bool → ℕ → Text

-- a number is a word of 64 bits, a negative one in two's complement; its text
abbrev pub text_of : ℕ → Text
text_of w = pick (ltb w (2 ^ 63)) (Digits false w) (Digits true (2 ^ 64 - w))

-- Written from the right: the last column, and what the columns before it hold.
abbrev pub last_of : Text → ℕ
last_of Spaces = space
last_of Minus = minus
last_of (Digits negative m) = digit_zero + m % 10

abbrev pub before_digits : Bool → ℕ → Text
before_digits negative m = pick (leb 10 m) (Digits negative (m / 10)) (pick negative Minus Spaces)

abbrev pub before_of : Text → Text
before_of Spaces = Spaces
before_of Minus = Spaces
before_of (Digits negative m) = before_digits negative m

-- the last columns of a text, as many as the width says
unfoldable pub columns_of : ℕ → Text → List ℕ
columns_of zero text = []
columns_of (suc width) text = columns_of width (before_of text) ++ (last_of text ∷ [])

-- what is left of a text before those columns: only spaces where the text fits them
unfoldable pub rest_of : ℕ → Text → Text
rest_of zero text = text
rest_of (suc width) text = rest_of width (before_of text)

-- the text of a number has no more columns than the width
abbrev pub Fits : ℕ → ℕ → Type 0
Fits width w = rest_of width (text_of w) ≡ Spaces

-- the range: the largest magnitude by sign
abbrev pub most_of : ℕ → Bool → ℕ
most_of greatest true = greatest + 1
most_of greatest false = greatest

abbrev pub in_range : ℕ → Text → Bool
in_range greatest Spaces = true
in_range greatest Minus = true
in_range greatest (Digits negative m) = leb m (most_of greatest negative)

-- a word is a number from −greatest − 1 to greatest
pub record InRange (greatest w : ℕ) : Type 0 where
  pub word : w < 2 ^ 64
  pub range : in_range greatest (text_of w) ≡ true

-- the number form: the columns are what writing the number gives, nothing of it is left over, and it is in range
pub record InForm (greatest : ℕ) (columns : List ℕ) (w : ℕ) : Type 0 where
  pub range : InRange greatest w
  pub fits : Fits (length columns) w
  pub form : columns ≡ columns_of (length columns) (text_of w)
