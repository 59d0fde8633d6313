-- How columns are read, from the left: one byte more after a text. Whatever is read is in the number form, and all that is in it is read (proofs/Form.antt).
use Rattle.std.specs.Prelude.{ℕ, ◌+◌, ◌-◌, ◌*◌, ◌^◌, ◌≤◌, ◌<◌, ◌≡◌, List, [], ◌∷◌, Bool, true, false, ltb, eqb, length, get_or, Option, Some, None}
use Rattle.lists.specs.Choice.{pick}
use Rattle.number.specs.Number.{space, minus, digit_zero, Text, Spaces, Minus, Digits, most_of}

abbrev pub digit_nine : ℕ
digit_nine = 57

-- What reading the columns up to some place has found: the start of a number, or what no number starts with.
pub data Scan : Type 0 where
  Prefix : Text → Scan
  Wrong : Scan

-- the word of a sign and a magnitude
abbrev pub word_of : Bool → ℕ → ℕ
word_of negative m = pick (eqb m 0) 0 (pick negative (2 ^ 64 - m) m)

abbrev pub digit_of : ℕ → Bool → ℕ → ℕ → Scan
digit_of greatest negative m b =
    pick (ltb b digit_zero) Wrong
    (pick (ltb digit_nine b) Wrong
    (pick (ltb (most_of greatest negative) (m * 10 + (b - digit_zero))) Wrong
    (Prefix (Digits negative (m * 10 + (b - digit_zero))))))

abbrev pub after_spaces : ℕ → ℕ → Scan
after_spaces greatest b = pick (eqb b space) (Prefix Spaces) (pick (eqb b minus) (Prefix Minus) (digit_of greatest false 0 b))

abbrev pub after_minus : ℕ → ℕ → Scan
after_minus greatest b = pick (eqb b digit_zero) Wrong (digit_of greatest true 0 b)

abbrev pub after_digits : ℕ → Bool → ℕ → ℕ → Scan
after_digits greatest negative m b = pick (eqb m 0) Wrong (digit_of greatest negative m b)

abbrev pub after_text : ℕ → Text → ℕ → Scan
after_text greatest Spaces b = after_spaces greatest b
after_text greatest Minus b = after_minus greatest b
after_text greatest (Digits negative m) b = after_digits greatest negative m b

abbrev pub step_of : ℕ → Scan → ℕ → Scan
step_of greatest (Prefix text) b = after_text greatest text b
step_of greatest Wrong b = Wrong

unfoldable pub scan_from : ℕ → Scan → List ℕ → Scan
scan_from greatest scan [] = scan
scan_from greatest scan (b ∷ bs) = scan_from greatest (step_of greatest scan b) bs

abbrev pub text_value : Text → Option ℕ
text_value Spaces = None
text_value Minus = None
text_value (Digits negative m) = Some (word_of negative m)

abbrev pub value_of : Scan → Option ℕ
value_of (Prefix text) = text_value text
value_of Wrong = None

-- what columns hold
unfoldable pub number_of : ℕ → List ℕ → Option ℕ
number_of greatest columns = value_of (scan_from greatest (Prefix Spaces) columns)

-- the first k columns are spaces
abbrev pub BlankTo : ℕ → List ℕ → Type 0
BlankTo k columns = (k ≤ length columns) × ((j : ℕ) → j < k → get_or columns j 0 ≡ space)
