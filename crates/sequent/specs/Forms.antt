-- The entry that a form and two numbers stand for, as the code takes an entry apart.
use Rattle.std.specs.Prelude.{ℕ, List, [], ◌∷◌, get_or}
use Rattle.sequent.specs.declared.Entry.{Entry as Numbers}
use Rattle.sequent.specs.Entry.{Entry, written, primed, defined, moves, feasible, witnessed, natural, decreases, not_increased, unchanged}

-- the forms by number, each an entry of two numbers; 0 is no form and counts as 1
abbrev pub forms : List (ℕ → ℕ → Entry)
forms =
    (λ a b. written a) ∷ (λ a b. written a) ∷ (λ a b. primed a) ∷ (λ a b. defined a) ∷ (λ a b. moves a b) ∷ (λ a b. feasible a b) ∷ (λ a b. witnessed a b)
    ∷ (λ a b. natural a) ∷ (λ a b. decreases a) ∷ (λ a b. not_increased a) ∷ (λ a b. unchanged a) ∷ []

-- the entry of a form and two numbers
unfoldable pub entry_of : Numbers → Entry
entry_of n = get_or forms n.form (λ a b. written a) n.first n.second
