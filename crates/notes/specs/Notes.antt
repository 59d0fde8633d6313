-- The note of a formula, and how it is made: a node's from those of its operands, by its operator's shape and condition.
use Rattle.std.specs.Prelude.{ℕ, true, false, ◌||◌, [], ◌∷◌}
use Rattle.std.specs.Int.Bits.{bit_or}
use Rattle.formula.specs.Tree.{Tree}
use Rattle.formula.specs.WellDefined.{well_defined}
use Rattle.formula.specs.Identifiers.{identifiers}
use Rattle.formula.specs.Identifiers as formula
use Rattle.rules.specs.Sorts.{Shape, value, anIdentifier, a_variable, none, one, two, unknown}
use Rattle.conditions.specs.declared.Condition.{Condition}
use Rattle.conditions.specs.declared.Condition.TheVariants.{Nothing, Divisor, Operands, LeftTrue, LeftFalse}
use Rattle.sets.specs.Set.{set_of}
use Rattle.notes.specs.declared.Note.{Note}

-- of a formula: the set of its identifiers, the set of those of its well-definedness, and whether it divides
abbrev pub note_of : Tree → Note
note_of f = record { mentioned = set_of (identifiers f); defined = set_of (identifiers (well_defined f)); divides = formula.divides f }

-- of a formula that mentions nothing, and of one identifier
abbrev pub empty_note : Note
empty_note = record { mentioned = 0; defined = 0; divides = false }

abbrev pub identifier_note : ℕ → Note
identifier_note x = record { mentioned = set_of (x ∷ []); defined = 0; divides = false }

-- of a pair: of one whose well-definedness is that of both sides, of a division, whose divisor or whose operands are read again, and of one whose left side is
abbrev pub plain_pair : Note → Note → Note
plain_pair l r = record { mentioned = bit_or l.mentioned r.mentioned; defined = bit_or l.defined r.defined; divides = l.divides || r.divides }

abbrev pub division_pair : Note → Note → ℕ → Note
division_pair l r again =
    record { mentioned = bit_or l.mentioned r.mentioned; defined = bit_or (bit_or l.defined r.defined) again; divides = true }

abbrev pub guarded_pair : Note → Note → Note
guarded_pair l r = record {
  mentioned = bit_or l.mentioned r.mentioned;
  defined = bit_or l.defined (bit_or l.mentioned r.defined);
  divides = l.divides || r.divides;
}

abbrev pub pair_note : Condition → Note → Note → Note
pair_note Nothing l r = plain_pair l r
pair_note Divisor l r = division_pair l r r.mentioned
pair_note Operands l r = division_pair l r (bit_or l.mentioned r.mentioned)
pair_note LeftTrue l r = guarded_pair l r
pair_note LeftFalse l r = guarded_pair l r

-- of a node, from its operator's shape and condition, its column b and the notes of its operands
abbrev pub note_by : Shape → Condition → ℕ → Note → Note → Note
note_by value c b l r = empty_note
note_by anIdentifier c b l r = identifier_note b
note_by a_variable c b l r = identifier_note b
note_by none c b l r = empty_note
note_by one c b l r = l
note_by two c b l r = pair_note c l r
note_by unknown c b l r = empty_note
