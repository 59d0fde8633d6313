-- 01, Sequents: a sequent, the numbers of the kinds, and when a sequent is valid.
use Rattle.std.specs.Prelude.{List, ℕ}
use Rattle.lists.specs.All.{All}
use Rattle.formula.specs.Evaluate.{Env}
use Rattle.formula.specs.Formula.{Holds}
use Rattle.machine.specs.Machine.{Machine}
use Rattle.sequent.specs.Entry.{Entry, formula}

-- kind, event or 0, and item are the numbers of row 80
pub record Sequent : Type 0 where
  pub kind : ℕ
  pub event : ℕ
  pub item : ℕ
  pub hypotheses : List Entry
  pub goal : Entry

abbrev pub sequent : ℕ → ℕ → ℕ → List Entry → Entry → Sequent
sequent k e i hs g = record { kind = k; event = e; item = i; hypotheses = hs; goal = g }

-- 01, the numbers of the kinds: 1 WD, 2 INV, 3 FIS, 4 GRD, 5 SIM, 6 WFIS, 7 NAT, 8 VAR
abbrev pub WD : ℕ
WD = 1

abbrev pub INV : ℕ
INV = 2

abbrev pub FIS : ℕ
FIS = 3

abbrev pub GRD : ℕ
GRD = 4

abbrev pub SIM : ℕ
SIM = 5

abbrev pub WFIS : ℕ
WFIS = 6

abbrev pub NAT : ℕ
NAT = 7

abbrev pub VAR : ℕ
VAR = 8

module _ (m : Machine) where
  -- an entry is true at given values
  abbrev pub Meets : Env m.type → Entry → Type 0
  Meets ρ h = Holds ρ (formula m h)

  -- "A sequent is valid if its goal is true wherever all its hypotheses are, for all values, by type, of identifiers and after values."
  unfoldable pub Valid : Sequent → Type 0
  Valid s = (ρ : Env m.type) → All (Meets ρ) s.hypotheses → Meets ρ s.goal
