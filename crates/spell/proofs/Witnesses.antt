-- The root of a witness is column c of the first row that witnesses, by recursion on the rows; where there is none, the row past the last has 0 there.
use Prim.Native.Nat.{ℕ, zero, suc, ◌+◌, ◌≤◌}
use mathlib.Core.Path.{◌≡◌, refl, sym, ap, ◌∙◌}
use mathlib.Core.Bool.{Bool, true, false, ◌&&◌}
use mathlib.Core.List.{List, ◌∷◌, map}
use native.Mathlib.Omega.{arith}
use lib.Dec.{eqb}
use lib.ListN.{get_or-eq_default}
use Rattle.lists.specs.Choice.{pick}
use Rattle.lists.specs.Below.{first, numbers, keep}
use Rattle.table.specs.Rows.{Rows, rows_of, tagged, section}
use Rattle.machine.specs.Described.{belonging, machine_of}
use Rattle.sequent.specs.Entry.{witness_root}
use Rattle.spell.specs.Spell.{witness_node}

-- past the last row every column is 0
past_rows : (ws : List ℕ) (i : ℕ) → (rows_of ws).size ≤ i → (rows_of ws).c i ≡ 0
past_rows ws i h = get_or-eq_default ws 0 (omega arith)

module _ (t : Rows) (e x : ℕ) where
  abbrev pub witnesses : ℕ → Bool
  witnesses i = tagged t 60 i && (eqb (t.a i) e && eqb (t.b i) x)

  abbrev of_event : ℕ → Bool
  of_event i = eqb (t.a i) e

  abbrev root_in : List ℕ → ℕ
  root_in is = witness_root (map (λ i. record { target = t.b i; root = t.c i }) is) x

module _ (t : Rows) (e x : ℕ) (past : (i : ℕ) → t.size ≤ i → t.c i ≡ 0) where
  root_first : (n i : ℕ) → i + n ≡ t.size → root_in t e x (keep (of_event t e x) (keep (tagged t 60) (numbers n i))) ≡ t.c (first (witnesses t e x) n i)
  unfolding numbers keep first
  root_first zero i h = sym (past i (omega arith))
  root_first (suc n) i h = by_tag (tagged t 60 i) (root_first n (suc i) (omega arith))
    where
      rest : List ℕ
      rest = keep (tagged t 60) (numbers n (suc i))

      found : ℕ
      found = first (witnesses t e x) n (suc i)

      by_target : (b : Bool) → root_in t e x (keep (of_event t e x) rest) ≡ t.c found
          → ◌≡◌ {A = ℕ} (pick b (t.c i) (root_in t e x (keep (of_event t e x) rest))) (t.c (pick b i found))
      by_target true ih = refl
      by_target false ih = ih

      by_event : (b : Bool) → root_in t e x (keep (of_event t e x) rest) ≡ t.c found
          → root_in t e x (pick b (i ∷ keep (of_event t e x) rest) (keep (of_event t e x) rest)) ≡ t.c (pick (b && eqb (t.b i) x) i found)
      by_event true ih = by_target (eqb (t.b i) x) ih
      by_event false ih = ih

      by_tag : (b : Bool) → root_in t e x (keep (of_event t e x) rest) ≡ t.c found
          → root_in t e x (keep (of_event t e x) (pick b (i ∷ rest) rest)) ≡ t.c (pick (b && (of_event t e x i && eqb (t.b i) x)) i found)
      by_tag true ih = by_event (of_event t e x i) ih
      by_tag false ih = ih

  witness_row : witness_node t e x ≡ t.c (first (witnesses t e x) t.size 0)
  unfolding witness_node machine_of belonging section
  witness_row = root_first t.size 0 (omega arith)

pub witness_found : (ws : List ℕ) (e x i r : ℕ) → i ≡ first (witnesses (rows_of ws) e x) (rows_of ws).size 0 → r ≡ (rows_of ws).c i → r ≡ witness_node (rows_of ws) e x
witness_found ws e x i r f q = q ∙ ap (rows_of ws).c f ∙ sym (witness_row (rows_of ws) e x (past_rows ws))
