-- 01, Sequents, "Order: WD of axioms, invariants, variant; then event by event: WD of guards, of actions by variable, FIS by variable, each witness's WD then WFIS,
-- GRD, SIM, INV, NAT, VAR": the groups of sequents in this order, one line each. "Table order otherwise": a group has a sequent for each row of its selection, a
-- witness has two; 02, request 4: those that are not dropped.
use Rattle.std.specs.Prelude.{ℕ, Bool, List, [], ◌∷◌, eqb, get_or}
use Rattle.lists.specs.Choice.{pick}
use Rattle.table.specs.Names.{axiom_tag, abstract_invariant_tag, concrete_invariant_tag, guard_tag, witness_tag, variant_tag, abstract_variable_kind, shared_variable_kind}
use Rattle.table.specs.Rows.{Rows, refined_by}
use Rattle.select.specs.declared.Selection.{Selection}
use Rattle.select.specs.declared.Selection.TheVariants.{None, Tagged, OfEvent, Identifiers, Variables, Assigned, SuchThat}
use Rattle.select.specs.declared.Item.{Item}
use Rattle.select.specs.declared.Item.TheVariants.{A, B, C, Action, Identifier}
use Rattle.select.specs.declared.Each.{Each}
use Rattle.select.specs.declared.Each.TheVariants.{One, Defined, Witness, Touched}
use Rattle.sequent.specs.Sequent.{WD, INV, FIS, GRD, SIM, NAT, VAR}
use Rattle.groups.specs.declared.Group.{Group}
use Rattle.events.specs.Events.{is_refining, is_matched, is_convergent, is_new, keeps_all, own_kind, own_invariant_tag}

-- the groups by number
abbrev pub axiom_group : ℕ
axiom_group = 0

abbrev pub abstract_invariant_group : ℕ
abstract_invariant_group = 1

abbrev pub concrete_invariant_group : ℕ
concrete_invariant_group = 2

abbrev pub variant_group : ℕ
variant_group = 3

abbrev pub guard_group : ℕ
guard_group = 4

abbrev pub action_group : ℕ
action_group = 5

abbrev pub fis_group : ℕ
fis_group = 6

abbrev pub witness_group : ℕ
witness_group = 7

abbrev pub grd_group : ℕ
grd_group = 8

abbrev pub sim_group : ℕ
sim_group = 9

abbrev pub inv_group : ℕ
inv_group = 10

abbrev pub nat_group : ℕ
nat_group = 11

abbrev pub var_group : ℕ
var_group = 12

-- how many there are
abbrev pub groups : ℕ
groups = 13

abbrev pub group_of : ℕ → Selection → Item → Each → Group
group_of kind rows item each = record { kind = kind; rows = rows; item = item; each = each }

-- WD, where the formula divides; a kind that is listed whole
abbrev pub defined_group : Selection → Item → ℕ → Group
defined_group rows item e = group_of WD rows item (Defined item e)

abbrev pub whole_group : ℕ → Selection → Item → Group
whole_group kind rows item = group_of kind rows item One

-- rows where a test passes
abbrev pub when : Bool → Selection → Selection
when b rows = pick b rows None

-- rows of no event, which is event 0, and of an event
abbrev pub alone : ℕ → Selection → Selection
alone e rows = pick (eqb e 0) rows None

abbrev pub of_event : ℕ → Selection → Selection
of_event e rows = pick (eqb e 0) None rows

-- WD of the formulas of a tag that belong to no event: "of axioms, invariants, variant"
abbrev pub formulas_group : ℕ → ℕ → Group
formulas_group e tag = defined_group (alone e (Tagged tag)) A e

module _ (t : Rows) where
  -- SIM: "each abstract variable", each shared one too; 02, request 2: "SIM is made for it also at convergent and anticipated events"
  abbrev pub simulated_rows : ℕ → Selection
  simulated_rows e = pick (is_matched t e) (Variables abstract_variable_kind) (when (is_new t e) (Identifiers shared_variable_kind))

  -- INV, where the event assigns what the invariant mentions, or is one that keeps all
  abbrev pub invariant_each : ℕ → Each
  invariant_each e = pick (keeps_all t e) One (Touched e)

  abbrev pub group_table : ℕ → List Group
  group_table e =
      formulas_group e axiom_tag
      ∷ formulas_group e abstract_invariant_tag
      ∷ formulas_group e concrete_invariant_tag
      ∷ formulas_group e variant_tag
      ∷ defined_group (of_event e (OfEvent guard_tag e)) B e
      ∷ defined_group (of_event e (Assigned (own_kind t e) e)) Action e
      ∷ whole_group FIS (of_event e (SuchThat (own_kind t e) e)) Identifier
      ∷ group_of WD (of_event e (OfEvent witness_tag e)) C Witness
      ∷ whole_group GRD (of_event e (when (is_refining t e) (OfEvent guard_tag (refined_by t e)))) B
      ∷ whole_group SIM (of_event e (simulated_rows e)) Identifier
      ∷ group_of INV (of_event e (Tagged (own_invariant_tag t e))) A (invariant_each e)
      ∷ whole_group NAT (of_event e (when (is_convergent t e) (Tagged variant_tag))) A
      ∷ whole_group VAR (of_event e (when (is_new t e) (Tagged variant_tag))) A
      ∷ []

  -- a group of an event, by number; another number has no rows
  unfoldable pub group_at : ℕ → ℕ → Group
  group_at e g = get_or (group_table e) g (whole_group WD None A)

  abbrev pub group_rows : ℕ → ℕ → Selection
  group_rows e g = (group_at e g).rows
