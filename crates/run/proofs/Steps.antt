-- A step of an event, which its view of a world decides, and the truth in that world of the event's guards and moves: each gives the other, the
-- second way by the event's well-definedness sequents. One argument for the events of both machines.
use mathlib.Core.Path.{◌≡◌}
use Prim.Native.Nat.{ℕ}
use lib.Dec.{T}
use Rattle.lists.specs.All.{All, In}
use Rattle.lists.proofs.All.{all_join, all_at, all_in, all_map}
use Rattle.formula.specs.Evaluate.{Env}
use Rattle.formula.proofs.Mentions.{agree_sym}
use Rattle.machine.specs.Machine.{Machine, Role}
use Rattle.sequent.specs.Entry.{written, moves}
use Rattle.sequent.specs.Sequent.{Meets}
use Rattle.sequent.specs.Listed.{base, guarded, moved}
use Rattle.sequent.specs.Required.{own_variables}
use Rattle.run.specs.Run.{State, blank, world, view, ActionDefined, Enabled, Step}
use Rattle.run.specs.SafeRun.{own_state, not_initial}
use Rattle.run.proofs.Reading.{AllTrue, all_read_true, in_order_read, action_defined, true_allows, allows_true}
use Rattle.run.proofs.WellFormed.{own_kinds}
use Rattle.run.proofs.Agreement.{all_true_agree, all_read_agree, action_true_agree, action_defined_agree}
use Rattle.run.proofs.Views.{Shares, guard_agree, action_agree}
use Rattle.run.proofs.Events.{EventSees, EventValid}

module _ (m : Machine) (ro : Role) (e : ℕ) (see : EventSees m ro e) (c a k q p a' k' r : State m) (h : T (not_initial m ro) → own_state m ro q p ≡ r)
    (z : Shares m ro a k) (z' : Shares m ro a' k') where
  abbrev W : Env m.type
  W = world m c a k q p a' k'

  -- what the event sees of the world
  abbrev seen : Env m.type
  seen = view m ro c (own_state m ro a k) r (own_state m ro a' k')

  pub enabled_true : Enabled m ro e c (own_state m ro a k) r → AllTrue m W (m.guards e)
  enabled_true en =
      all_true_agree m _ W (agree_sym (guard_agree m ro c a k q p a' k' r h z (blank m))) see.guards
      (all_read_true m (view m ro c (own_state m ro a k) r (blank m)) en)

  pub enabled_guarded : All (Meets m W) (base m ro) → Enabled m ro e c (own_state m ro a k) r → All (Meets m W) (guarded m ro e)
  enabled_guarded b en = all_join b (all_map written (enabled_true en))

  -- a step makes the event's guards and moves true
  pub step_moved : All (Meets m W) (base m ro) → Step m ro e c (own_state m ro a k) r (own_state m ro a' k') → All (Meets m W) (moved m ro e)
  step_moved b s =
      all_join (enabled_guarded b s.enabled) (all_map (moves e) (all_in (own_variables m ro) (λ x i.
      action_true_agree m (own_kinds ro) x seen W (agree_sym (action_agree m ro c a k q p a' k' r h z z' x (all_at see.kind i))) (m.action e x) (all_at see.actions i)
      (allows_true m seen x (m.action e x) (all_at s.allowed i)))))

  module _ (valid : EventValid m ro e) (b : All (Meets m W) (base m ro)) (g : AllTrue m W (m.guards e)) where
    pub true_enabled : Enabled m ro e c (own_state m ro a k) r
    true_enabled =
        all_read_agree m W _ (guard_agree m ro c a k q p a' k' r h z (blank m)) see.guards
        (in_order_read m W e (base m ro) (m.guards e) valid.guards b g)

    pub actions_defined_lem : (x : ℕ) → In x (own_variables m ro) → ActionDefined m seen (m.action e x)
    actions_defined_lem x i =
        action_defined_agree m (own_kinds ro) x W seen (action_agree m ro c a k q p a' k' r h z z' x (all_at see.kind i)) (m.action e x) (all_at see.actions i)
        (action_defined m W e (guarded m ro e) (m.action e x) (all_at valid.actions i) (all_join b (all_map written g)))

    -- guards and moves that are true make a step
    pub moved_step : All (λ x. Meets m W (moves e x)) (own_variables m ro) → Step m ro e c (own_state m ro a k) r (own_state m ro a' k')
    moved_step ts = record {
      enabled = true_enabled;
      allowed = all_in (own_variables m ro) (λ x i.
          true_allows m seen x (m.action e x) (actions_defined_lem x i)
          (action_true_agree m (own_kinds ro) x W seen (action_agree m ro c a k q p a' k' r h z z' x (all_at see.kind i)) (m.action e x) (all_at see.actions i)
          (all_at ts i)));
    }
