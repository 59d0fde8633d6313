-- A step of the walk keeps the place that is searched, and leaves fewer groups: what a walk over a group's rows passes is what its slots count (Find).
use Prim.Native.Nat.{ℕ, ◌+◌, ◌-◌, ◌*◌, ◌≤◌, ◌<◌}
use mathlib.Core.Path.{◌≡◌, refl, sym, ap, ◌∙◌, subst}
use mathlib.Core.Bool.{Bool, true, false}
use mathlib.Core.Logic.{inl, inr}
use native.Mathlib.Omega.{arith}
use lib.Dec.{ltb}
use borrow.Author.Tests.{ltb-true, ltb-false}
use Rattle.lists.specs.Choice.{pick}
use Rattle.lists.proofs.Below.{count_at_most}
use Rattle.table.specs.Rows.{Rows, tagged, count}
use Rattle.select.specs.declared.Sought.{Sought}
use Rattle.select.specs.Sought.{Passed}
use Rattle.walk.specs.declared.Slot.{Slot}
use Rattle.groups.specs.Groups.{groups}
use Rattle.walk.specs.Slots.{slot_at, sought_at, next_group, slot_count, walk_to, Within, AtEnd, InWalk, position, Holds}
use Rattle.walk.proofs.Find.{walk_group, walk_event}

module _ (t : Rows) where
  -- the groups from s on
  abbrev pub groups_from : Slot → ℕ
  groups_from s = groups * (count t 40 + 1 - s.event) - s.group

  -- the rows of a group that a walk has come to
  abbrev PassedIn : Slot → Sought → Type 0
  PassedIn s r = Passed (slot_count t s.event s.group) t.size (sought_at s) r

  module _ {s : Slot} {r : Sought} (w : Within t s) (p : PassedIn s r) where
    -- it keeps the place
    pub passed_position : position t (slot_at s.event s.group r.row r.left) ≡ position t s
    unfolding walk_to
    passed_position = omega (arith, p.place)

    -- and stops in the slot that holds it
    pub passed_holds : r.row < t.size → Holds t (slot_at s.event s.group r.row r.left)
    passed_holds l = record { event = w.event; group = w.group; row = l; left = p.found l }

    -- or past the last row, from where the next group is walked
    module _ {n : Slot} (last : t.size ≤ r.row) (q : n ≡ next_group s r.left) where
      abbrev e : ℕ
      e = s.event

      abbrev g : ℕ
      g = s.group

      whole : walk_to t e g t.size + r.left ≡ position t s
      whole = let end : t.size ≡ r.row = omega (arith, p.within) in ap (λ i. walk_to t e g i + r.left) end ∙ passed_position

      record Next (m : Slot) : Type 0 where
        pub in_walk : InWalk t m
        pub same : position t m ≡ position t s
        pub fewer : groups_from m < groups_from s

      next : Next (next_group s r.left)
      next = by_group (ltb (g + 1) groups) refl
        where
          by_event : (b : Bool) → ltb e (count t 40) ≡ b → InWalk t (slot_at (e + 1) 0 0 r.left)
          by_event true h = inl (record { event = omega (arith, ltb-true e (count t 40) h); group = omega arith; row = omega arith })
          by_event false h = inr (record { event = omega (arith, w.event, ltb-false e (count t 40) h); group = refl; row = refl })

          by_group : (b : Bool) → ltb (g + 1) groups ≡ b → Next (pick b (slot_at e (g + 1) 0 r.left) (slot_at (e + 1) 0 0 r.left))
          by_group true h = record {
            in_walk = inl (record { event = w.event; group = ltb-true (g + 1) groups h; row = omega arith });
            same = ap (λ k. k + r.left) (walk_group t e g) ∙ whole;
            fewer = omega (arith, w.event, w.group);
          }
          by_group false h = record {
            in_walk = by_event (ltb e (count t 40)) refl;
            same =
                let end : groups ≡ g + 1 = omega (arith, w.group, ltb-false (g + 1) groups h) in
                ap (λ k. k + r.left) (walk_event t e ∙ ap (λ k. walk_to t e k 0) end ∙ walk_group t e g) ∙ whole;
            fewer = omega (arith, w.event, w.group);
          }

      pub next_kept : (k : ℕ) → position t s ≡ k → InWalk t n × (position t n ≡ k)
      next_kept k h = (subst (InWalk t) (sym q) next.in_walk, ap (position t) q ∙ next.same ∙ h)

      pub next_fewer : groups_from n < groups_from s
      next_fewer = subst (λ m. groups_from m < groups_from s) (sym q) next.fewer

  -- a slot of the walk by its event
  pub within : (s : Slot) → InWalk t s → s.event ≤ count t 40 → Within t s
  within s (inl w) h = w
  within s (inr x) h = absurd (omega (arith, x.event))

  pub at_end : (s : Slot) → InWalk t s → count t 40 < s.event → AtEnd t s
  at_end s (inl w) h = absurd (omega (arith, w.event))
  at_end s (inr x) h = x

  pub events_within : count t 40 ≤ t.size
  unfolding count
  events_within = count_at_most (tagged t 40) t.size
