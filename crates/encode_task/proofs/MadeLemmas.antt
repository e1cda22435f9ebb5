-- The sets of a task stay so while live slots keep their sets.
use Rattle.std.proofs.Common.{◌≡◌, ℕ, ◌<◌, List, Option, Some, None, length, get_or, refl, sym, subst, ◌∙◌}
use Rattle.std.specs.Option.{option_map_or}
use Rattle.std.specs.Prelude.{IsSome}
use Rattle.std.proofs.lemmas.Bool.{false≢true}
use Rattle.std.proofs.lemmas.Option.{same_Some}
use Rattle.dd_nodes.specs.NodeList.{Values}
use Rattle.dd_nodes.specs.Subfunctions.{Function}
use Rattle.task_core.specs.declared.conditions.Cond.{Cond}
use Rattle.task_core.specs.declared.literals.FluentId.{FluentId}
use Rattle.task_core.specs.declared.tasks.Task.{Task}
use Rattle.dd_sets.specs.Calls.{KeepsSets}
use Rattle.dd_sets.specs.LiveSets.{LiveSets, AllLive, listed_set}
use Rattle.task_core.specs.Tasks.{action_count, outcomes_at}
use Rattle.dd_sets.specs.declared.slots.SetId.{SetId}
use Rattle.encode_task.specs.Made.{Holds, HoldsGoal, HoldsLands, HoldsOutcome, IsReady, MadeOf}
use Rattle.encode_task.specs.Slots.{Encoded, changed_slots, next_slot, shared_slot}
use Rattle.encode_task.specs.TaskSets.{goal_set, next_set}

pub holds_kept : (before after : LiveSets) → KeepsSets before after → (slot : SetId) (set : Function) → Holds before slot set → Holds after slot set
holds_kept before after kept slot set holds = record { live = kept.live slot.0 holds.live; holds = kept.sets slot.0 holds.live ∙ holds.holds }

pub goal_kept : (task : Task) (before after : LiveSets) → KeepsSets before after → (slot : Option SetId) (goal : Option Cond) → HoldsGoal task before slot goal → HoldsGoal task after slot goal
goal_kept task before after kept None None holds = tt
goal_kept task before after kept (Some slot) (Some goal) holds = holds_kept before after kept slot _ holds
goal_kept task before after kept (Some slot) None holds = holds
goal_kept task before after kept None (Some goal) holds = holds

pub lands_kept : (before after : LiveSets) → KeepsSets before after → (slot : Option SetId) (lands : Function) → HoldsLands before slot lands → HoldsLands after slot lands
lands_kept before after kept None lands holds = holds
lands_kept before after kept (Some slot) lands holds = holds_kept before after kept slot lands holds

pub all_live_kept : (before after : LiveSets) → KeepsSets before after → (changed : List (FluentId × SetId)) → AllLive before changed → AllLive after changed
all_live_kept before after kept changed live k d within = kept.live (get_or changed k d).1.0 (live k d within)

pub outcome_kept : (before after : LiveSets) → KeepsSets before after → (changed : List (FluentId × SetId)) (next : Values → Values) → HoldsOutcome before changed next → HoldsOutcome after changed next
outcome_kept before after kept changed next holds = record {
  live = all_live_kept before after kept changed holds.live;
  listed = λ f slot listed. holds_kept before after kept slot _ (holds.listed f slot listed);
  unlisted = holds.unlisted;
}

pub ready_kept : (enc : Encoded) (after : LiveSets) → KeepsSets enc.sets after → IsReady enc → IsReady (record enc { sets = after })
ready_kept enc after kept ready = record {
  vars = kept.vars ∙ ready.vars;
  changed = λ a o. all_live_kept enc.sets after kept (changed_slots enc a o) (ready.changed a o);
  next = ready.next;
}

pub made_kept : (task : Task) (enc : Encoded) (after : LiveSets) → KeepsSets enc.sets after → MadeOf task enc → MadeOf task (record enc { sets = after })
made_kept task enc after kept made = record {
  ready = ready_kept enc after kept made.ready;
  fluents = made.fluents;
  actions = made.actions;
  outcomes = made.outcomes;
  space = holds_kept enc.sets after kept enc.space _ made.space;
  initial = holds_kept enc.sets after kept enc.initial _ made.initial;
  goal = goal_kept task enc.sets after kept enc.goal task.goal made.goal;
  exec = λ a within. holds_kept enc.sets after kept _ _ (made.exec a within);
  lands = λ a o action outcome. lands_kept enc.sets after kept _ _ (made.lands a o action outcome);
  next = λ a o action outcome. outcome_kept enc.sets after kept _ _ (made.next a o action outcome);
  shared = λ f slot shared. holds_kept enc.sets after kept slot _ (made.shared f slot shared);
}

-- the slot of a next value holds it, whether it is the outcome's own or a shared one
pub next_holds : (task : Task) (enc : Encoded) → MadeOf task enc → (a o f : ℕ) (slot : SetId) → a < action_count task → o < length (outcomes_at task a) → next_slot enc a o f ≡ Some slot → Holds enc.sets slot (next_set task a o f)
next_holds task enc made a o f slot action outcome is =
    elim (listed_set (changed_slots enc a o) f) as (λ found. listed_set (changed_slots enc a o) f ≡ found → option_map_or (λ s. Some s) found (shared_slot enc f) ≡ Some slot → Holds enc.sets slot (next_set task a o f)) [
      | Some own ↦ λ listed same. subst (λ s. Holds enc.sets s (next_set task a o f)) (same_Some own slot same) ((made.next a o action outcome).listed f own listed)
      | None ↦ λ unlisted same.
          let shared = made.shared f slot same in
          record { live = shared.live; holds = shared.holds ∙ (λ i values. sym ((made.next a o action outcome).unlisted f unlisted values) i) }
    ] refl is

-- the goal of a task has a slot
goal_in : (task : Task) (sets : LiveSets) (slot : Option SetId) (goal : Option Cond) → HoldsGoal task sets slot goal → IsSome goal → IsSome slot
goal_in task sets None (Some goal) holds some = absurd holds
goal_in task sets (Some slot) goal holds some = refl
goal_in task sets None None holds some = absurd (false≢true some)

pub goal_there : (task : Task) (enc : Encoded) → MadeOf task enc → IsSome task.goal → IsSome enc.goal
goal_there task enc made some = goal_in task enc.sets enc.goal task.goal made.goal some

-- and a slot of it holds it
pub goal_slot : (task : Task) (enc : Encoded) (slot : SetId) → MadeOf task enc → enc.goal ≡ Some slot → (goal : Cond) × (task.goal ≡ Some goal) × Holds enc.sets slot (goal_set task goal)
goal_slot task enc slot made is = at task.goal refl (subst (λ (o : Option SetId). HoldsGoal task enc.sets o task.goal) is made.goal)
  where
    at : (goal : Option Cond) → task.goal ≡ goal → HoldsGoal task enc.sets (Some slot) goal → (goal : Cond) × (task.goal ≡ Some goal) × Holds enc.sets slot (goal_set task goal)
    at None e holds = absurd holds
    at (Some goal) e holds = (goal, e, holds)
