-- The sets of a task from its pieces, and the bound on their slots.
use Rattle.std.proofs.Common.{◌≡◌, ℕ, ◌+◌, ◌*◌, ◌^◌, ◌<◌, ◌≤◌, true, List, [], ◌∷◌, map, length, Option, Some, None, IsSome, leb, refl, rules, sym, subst, ◌∙◌, ap, arith, mul-add, mul-le-mul_right, mul-one}
use Rattle.std.specs.List.{list_all}
use Rattle.std.specs.Option.{option_map_or}
use Rattle.std.proofs.lemmas.Bool.{and_from, le-leb}
use Rattle.task_core.specs.Actions.{after_value}
use Rattle.task_core.specs.Conditions.{greatest, holds}
use Rattle.task_core.specs.Tasks.{fluent_count, outcomes_at, system_of}
use Rattle.task_core.specs.declared.actions.GroundAction.{GroundAction}
use Rattle.task_core.specs.declared.actions.Outcome.{Outcome}
use Rattle.task_core.specs.declared.tasks.Task.{Task}
use Rattle.dd_sets.specs.LiveSets.{LiveSets, live_count, listed_set}
use Rattle.dd_sets.specs.Rooms.{Tight, IsTightFor, nodes_of_slots}
use Rattle.dd_sets.proofs.TightLemmas.{tight_more}
use Rattle.task_core.specs.Systems.{most_outcomes}
use Rattle.task_core.proofs.Outcomes.{most_of_list}
use Rattle.encode_task.specs.Made.{Holds, HoldsGoal, HoldsLands, HoldsOutcome, MadeOf}
use Rattle.encode_task.specs.Names.{has_outcomes_within}
use Rattle.encode_task.specs.Slots.{Encoded, changed_slots, lands_slot, next_slot, outcome_slots, shared_slot}
use Rattle.encode_task.specs.Tables.{ActionMade, AllPaired, IsShared, SharesLeft}
use Rattle.encode_task.specs.TaskSets.{after_values, initial_set, lands_set, space_set}
use Rattle.encode_task.proofs.TableLemmas.{changed_live, exec_at, lands_at, left_at, outcome_at, outcome_counts, paired_length}

module _ (task : Task) (enc : Encoded) (fluents : enc.fluents ≡ fluent_count task) (vars : enc.sets.vars ≡ fluent_count task)
    (made : AllPaired (ActionMade task.invariant enc.sets) enc.actions task.actions.items) where
  counts : (a : ℕ) → length (outcome_slots enc a) ≡ length (outcomes_at task a)
  counts a = outcome_counts task.invariant enc.sets enc.actions task.actions.items made a

  has_next : SharesLeft (fluent_count task) enc.actions enc.shared → (a o f : ℕ) → a < length enc.actions → o < length (outcome_slots enc a) → f < enc.fluents → IsSome (next_slot enc a o f)
  has_next all a o f action outcome small =
      elim (listed_set (changed_slots enc a o) f) as (λ slot. listed_set (changed_slots enc a o) f ≡ slot → IsSome (option_map_or (λ s. Some s) slot (shared_slot enc f))) [
        | Some slot ↦ λ listed. search rules
        | None ↦ λ unlisted. all f (omega arith) (left_at f enc.actions a o action outcome unlisted)
      ] refl

  next : (a o : ℕ) → o < length (outcomes_at task a) → HoldsOutcome enc.sets (changed_slots enc a o) (after_values task a o)
  next a o outcome =
      let found = outcome_at task.invariant enc.sets enc.actions task.actions.items made a o outcome in
      subst (λ (at : Option Outcome). HoldsOutcome enc.sets (changed_slots enc a o) (λ values f. option_map_or (λ (o : Outcome). after_value o values f) at (values f))) (sym found.1) found.2

  lands : (a o : ℕ) → o < length (outcomes_at task a) → HoldsLands enc.sets (lands_slot enc a o) (lands_set task a o)
  lands a o outcome =
      let found = lands_at task.invariant enc.sets enc.actions task.actions.items made a o outcome in
      subst (λ (at : Option Outcome). HoldsLands enc.sets (lands_slot enc a o) (λ values. holds task.invariant (λ f. option_map_or (λ (o : Outcome). after_value o values f) at (values f)))) (sym found.1) found.2

  pub made_of_pieces : IsShared enc.sets enc.shared → SharesLeft (fluent_count task) enc.actions enc.shared → Holds enc.sets enc.space (space_set task) → Holds enc.sets enc.initial (initial_set task)
      → HoldsGoal task enc.sets enc.goal task.goal → MadeOf task enc
  made_of_pieces shared all space initial goal = record {
    ready = record {
      vars = vars ∙ sym fluents;
      changed = changed_live task.invariant enc.sets enc.actions task.actions.items made;
      next = has_next all;
    };
    fluents = fluents;
    actions = paired_length (ActionMade task.invariant enc.sets) enc.actions task.actions.items made;
    outcomes = counts;
    space = space;
    initial = initial;
    goal = goal;
    exec = λ a within. exec_at task.invariant enc.sets enc.actions task.actions.items made a within;
    lands = λ a o action outcome. lands a o outcome;
    next = λ a o action outcome. next a o outcome;
    shared = shared.holds;
  }

-- no action has more outcomes than the most of one
few_outcomes : (actions : List GroundAction) (most : ℕ) → greatest (map (λ (action : GroundAction). length action.outcomes.items) actions) ≤ most → list_all (has_outcomes_within most) actions ≡ true
few_outcomes [] most few = refl
few_outcomes (x ∷ actions) most few = and_from (leb (length x.outcomes.items) most) (list_all (has_outcomes_within most) actions) (le-leb (length x.outcomes.items) most (omega arith)) (few_outcomes actions most (omega arith))

pub outcomes_few : (task : Task) → list_all (has_outcomes_within (most_outcomes (system_of task))) task.actions.items ≡ true
outcomes_few task =
    few_outcomes task.actions.items (most_outcomes (system_of task)) (omega (arith, most_of_list task))

-- so many slots an outcome are those of its fluents and one more
pub one_more_each : (outcomes fluents : ℕ) → outcomes * (fluents + 1) ≡ outcomes * fluents + outcomes
one_more_each outcomes fluents = mul-add outcomes fluents 1 ∙ ap (λ k. outcomes * fluents + k) (mul-one outcomes)

-- a limit that is tight while the sets are made
pub tight_whole : (sets : LiveSets) (limit fluents few many : ℕ) → sets.limit ≡ limit → sets.vars ≡ fluents → sets.order ≡ [] → live_count sets + few ≤ many → IsTightFor few sets → Tight limit fluents (nodes_of_slots many fluents)
tight_whole sets limit fluents few many limits vars order within tight =
    subst (λ v. Tight limit v (nodes_of_slots many v)) vars
    (subst (λ l. Tight l sets.vars (nodes_of_slots many sets.vars)) limits
    (tight_more sets.limit sets.vars (nodes_of_slots (live_count sets + few) sets.vars) (nodes_of_slots many sets.vars) (omega (arith, mul-le-mul_right (2 ^ sets.vars) within)) (tight order)))
