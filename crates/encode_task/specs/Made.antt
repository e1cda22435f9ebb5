-- When live sets and slots are those of a task.
use Rattle.std.specs.Prelude.{◌≡◌, ℕ, ◌<◌, ⊤, List, Option, Some, None, IsSome, length}
use Rattle.dd_nodes.specs.NodeList.{Values}
use Rattle.dd_nodes.specs.Subfunctions.{Function}
use Rattle.dd_ops.specs.Operations.{variable}
use Rattle.task_core.specs.Tasks.{action_count, fluent_count, outcomes_at}
use Rattle.task_core.specs.declared.conditions.Cond.{Cond}
use Rattle.task_core.specs.declared.literals.FluentId.{FluentId}
use Rattle.task_core.specs.declared.tasks.Task.{Task}
use Rattle.dd_sets.specs.LiveSets.{LiveSets, IsLive, AllLive, everything, set_of, listed_set}
use Rattle.dd_sets.specs.declared.slots.SetId.{SetId}
use Rattle.encode_task.specs.Slots.{Encoded, exec_slot, outcome_slots, changed_slots}
use Rattle.encode_task.specs.Slots.{lands_slot, shared_slot, next_slot}
use Rattle.encode_task.specs.TaskSets.{space_set, initial_set, goal_set, exec_set, lands_set}
use Rattle.encode_task.specs.TaskSets.{after_values}

-- a slot is live and holds this set
pub record Holds (sets : LiveSets) (slot : SetId) (set : Function) : Type 0 where
  pub live : IsLive sets slot.0
  pub holds : set_of sets slot.0 ≡ set

-- there is a slot for the goal exactly where there is a goal, and it holds the states in which the
-- goal holds
abbrev pub HoldsGoal : Task → LiveSets → Option SetId → Option Cond → Type 0
HoldsGoal task sets None None = ⊤
HoldsGoal task sets (Some slot) (Some goal) = Holds sets slot (goal_set task goal)
HoldsGoal task sets (Some slot) None = ⊥
HoldsGoal task sets None (Some goal) = ⊥

-- the slot of what an outcome leads to states holds this; there is none only where that is everything
abbrev pub HoldsLands : LiveSets → Option SetId → Function → Type 0
HoldsLands sets None lands = lands ≡ everything
HoldsLands sets (Some slot) lands = Holds sets slot lands

-- the slots that are listed for an outcome are live; each listed fluent has the set where it is
-- true after the outcome, and a fluent that is not listed keeps its value
pub record HoldsOutcome (sets : LiveSets) (changed : List (FluentId × SetId))
    (after : Values → Values) : Type 0 where
  pub live : AllLive sets changed
  pub listed : (f : ℕ) (slot : SetId) → listed_set changed f ≡ Some slot
      → Holds sets slot (λ values. after values f)
  pub unlisted : (f : ℕ) → listed_set changed f ≡ None
      → (values : Values) → after values f ≡ values f

-- the sets can be used: they are over the fluents, the slots that are listed for an outcome are
-- live, and each fluent has a slot for its next value under each outcome
pub record IsReady (enc : Encoded) : Type 0 where
  pub vars : enc.sets.vars ≡ enc.fluents
  pub changed : (a o : ℕ) → AllLive enc.sets (changed_slots enc a o)
  pub next : (a o f : ℕ) → a < length enc.actions → o < length (outcome_slots enc a)
      → f < enc.fluents → IsSome (next_slot enc a o f)

-- the sets are those of the task: each slot that is kept for a set is live and holds it
pub record MadeOf (task : Task) (enc : Encoded) : Type 0 where
  pub ready : IsReady enc
  -- the numbers of fluents, of actions, and of each action's outcomes
  pub fluents : enc.fluents ≡ fluent_count task
  pub actions : length enc.actions ≡ action_count task
  pub outcomes : (a : ℕ) → length (outcome_slots enc a) ≡ length (outcomes_at task a)
  -- the states, the initial states, the goal states, and for each action where it can be executed
  pub space : Holds enc.sets enc.space (space_set task)
  pub initial : Holds enc.sets enc.initial (initial_set task)
  pub goal : HoldsGoal task enc.sets enc.goal task.goal
  pub exec : (a : ℕ) → a < action_count task → Holds enc.sets (exec_slot enc a) (exec_set task a)
  -- what each outcome leads to states
  pub lands : (a o : ℕ) → a < action_count task → o < length (outcomes_at task a)
      → HoldsLands enc.sets (lands_slot enc a o) (lands_set task a o)
  -- the values after each outcome, and for each fluent that some outcome leaves alone its own value
  pub next : (a o : ℕ) → a < action_count task → o < length (outcomes_at task a)
      → HoldsOutcome enc.sets (changed_slots enc a o) (after_values task a o)
  pub shared : (f : ℕ) (slot : SetId) → shared_slot enc f ≡ Some slot
      → Holds enc.sets slot (variable f)
