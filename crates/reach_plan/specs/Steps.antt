-- Private: a search as the list of the steps that changed something, and where they lead.
use Rattle.std.specs.Prelude.{◌≡◌, ℕ, ◌<◌, ◌≤◌, ◌==◌, Bool, true, if◌then◌else◌, List, [], ◌∷◌}
use Rattle.std.specs.Prelude.{nat_lt, take}
use Rattle.std.specs.List.{list_all}
use Rattle.std.specs.Option.{option_map_or}
use Rattle.dd_nodes.specs.Subfunctions.{Function}
use Rattle.dd_ops.specs.Operations.{minus_of, or_of}
use Rattle.dd_sets.specs.LiveSets.{nothing}
use Rattle.encode_task.specs.TaskSets.{goal_set}
use Rattle.task_core.specs.Systems.{IsVector}
use Rattle.task_core.specs.Tasks.{action_count, system_of}
use Rattle.task_core.specs.Vectors.{Vector, value_of}
use Rattle.task_core.specs.declared.classes.Class.{Class}
use Rattle.task_core.specs.declared.tasks.Task.{Task}
use Rattle.plan_theory.specs.Layers.{IsLastLayer}
use Rattle.plan_theory.specs.LayerPlans.{takers}
use Rattle.reach_plan.specs.LayerSets.{AreTakers, IsLayerSet, class_preimage, grown}
use Rattle.slot_board.specs.declared.steps.Step.{Step}
use Rattle.slot_board.specs.declared.steps.Step.TheVariants.{Advance, Grow}

-- the same sets, but for one action
abbrev pub with_set : (ℕ → Function) → ℕ → Function → ℕ → Function
with_set sets a set b = if b == a then set else sets b

-- where a search stands: this layer, what each action takes, and the next layer as far as it is made
pub record Progress : Type 0 where
  pub layer : Function
  pub taken : ℕ → Function
  pub next : Function

-- at first both layers are the goal states, and no action takes anything
abbrev pub goal_layer : Task → Function
goal_layer task = option_map_or (goal_set task) task.goal nothing

abbrev pub untaken : ℕ → Function
untaken a = nothing

abbrev pub at_goal : Task → Progress
at_goal task = record { layer = goal_layer task; taken = untaken; next = goal_layer task }

-- after a step: the next layer has what the action leads into this one, and the action takes what is
-- new of that; or the next layer takes the place of this one
abbrev pub after_step : Class → Task → Progress → Step → Progress
after_step class task now (Grow a) = record {
  layer = now.layer;
  taken = with_set now.taken a.0
      (or_of (now.taken a.0) (minus_of (class_preimage class task a.0 now.layer) now.next));
  next = or_of now.next (class_preimage class task a.0 now.layer);
}
after_step class task now Advance = record now { layer = now.next }

-- after each of these steps in turn
abbrev pub after_steps : Class → Task → Progress → List Step → Progress
after_steps class task now [] = now
after_steps class task now (step ∷ steps) =
    after_steps class task (after_step class task now step) steps

-- whether a step's action is one of the first n
abbrev pub is_step_of : ℕ → Step → Bool
is_step_of n (Grow a) = nat_lt a.0 n
is_step_of n Advance = true

-- a set has the states within some layer, of rank `top` at most, that take the action
pub record IsTaken (class : Class) (task : Task) (top a : ℕ) (set : Function) : Type 0 where
  pub rank : ℕ
  pub low : rank ≤ top
  pub takes : (v : Vector) → IsVector (system_of task) v
      → set (value_of v) ≡ takers class (system_of task) rank a v

-- a search is within a round: this is a layer, the next one is what the first actions make it, and
-- each action takes its states within some layer, of rank `top` at most
pub record IsWithinRound (class : Class) (task : Task) (top : ℕ) (here : Progress) : Type 0 where
  pub rank : ℕ
  pub is_layer : IsLayerSet class task rank here.layer
  pub grown_by : ℕ
  pub few : grown_by ≤ action_count task
  pub is_grown : here.next ≡ grown class task here.layer grown_by
  pub is_taken : (a : ℕ) → a < action_count task → IsTaken class task top a (here.taken a)

-- these steps lead from the goal to here, each of them within a round, and are steps of the task
pub record HaveLed (class : Class) (task : Task) (top : ℕ) (steps : List Step) (here : Progress)
    : Type 0 where
  pub there : after_steps class task (at_goal task) steps ≡ here
  pub along : (i : ℕ)
      → IsWithinRound class task top (after_steps class task (at_goal task) (take i steps))
  pub within : list_all (is_step_of (action_count task)) steps ≡ true

-- these steps lead to the last layer, and to what each action takes within it
pub record LeadToLast (class : Class) (task : Task) (steps : List Step) : Type 0 where
  pub layers : ℕ
  pub last : IsLastLayer class (system_of task) layers
  pub here : Progress
  pub led : HaveLed class task layers steps here
  pub are_takers : AreTakers class task layers here.taken
