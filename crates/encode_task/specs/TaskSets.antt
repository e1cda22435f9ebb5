-- The sets that a task names, each as the test of its members: its states, those where an action can
-- be executed, the initial states, the goal states, and the values after an outcome (Cimatti,
-- Pistore, Roveri, Traverso 2003: the symbolic representation of a planning domain). And the sets of a
-- cube and of some states.
use Rattle.std.specs.Prelude.{ℕ, false, ◌&&◌, List, slice_get, map}
use Rattle.std.specs.List.{list_all, list_any, range_with_len}
use Rattle.std.specs.Option.{option_map_or}
use Rattle.dd_nodes.specs.NodeList.{Values}
use Rattle.dd_nodes.specs.Subfunctions.{Function}
use Rattle.dd_sets.specs.LiveSets.{nothing}
use Rattle.task_core.specs.Actions.{after_value}
use Rattle.task_core.specs.Conditions.{holds}
use Rattle.task_core.specs.Cubes.{Cube, SetOfVectors}
use Rattle.task_core.specs.Tasks.{fluent_count, initial_states, outcomes_at}
use Rattle.task_core.specs.Vectors.{Vector, same_value, same_vector}
use Rattle.task_core.specs.declared.actions.GroundAction.{GroundAction}
use Rattle.task_core.specs.declared.actions.Outcome.{Outcome}
use Rattle.task_core.specs.declared.conditions.Cond.{Cond}
use Rattle.task_core.specs.declared.tasks.Task.{Task}

-- the state over n fluents that a list of truth values begins with
abbrev pub first_values : ℕ → Values → Vector
first_values n values = map values (range_with_len 0 n)

-- where a cube matches
abbrev pub cube_set : Cube → Function
cube_set cube values = list_all (λ lit. same_value (values lit.fluent.0) lit.positive) cube

-- the set of some states over n fluents
abbrev pub set_of_states : ℕ → List Vector → Function
set_of_states n states values = list_any (same_vector (first_values n values)) states

-- the states of a task: where its invariant holds
abbrev pub space_set : Task → Function
space_set task values = holds task.invariant values

-- the function that is true on the states of a set
abbrev pub states_in : Task → SetOfVectors → Function
states_in task set values = set (first_values (fluent_count task) values)

-- the initial states of a task
abbrev pub initial_set : Task → Function
initial_set task = set_of_states (fluent_count task) (initial_states task)

-- the states in which a goal holds
abbrev pub goal_set : Task → Cond → Function
goal_set task goal values = holds task.invariant values && holds goal values

-- the goal states of a task
abbrev pub goal_states_set : Task → Function
goal_states_set task = option_map_or (goal_set task) task.goal nothing

-- where action a can be executed: the states in which its precondition holds and from which some
-- outcome leads to a state
abbrev pub exec_set : Task → ℕ → Function
exec_set task a values =
    holds task.invariant values
    && option_map_or (λ action. holds action.exec values) (slice_get task.actions.items a) false
    && list_any (λ o. holds task.invariant (after_value o values)) (outcomes_at task a)

-- the values of the fluents after an outcome of action a
abbrev pub after_values : Task → ℕ → ℕ → Values → Values
after_values task a o values f =
    option_map_or (λ outcome. after_value outcome values f)
    (slice_get (outcomes_at task a) o) (values f)

-- where fluent f is true after an outcome of action a
abbrev pub next_set : Task → ℕ → ℕ → ℕ → Function
next_set task a o f values = after_values task a o values f

-- what an outcome of action a leads to states, wherever the action can be executed
abbrev pub lands_set : Task → ℕ → ℕ → Function
lands_set task a o values = holds task.invariant (after_values task a o values)

-- what an outcome of action a leads into a set, wherever the action can be executed
abbrev pub led_into : Task → ℕ → ℕ → Function → Function
led_into task a o set values = set (after_values task a o values)

-- the same of an action and an outcome by themselves: what the outcome leads to states, where the
-- invariant holds, and where the action can be executed
abbrev pub lands_of : Cond → Outcome → Function
lands_of invariant outcome values = holds invariant (after_value outcome values)

abbrev pub exec_of : Cond → GroundAction → Function
exec_of invariant action values =
    holds invariant values && holds action.exec values
    && list_any (λ o. lands_of invariant o values) action.outcomes.items
