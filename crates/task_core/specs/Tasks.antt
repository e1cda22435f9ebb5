-- The planning system of a task.
use Rattle.std.specs.Prelude.{◌≡◌, ℕ, Bool, true, false, ◌&&◌, if◌then◌else◌, List, [], map, length}
use Rattle.std.specs.Prelude.{slice_get, take, Option, Some, None}
use Rattle.std.specs.List.{filter, list_any}
use Rattle.std.specs.Option.{option_and_then, option_map, option_map_or}
use Rattle.task_core.specs.Vectors.{Vector, value_of, all_vectors}
use Rattle.task_core.specs.Systems.{System}
use Rattle.task_core.specs.Initial.{after_entries, entries_of, facts_of}
use Rattle.task_core.specs.Names.{Name, name_bytes, name_of}
use Rattle.task_core.specs.Conditions.{holds}
use Rattle.task_core.specs.Actions.{after}
use Rattle.task_core.specs.declared.conditions.Cond.{Cond}
use Rattle.task_core.specs.declared.actions.Outcome.{Outcome}
use Rattle.task_core.specs.declared.tasks.Task.{Task}

-- how many fluents and actions a task has
abbrev pub fluent_count : Task → ℕ
fluent_count task = length task.fluents.items

abbrev pub action_count : Task → ℕ
action_count task = length task.actions.items

-- the outcomes of action a; none past the last action
abbrev pub outcomes_at : Task → ℕ → List Outcome
outcomes_at task a =
    option_map_or (λ action. action.outcomes.items) (slice_get task.actions.items a) []

-- whether a vector is a state: the invariant of the task holds in it
abbrev pub in_space : Task → Vector → Bool
in_space task v = holds task.invariant (value_of v)

-- whether v is a state in which the precondition of action a holds
abbrev pub is_allowed : Task → Vector → ℕ → Bool
is_allowed task v a =
    in_space task v
    && option_map_or (λ action. holds action.exec (value_of v)) (slice_get task.actions.items a) false

-- the vectors after the outcomes of action a from v, in their order, wherever the precondition
-- holds, and whether they are states or not
abbrev pub states_after : Task → Vector → ℕ → List Vector
states_after task v a = map (λ o. after (fluent_count task) o v) (outcomes_at task a)

-- whether action a can be executed in v: v is a state, the precondition holds there, and some
-- outcome leads to a state
abbrev pub is_executable : Task → Vector → ℕ → Bool
is_executable task v a =
    is_allowed task v a && list_any (in_space task) (states_after task v a)

-- the states to which action a leads from v: an outcome that leads to no state doesn't take place
abbrev pub next_states : Task → Vector → ℕ → List Vector
next_states task v a =
    if is_allowed task v a then filter (in_space task) (states_after task v a) else []

-- a vector, where it is a state
abbrev pub if_state : Task → Vector → Option Vector
if_state task v = if in_space task v then Some v else None

-- the state to which outcome o of action a leads from v, where it leads to one
abbrev pub state_after : Task → Vector → ℕ → ℕ → Option Vector
state_after task v a o =
    if is_allowed task v a
    then option_and_then (if_state task) (slice_get (states_after task v a) o) else None

-- the states of a task in which a condition holds
abbrev pub states_where : Task → Cond → List Vector
states_where task cond =
    filter (λ v. in_space task v && holds cond (value_of v)) (all_vectors (fluent_count task))

-- the names of the fluents and of the actions, by their numbers
abbrev pub fluent_names : Task → List Name
fluent_names task = map name_bytes task.fluents.items

abbrev pub action_names : Task → List Name
action_names task = map name_of task.actions.items

-- the vectors after the first k of the uncertain entries
abbrev pub states_after_entries : Task → ℕ → List Vector
states_after_entries task k = let n = fluent_count task in
    after_entries n (facts_of n task.init) (take k (entries_of task.init))

-- the vectors after all entries; the initial states are those of them that are states
abbrev pub initial_vectors : Task → List Vector
initial_vectors task = let n = fluent_count task in
    after_entries n (facts_of n task.init) (entries_of task.init)

abbrev pub initial_states : Task → List Vector
initial_states task = filter (in_space task) (initial_vectors task)

-- the system of a task
abbrev pub system_of : Task → System
system_of task = record {
  fluents = fluent_count task;
  in_space = in_space task;
  actions = action_count task;
  outcomes = λ a. length (outcomes_at task a);
  initial = initial_states task;
  goal = option_map (states_where task) task.goal;
  next = next_states task;
  after = state_after task;
}

-- what the system is where each vector is a state, as for a task whose invariant always holds: an
-- action can be executed where its precondition holds and leads to the vectors of all its outcomes,
-- and all vectors after the uncertain entries are initial states
pub record EachVectorIsAState (task : Task) : Type 0 where
  pub inside : (v : Vector) → in_space task v ≡ true
  pub allowed : (v : Vector) (a : ℕ) → is_allowed task v a
      ≡ option_map_or (λ action. holds action.exec (value_of v))
      (slice_get task.actions.items a) false
  pub executable : (v : Vector) (a : ℕ) → is_executable task v a ≡ is_allowed task v a
  pub next : (v : Vector) (a : ℕ)
      → next_states task v a ≡ (if is_allowed task v a then states_after task v a else [])
  pub initial : initial_states task ≡ initial_vectors task
  pub goal : (cond : Cond) → states_where task cond
      ≡ filter (λ v. holds cond (value_of v)) (all_vectors (fluent_count task))
