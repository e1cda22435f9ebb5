-- The sets that are made while a task is put into sets: if each of them has a small diagram, few
-- nodes are enough, however many fluents there are.
use Rattle.std.specs.Prelude.{◌≡◌, ℕ, ◌<◌, ◌&&◌, Bool, true, false, take}
use Rattle.std.specs.Prelude.{slice_get, Contains, Some, Vec, Box}
use Rattle.std.specs.List.{list_all, list_any}
use Rattle.std.specs.declared.alloc.Global.{Global}
use Rattle.dd_nodes.specs.Subfunctions.{Function, IsSubfunction}
use Rattle.dd_ops.specs.Operations.{and_of}
use Rattle.task_core.specs.Actions.{after_value, change_makes}
use Rattle.task_core.specs.Conditions.{holds}
use Rattle.task_core.specs.Cubes.{Cube}
use Rattle.task_core.specs.Initial.{Entry, entries_of}
use Rattle.task_core.specs.Tasks.{fluent_count, states_after_entries}
use Rattle.task_core.specs.declared.actions.Change.{Change}
use Rattle.task_core.specs.declared.actions.GroundAction.{GroundAction}
use Rattle.task_core.specs.declared.actions.Outcome.{Outcome}
use Rattle.task_core.specs.declared.conditions.Cond.{Cond}
use Rattle.task_core.specs.declared.conditions.Cond.TheVariants.{Not, All, Any}
use Rattle.task_core.specs.declared.literals.Lit.{Lit}
use Rattle.task_core.specs.declared.tasks.Task.{Task}
use Rattle.dd_sets.specs.Rooms.{Small}
use Rattle.encode_task.specs.Images.{assigned_signed, entry_image}
use Rattle.encode_task.specs.TaskSets.{goal_set, initial_set, led_into, set_of_states}

-- each set of which P holds is small for w
abbrev pub AreSmall : ℕ → ℕ → (Function → Type 0) → Type 0
AreSmall fluents w P = (set : Function) → P set → Small fluents w set

-- where a part of a condition holds, the whole condition included, or all, or some, of the first
-- parts of an `All` or `Any` in it
pub data IsPartOf : Cond → Function → Type 0 where
  itself : (cond : Cond) → IsPartOf cond (holds cond)
  in_not : (part : Box Cond Global) (set : Function) → IsPartOf part.value set
      → IsPartOf (Not part) set
  in_all : (parts : Vec Cond Global) (part : Cond) (set : Function) → Contains parts.items part
      → IsPartOf part set → IsPartOf (All parts) set
  in_any : (parts : Vec Cond Global) (part : Cond) (set : Function) → Contains parts.items part
      → IsPartOf part set → IsPartOf (Any parts) set
  first_of_all : (parts : Vec Cond Global) (j : ℕ)
      → IsPartOf (All parts) (λ values. list_all (λ part. holds part values) (take j parts.items))
  first_of_any : (parts : Vec Cond Global) (j : ℕ)
      → IsPartOf (Any parts) (λ values. list_any (λ part. holds part values) (take j parts.items))

-- the sets of an outcome: the parts of the conditions of its changes, where these have a literal,
-- where one of its first changes adds or deletes a fluent, and the next values
pub data IsMadeForOutcome (fluents : ℕ) (outcome : Outcome) : Function → Type 0 where
  condition : (change : Change) (lit : Lit) (set : Function)
      → Contains outcome.changes.items change → Contains change.lits.items lit
      → IsPartOf change.cond set → IsMadeForOutcome fluents outcome set
  first_changes : (positive : Bool) (f j : ℕ) → f < fluents
      → IsMadeForOutcome fluents outcome
      (λ values. list_any (change_makes positive values f) (take j outcome.changes.items))
  next_value : (f : ℕ) → f < fluents
      → IsMadeForOutcome fluents outcome (λ values. after_value outcome values f)

-- the sets of an action: the parts of its precondition and the states in which it holds, those from
-- which one of the first outcomes leads to a state, what an outcome leads into a subfunction of the
-- states, and the sets of its outcomes
pub data IsMadeForAction (fluents : ℕ) (invariant : Cond) (action : GroundAction)
    : Function → Type 0 where
  precondition : (set : Function) → IsPartOf action.exec set
      → IsMadeForAction fluents invariant action set
  allowed : IsMadeForAction fluents invariant action (and_of (holds invariant) (holds action.exec))
  first_outcomes : (j : ℕ) → IsMadeForAction fluents invariant action
      (λ values. holds invariant values && holds action.exec values
      && list_any (λ outcome. holds invariant (after_value outcome values))
      (take j action.outcomes.items))
  led : (outcome : Outcome) (part : Function) → Contains action.outcomes.items outcome
      → IsSubfunction fluents (holds invariant) part
      → IsMadeForAction fluents invariant action (λ values. part (after_value outcome values))
  of_outcome : (outcome : Outcome) (set : Function) → Contains action.outcomes.items outcome
      → IsMadeForOutcome fluents outcome set → IsMadeForAction fluents invariant action set

-- the sets of an alternative of an uncertain entry that acts on a set: what is left after its first
-- deletes, and after its deletes and its first adds
pub data IsMadeOfLiterals (set : Function) (lits : Cube) : Function → Type 0 where
  deletes : (j : ℕ) → IsMadeOfLiterals set lits (assigned_signed false (take j lits) set)
  adds : (j : ℕ)
      → IsMadeOfLiterals set lits (assigned_signed true (take j lits) (assigned_signed false lits set))

-- the sets of an uncertain entry that acts on a set: what is there after its first alternatives, and
-- the sets of each alternative
pub data IsMadeOfEntry (set : Function) (entry : Entry) : Function → Type 0 where
  first_alternatives : (j : ℕ) → IsMadeOfEntry set entry (entry_image set (take j entry))
  of_alternative : (lits : Cube) (after : Function) → Contains entry lits
      → IsMadeOfLiterals set lits after → IsMadeOfEntry set entry after

-- the vectors after the first k entries of a task
abbrev pub vectors_after : Task → ℕ → Function
vectors_after task k = set_of_states (fluent_count task) (states_after_entries task k)

-- the sets that are made for a task: the parts of its invariant and of its goal, the goal states and
-- the initial ones, the vectors after the first uncertain entries, and the sets of the next entry and
-- of each action
pub data IsMadeByEncode (task : Task) : Function → Type 0 where
  invariant : (set : Function) → IsPartOf task.invariant set → IsMadeByEncode task set
  goal : (cond : Cond) (set : Function) → task.goal ≡ Some cond → IsPartOf cond set
      → IsMadeByEncode task set
  goal_states : (cond : Cond) → task.goal ≡ Some cond → IsMadeByEncode task (goal_set task cond)
  initial_states : IsMadeByEncode task (initial_set task)
  first_entries : (k : ℕ) → IsMadeByEncode task (vectors_after task k)
  next_entry : (k : ℕ) (entry : Entry) (set : Function)
      → slice_get (entries_of task.init) k ≡ Some entry
      → IsMadeOfEntry (vectors_after task k) entry set → IsMadeByEncode task set
  of_action : (action : GroundAction) (set : Function) → Contains task.actions.items action
      → IsMadeForAction (fluent_count task) task.invariant action set → IsMadeByEncode task set

-- what an outcome leads into each subfunction of a set is small
abbrev pub ImagesAreSmall : ℕ → Task → ℕ → ℕ → Function → Type 0
ImagesAreSmall w task a o set =
    (part : Function) → IsSubfunction (fluent_count task) set part
    → Small (fluent_count task) w (led_into task a o part)
