-- The plain trees that a task's types stand for.
use Rattle.std.specs.Prelude.{◌≡◌, Bool, List, map, length, nat_lt, Option}
use Rattle.std.specs.List.{flat_map, list_all}
use Rattle.std.specs.Option.{option_map}
use Rattle.task_core.specs.Initial.{entries_of, facts_of}
use Rattle.task_core.specs.Names.{Words, name_bytes, name_of}
use Rattle.task_core.specs.Tasks.{fluent_names}
use Rattle.task_core.specs.declared.literals.Lit.{Lit}
use Rattle.task_core.specs.declared.conditions.Cond.{Cond}
use Rattle.task_core.specs.declared.actions.Change.{Change}
use Rattle.task_core.specs.declared.actions.Outcome.{Outcome}
use Rattle.task_core.specs.declared.actions.GroundAction.{GroundAction}
use Rattle.task_core.specs.declared.actions.InitSpec.{InitSpec}
use Rattle.task_core.specs.declared.tasks.Task.{Task}
use Rattle.pddl_ast.specs.Trees.{DomainTree, ProblemTree}
use Rattle.ctl_syntax.specs.Conditions.{CondTree, condition_value}
use Rattle.pddl_system.specs.Tasks.{ActionTree, TaskTree, task_of}

-- each literal of a change, under the change's condition
abbrev pub change_value : Change → List (CondTree × Lit)
change_value change =
    map (λ (lit : Lit). (condition_value change.cond, lit)) change.lits.items

abbrev pub outcome_value : Outcome → List (CondTree × Lit)
outcome_value outcome = flat_map change_value outcome.changes.items

-- whether each change has a literal. One without does nothing, and its condition stands in no value
abbrev pub change_has_literals : Change → Bool
change_has_literals change = nat_lt 0 (length change.lits.items)

abbrev pub outcome_has_literals : Outcome → Bool
outcome_has_literals outcome = list_all change_has_literals outcome.changes.items

abbrev pub action_has_literals : GroundAction → Bool
action_has_literals action = list_all outcome_has_literals action.outcomes.items

abbrev pub action_value : GroundAction → ActionTree
action_value action = record {
  name = name_of action;
  exec = condition_value action.exec;
  outcomes = map outcome_value action.outcomes.items;
}

abbrev pub task_value : Task → TaskTree
task_value task = record {
  fluents = fluent_names task;
  actions = map action_value task.actions.items;
  facts = facts_of (length task.fluents.items) task.init;
  entries = entries_of task.init;
  goal = option_map condition_value task.goal;
  invariant = condition_value task.invariant;
}

-- the parts of a task, as they are handed to `Task::new`, stand for those of the task of a domain
-- and a problem
pub record ArePartsOf (d : DomainTree) (p : ProblemTree)
    (fluents : List Words) (actions : List GroundAction) (init : InitSpec)
    (goal : Option Cond) (invariant : Cond) : Type 0 where
  pub fluents_are : map name_bytes fluents ≡ (task_of d p).fluents
  pub actions_are : map action_value actions ≡ (task_of d p).actions
  pub facts_are : facts_of (length fluents) init ≡ (task_of d p).facts
  pub entries_are : entries_of init ≡ (task_of d p).entries
  pub goal_is : option_map condition_value goal ≡ (task_of d p).goal
  pub invariant_is : condition_value invariant ≡ (task_of d p).invariant
