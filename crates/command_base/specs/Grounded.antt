-- That a task and a goal in computation tree logic are those of a domain and a problem.
use Rattle.std.specs.Prelude.{◌≡◌, IfSome, None}
use Rattle.std.specs.Option.{option_map}
use Rattle.ctl_syntax.specs.Values.{IsAtMostDeep, NamesBelow, ctl_value}
use Rattle.ground_task.specs.declared.grounding.Grounded.{Grounded}
use Rattle.pddl_ast.specs.Trees.{DomainTree, ProblemTree}
use Rattle.pddl_system.specs.CtlGoals.{ctl_goal_of, goal_value}
use Rattle.pddl_system.specs.Sizes.{first_passed}
use Rattle.pddl_system.specs.Systems.{system}
use Rattle.pddl_system.specs.Tasks.{task_of}
use Rattle.pddl_system.specs.Values.{task_value}
use Rattle.task_core.specs.Tasks.{fluent_count, system_of}
use Rattle.task_core.specs.declared.tasks.Task.{Task}

-- the task is theirs, and all that is counted is within its limits
pub record IsTaskOf (domain : DomainTree) (problem : ProblemTree) (task : Task) : Type 0 where
  pub task_is : task_value task ≡ task_of domain problem
  pub system_is : system_of task ≡ system domain problem
  pub within : first_passed domain problem ≡ None

-- Private: and the goal is theirs
pub record IsGroundedOf (domain : DomainTree) (problem : ProblemTree)
    (grounded : Grounded) : Type 0 where
  pub of_task : IsTaskOf domain problem grounded.task
  pub goal_is : option_map goal_value grounded.ctl ≡ ctl_goal_of domain problem
  pub names : IfSome grounded.ctl
      (λ goal. NamesBelow (fluent_count grounded.task) (ctl_value goal))
  pub shallow : IfSome grounded.ctl (λ goal. IsAtMostDeep 199 (ctl_value goal))
