-- When a goal in computation tree logic is true at a configuration of a plan with contexts (Pistore,
-- Traverso 2001).
use Rattle.ctl_syntax.specs.Truth.{Satisfies}
use Rattle.pddl_ast.specs.Trees.{DomainTree, ProblemTree, TemporalTree}
use Rattle.pddl_system.specs.CtlGoals.{FormulaHoldsAt, ctl_tree}
use Rattle.pddl_system.specs.Fluents.{fluents}
use Rattle.pddl_system.specs.Settings.{setting}
use Rattle.pddl_system.specs.Systems.{system}
use Rattle.task_core.specs.ContextPlans.{Configuration, ContextPlan, Follows}

-- a goal is true at a configuration, along the paths of the plan; a formula is where it holds in
-- its state
abbrev pub HasGoal : DomainTree → ProblemTree → ContextPlan → TemporalTree → Configuration → Type 0
HasGoal domain problem plan goal =
    Satisfies (Follows (system domain problem) plan)
    (FormulaHoldsAt (setting domain problem) (fluents domain problem)) (ctl_tree goal)
