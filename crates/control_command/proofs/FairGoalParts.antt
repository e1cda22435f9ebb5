-- The goal that stands for a problem's goal, if it is an until-chain or a patrol goal.
use Rattle.std.proofs.Common.{◌≡◌, None, Some, Option}
use Rattle.std.specs.Option.{option_map}
use Rattle.std.specs.Prelude.{IfNone, IfOk, IfSome, Result, Ok, Err}
use Rattle.ctl_syntax.specs.ContextGoals.{plain_goal}
use Rattle.ctl_syntax.specs.GoalValues.{goal_conditions, tree_of_goal}
use Rattle.ctl_syntax.specs.Values.{ctl_value}
use Rattle.ctl_syntax.specs.declared.context_goals.ContextGoal.{ContextGoal}
use Rattle.ctl_syntax.specs.declared.goals.Ctl.{Ctl}
use Rattle.pddl_ast.specs.Trees.{DomainTree, ProblemTree}
use Rattle.pddl_system.specs.CtlGoals.{ctl_goal_of, goal_value}
use Rattle.pddl_system.specs.Laws.{GroundedGoalsAreTrue}
use Rattle.plan_command.specs.ContextGoals.{context_goal}
use Rattle.plan_command.specs.FoundGoals.{StandsForGoal}
use Rattle.plan_command.proofs.ContextAnswers.{goal_stands, no_goal_found}

pub some_stands : {E : Type 0} → GroundedGoalsAreTrue → (d : DomainTree) (p : ProblemTree) (goal : Ctl) (r : Result (Option ContextGoal) E) → Some (goal_value goal) ≡ ctl_goal_of d p
    → IfOk r (λ found. option_map tree_of_goal found ≡ option_map goal_conditions (plain_goal (ctl_value goal))) → IfOk r (λ found. IfSome found (StandsForGoal d p))
some_stands law d p goal (Ok (Some found)) stands is = goal_stands law d p goal found stands is
some_stands law d p goal (Ok None) stands is = tt
some_stands law d p goal (Err e) stands is = tt

pub none_stands : {E : Type 0} (d : DomainTree) (p : ProblemTree) (goal : Ctl) (r : Result (Option ContextGoal) E) → Some (goal_value goal) ≡ ctl_goal_of d p
    → IfOk r (λ found. option_map tree_of_goal found ≡ option_map goal_conditions (plain_goal (ctl_value goal))) → IfOk r (λ found. IfNone found (context_goal p ≡ None))
none_stands d p goal (Ok (Some found)) stands is = tt
none_stands d p goal (Ok None) stands is = no_goal_found d p goal stands is
none_stands d p goal (Err e) stands is = tt
