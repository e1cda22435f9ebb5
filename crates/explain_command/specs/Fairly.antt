-- Plans that are judged as ones whose actions may be tried again: by the goal in computation tree logic
-- that stands in the place of the problem's.
use Rattle.std.specs.Prelude.{◌≡◌, ◌<◌, ◌⊎◌, Bool, true, false, Option, None, Some, codes}
use Rattle.std.specs.Option.{option_map}
use Rattle.ctl_syntax.specs.Conditions.{condition_value}
use Rattle.ctl_syntax.specs.ContextGoals.{plain_goal}
use Rattle.ctl_syntax.specs.GoalValues.{goal_conditions, tree_of_goal}
use Rattle.ctl_syntax.specs.Goals.{map_plain}
use Rattle.ctl_syntax.specs.Values.{ctl_value}
use Rattle.ctl_syntax.specs.declared.context_goals.ContextGoal.{ContextGoal}
use Rattle.ctl_syntax.specs.declared.goals.Ctl.{Ctl}
use Rattle.check_command.specs.CheckCommand.{IsVerdictOf}
use Rattle.command_base.specs.Answers.{Answer, Refusal, over_limit, refused, text_fault}
use Rattle.command_base.specs.Words.{Bytes, PlanKind}
use Rattle.fair_theory.specs.FairGoals.{fair_tree, most_fair_stages, stage_count}
use Rattle.fair_theory.specs.FairPlans.{HasFairly, sets_of_goal}
use Rattle.pddl_ast.specs.Trees.{DomainTree, ProblemTree}
use Rattle.pddl_system.specs.CtlGoals.{ctl_goal_of, goal_value}
use Rattle.pddl_system.specs.Systems.{system}
use Rattle.plan_check.specs.ContextVerdicts.{IsContextVerdict}
use Rattle.plan_check.specs.declared.verdicts.Verdict.{Verdict}
use Rattle.plan_rules.specs.Denoted.{denoted_contexts}
use Rattle.plan_rules.specs.Rules.{PlainPlan, automaton, table}
use Rattle.sexpr_text.specs.declared.faults.FaultKind.TheVariants.{NotChain}
use Rattle.sexpr_text.specs.declared.forms.Place.{Place}

-- these are the parts of a goal over conditions on fluents: an until-chain's, or a patrol goal's
abbrev pub HasParts : Ctl → ContextGoal → Type 0
HasParts goal parts =
    Some (tree_of_goal parts) ≡ option_map goal_conditions (plain_goal (ctl_value goal))

-- the goal by which a plan is judged: the given one; or the one that stands in its place where actions may
-- be tried again
pub record IsFairGoal (given judged : Option Ctl) : Type 0 where
  pub goal : Ctl
  pub is_given : given ≡ Some goal
  pub parts : ContextGoal
  pub has_parts : HasParts goal parts
  pub made : Ctl
  pub is_judged : judged ≡ Some made
  pub translated : map_plain condition_value (ctl_value made) ≡ fair_tree (tree_of_goal parts)

abbrev pub IsGoalFor : Bool → (given judged : Option Ctl) → Type 0
IsGoalFor false given judged = judged ≡ given
IsGoalFor true given judged = IsFairGoal given judged

-- the given goal is no until-chain and no patrol goal, which is a fault at this place of the file of this
-- name
pub record HasNoParts (name : Bytes) (place : Place) (given : Option Ctl) (refusal : Refusal) : Type 0 where
  pub goal : Ctl
  pub is_given : given ≡ Some goal
  pub none : plain_goal (ctl_value goal) ≡ None
  pub refused : refusal ≡ text_fault name (record { kind = NotChain; place = place })

-- it is an until-chain with too many stages
pub record HasManyStages (given : Option Ctl) (refusal : Refusal) : Type 0 where
  pub goal : Ctl
  pub is_given : given ≡ Some goal
  pub parts : ContextGoal
  pub has_parts : HasParts goal parts
  pub many : most_fair_stages < stage_count (tree_of_goal parts)
  pub refused : refusal ≡ over_limit (codes "stages")

-- why no plan is judged for the goal of a problem at this place
abbrev pub IsGoalRefusal : Bool → Bytes → Place → Option Ctl → Refusal → Type 0
IsGoalRefusal false name place given refusal = ⊥
IsGoalRefusal true name place given refusal =
    HasNoParts name place given refusal ⊎ HasManyStages given refusal

-- no plan is judged for a goal, and that is the answer; or some goal is the one that plans are judged by,
-- and then comes what Then says
abbrev pub GoalForThen : Bool → Bytes → Place → Option Ctl → (Option Ctl → Answer → Type 0) → Answer
    → Type 0
GoalForThen fair name place given Then answer =
    ((refusal : Refusal) × (answer ≡ refused refusal) × IsGoalRefusal fair name place given refusal)
    ⊎ ((judged : Option Ctl) × IsGoalFor fair given judged × Then judged answer)

-- the same of the goal of a domain and a problem, over conditions on fluents
abbrev pub IsProblemRefusal : Bool → Bytes → DomainTree → ProblemTree → Refusal → Type 0
IsProblemRefusal fair name domain problem refusal =
    (given : Option Ctl) × (option_map goal_value given ≡ ctl_goal_of domain problem)
    × IsGoalRefusal fair name problem.ctl_place given refusal

abbrev pub FairThen : Bool → Bytes → DomainTree → ProblemTree → (Answer → Type 0) → Answer → Type 0
FairThen fair name domain problem Then answer =
    ((refusal : Refusal) × (answer ≡ refused refusal)
    × IsProblemRefusal fair name domain problem refusal)
    ⊎ Then answer

-- the verdict on a plan with contexts, where it may try its actions again: whether it is complete, and has
-- fairly the sets of states of a goal with these parts
abbrev pub IsVerdictFor : DomainTree → ProblemTree → ContextGoal → PlainPlan → Verdict → Type 0
IsVerdictFor domain problem parts (table written rules) verdict = ⊥
IsVerdictFor domain problem parts (automaton contexts rules) verdict =
    IsContextVerdict (system domain problem) (denoted_contexts rules)
    (HasFairly (system domain problem) (denoted_contexts rules) (sets_of_goal parts)) verdict

-- the same for the goal of a domain and a problem
pub record IsFairVerdict (domain : DomainTree) (problem : ProblemTree) (plan : PlainPlan)
    (verdict : Verdict) : Type 0 where
  pub goal : Ctl
  pub grounded : Some (goal_value goal) ≡ ctl_goal_of domain problem
  pub parts : ContextGoal
  pub has_parts : HasParts goal parts
  pub judged : IsVerdictFor domain problem parts plan verdict

-- the verdict on a plan: that of `check`, or that on one that may try its actions again
abbrev pub IsJudgedAs : Bool → PlanKind → DomainTree → ProblemTree → PlainPlan → Verdict → Type 0
IsJudgedAs false kind domain problem plan verdict = IsVerdictOf kind domain problem plan verdict
IsJudgedAs true kind domain problem plan verdict = IsFairVerdict domain problem plan verdict
