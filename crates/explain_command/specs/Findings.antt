-- What is told of which verdict on a plan.
use Rattle.std.specs.Prelude.{◌≡◌, ⊤, Bool, IsSome, None, Option, Some, false, true}
use Rattle.command_base.specs.Words.{PlanKind, of_class, with_contexts}
use Rattle.ctl_syntax.specs.Values.{ctl_value}
use Rattle.ctl_syntax.specs.declared.goals.Ctl.{Ctl}
use Rattle.goal_witness.specs.Witnesses.{MissesGoal}
use Rattle.plan_check.specs.declared.verdicts.Reason.TheVariants.{Cycle, Formula, Stuck, Terminal}
use Rattle.plan_check.specs.declared.verdicts.Reason.TheVariants.{Unexecutable, Unreachable}
use Rattle.plan_check.specs.declared.verdicts.Verdict.{Verdict}
use Rattle.plan_check.specs.declared.verdicts.Verdict.TheVariants.{No, Yes}
use Rattle.counterexamples.specs.Findings.{PlainFound}
use Rattle.counterexamples.specs.ForVerdicts.{IsClassFinding, IsContextFinding, PlainFinding, with_run}
use Rattle.counterexamples.specs.Misses.{IsMiss}
use Rattle.plan_rules.specs.Rules.{PlainPlan}
use Rattle.task_core.specs.Tasks.{system_of}
use Rattle.task_core.specs.declared.classes.Class.TheVariants.{Cyclic, Strong, Weak}
use Rattle.task_core.specs.declared.tasks.Task.{Task}

-- whether the verdict is that a plan with contexts misses its goal
abbrev pub misses_goal : PlanKind → Verdict → Bool
misses_goal (of_class class) verdict = false
misses_goal with_contexts (Yes bound) = false
misses_goal with_contexts (No Unexecutable) = false
misses_goal with_contexts (No Stuck) = false
misses_goal with_contexts (No Terminal) = false
misses_goal with_contexts (No Cycle) = false
misses_goal with_contexts (No Unreachable) = false
misses_goal with_contexts (No Formula) = true

-- there is a run along which the goal is false by which the plan is judged; or there is none, since the
-- plan meets that goal, or can't always be executed, or doesn't go on. Nothing else is told
pub record IsMissing (fair : Bool) (task : Task) (goal : Option Ctl) (plan : PlainPlan)
    (finding : PlainFinding) : Type 0 where
  pub judged_by : Ctl
  pub is : goal ≡ Some judged_by
  pub some : (found : PlainFound) → finding.run ≡ Some found
      → IsMiss task plan fair (ctl_value judged_by) found
  pub none : finding.run ≡ None → MissesGoal (system_of task) plan (ctl_value judged_by) → ⊥
  pub only : finding ≡ with_run finding.run

-- what is told of any other verdict: a shortest run that shows it; a longest run of a strong plan that is
-- a yes; and in which states the plan stays that can't come to an end, or to the goal
abbrev pub IsTold : PlanKind → Verdict → Task → PlainPlan → PlainFinding → Type 0
IsTold (of_class class) verdict task plan finding = IsClassFinding class verdict task plan finding
IsTold with_contexts verdict task plan finding = IsContextFinding verdict task plan finding

-- what is told of the verdict on a plan of the kind
pub record IsFindingFor (fair : Bool) (kind : PlanKind) (task : Task) (goal : Option Ctl)
    (plan : PlainPlan) (verdict : Verdict) (finding : PlainFinding) : Type 0 where
  pub missed : misses_goal kind verdict ≡ true → IsMissing fair task goal plan finding
  pub told : misses_goal kind verdict ≡ false → IsTold kind verdict task plan finding

-- there is a longest run for a yes of a strong plan
abbrev pub HasLongestFor : PlanKind → Verdict → PlainFinding → Type 0
HasLongestFor with_contexts verdict finding = ⊤
HasLongestFor (of_class Weak) verdict finding = ⊤
HasLongestFor (of_class Cyclic) verdict finding = ⊤
HasLongestFor (of_class Strong) (No reason) finding = ⊤
HasLongestFor (of_class Strong) (Yes bound) finding = IsSome finding.longest

-- each verdict is shown by a run
pub record IsShownFor (kind : PlanKind) (verdict : Verdict) (finding : PlainFinding) : Type 0 where
  pub run : IsSome finding.run
  pub longest : HasLongestFor kind verdict finding
