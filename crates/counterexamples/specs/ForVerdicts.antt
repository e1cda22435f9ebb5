-- What is told of a verdict on a plan.
use Rattle.std.specs.Prelude.{◌≡◌, None, Option, Some}
use Rattle.plan_check.specs.declared.verdicts.Verdict.{Verdict}
use Rattle.counterexamples.specs.Aims.{IsAimAt, class_aim, context_aim}
use Rattle.counterexamples.specs.Findings.{IsFound, PlainFound}
use Rattle.counterexamples.specs.Longest.{IsLongestFor}
use Rattle.counterexamples.specs.Stays.{IsStaysFor, PlainStays}
use Rattle.counterexamples.specs.declared.aims.Aim.{Aim}
use Rattle.plan_rules.specs.Rules.{PlainPlan}
use Rattle.plan_witness.specs.Runs.{NoneReached}
use Rattle.task_core.specs.Tasks.{system_of}
use Rattle.task_core.specs.declared.classes.Class.{Class}
use Rattle.task_core.specs.declared.tasks.Task.{Task}

-- a run that shows the verdict, a longest run, and where the plan stays from the end of the first run on;
-- each where there is one
pub record PlainFinding : Type 0 where
  pub run : Option PlainFound
  pub longest : Option PlainFound
  pub stays : Option PlainStays

-- nothing but a run is told, or not even that
abbrev pub with_run : Option PlainFound → PlainFinding
with_run run = record { run = run; longest = None; stays = None }

-- there is a run, with what is the matter at its end, to the aim, and no shorter one; or there is none,
-- since the plan may reach no configuration that is the aim
abbrev pub IsFinding : Aim → Task → PlainPlan → Option PlainFound → Type 0
IsFinding aim task plan (Some found) = IsFound aim task plan found
IsFinding aim task plan None =
    NoneReached (system_of task) plan (IsAimAt aim (system_of task) plan)

-- what is told of a verdict on a table as a plan of a class
pub record IsClassFinding (class : Class) (verdict : Verdict) (task : Task) (plan : PlainPlan)
    (finding : PlainFinding) : Type 0 where
  pub run : IsFinding (class_aim class verdict) task plan finding.run
  pub longest : IsLongestFor class verdict task plan finding.longest
  pub stays : IsStaysFor (class_aim class verdict) task plan finding.run finding.stays

-- what is told of a verdict on a plan with contexts, unless it is that the goal is missed
pub record IsContextFinding (verdict : Verdict) (task : Task) (plan : PlainPlan)
    (finding : PlainFinding) : Type 0 where
  pub run : IsFinding (context_aim verdict) task plan finding.run
  pub only : finding ≡ with_run finding.run
