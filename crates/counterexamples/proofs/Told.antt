-- What is told of a verdict, from what was found.
use Rattle.std.proofs.Common.{ℕ, None, Option, Some, Result, Ok, Err, IfOk}
use Rattle.std.specs.Prelude.{IfNone, IfSome, IsSome}
use Rattle.task_core.specs.Tasks.{system_of}
use Rattle.task_core.specs.declared.tasks.Task.{Task}
use Rattle.plan_check.specs.declared.verdicts.Reason.TheVariants.{Cycle, Formula, Stuck, Terminal, Unexecutable, Unreachable}
use Rattle.plan_check.specs.declared.verdicts.Verdict.{Verdict}
use Rattle.plan_check.specs.declared.verdicts.Verdict.TheVariants.{No, Yes}
use Rattle.plan_rules.specs.Rules.{PlainPlan}
use Rattle.plan_witness.specs.Runs.{NoneReached}
use Rattle.counterexamples.specs.Aims.{HasGoalFor, IsAimAt, context_aim}
use Rattle.counterexamples.specs.Findings.{IsFound}
use Rattle.counterexamples.specs.ForVerdicts.{IsFinding}
use Rattle.counterexamples.specs.Values.{found_value, run_found_value}
use Rattle.counterexamples.specs.declared.aims.Aim.{Aim}
use Rattle.counterexamples.specs.declared.aims.Aim.TheVariants.{Bad, Endless, Inside, Lost, Nothing, Outside, Round, Unfinished}
use Rattle.counterexamples.specs.declared.findings.Found.{Found}

-- where the task has a goal, it has one for each aim
pub has_goal : (aim : Aim) (task : Task) → IsSome task.goal → HasGoalFor aim task
has_goal Nothing task some = tt
has_goal Inside task some = some
has_goal Outside task some = some
has_goal Bad task some = tt
has_goal Unfinished task some = tt
has_goal Round task some = tt
has_goal Lost task some = some
has_goal Endless task some = tt

-- of plans with contexts no aim asks for it
pub asks_no_goal : (verdict : Verdict) (task : Task) → HasGoalFor (context_aim verdict) task
asks_no_goal (Yes bound) task = tt
asks_no_goal (No Unexecutable) task = tt
asks_no_goal (No Stuck) task = tt
asks_no_goal (No Terminal) task = tt
asks_no_goal (No Cycle) task = tt
asks_no_goal (No Unreachable) task = tt
asks_no_goal (No Formula) task = tt

-- a run that was found, or that there is none
pub finding_ok : {E : Type 0} (r : Result (Option Found) E) (n : ℕ) (aim : Aim) (task : Task) (plan : PlainPlan) → IfOk r (λ o. IfSome o (λ f. IsFound aim task plan (found_value n f)))
    → IfOk r (λ o. IfNone o (NoneReached (system_of task) plan (IsAimAt aim (system_of task) plan))) → IfOk r (λ o. IsFinding aim task plan (run_found_value n o))
finding_ok (Ok (Some found)) n aim task plan is none = is
finding_ok (Ok None) n aim task plan is none = none
finding_ok (Err error) n aim task plan is none = is
