-- What a run is to show for a verdict on a plan.
use Rattle.std.specs.Prelude.{IsSome, ⊤}
use Rattle.task_core.specs.ContextPlans.{Configuration}
use Rattle.task_core.specs.Systems.{System}
use Rattle.task_core.specs.declared.classes.Class.{Class}
use Rattle.task_core.specs.declared.classes.Class.TheVariants.{Cyclic, Strong, Weak}
use Rattle.task_core.specs.declared.tasks.Task.{Task}
use Rattle.plan_rules.specs.Rules.{PlainPlan}
use Rattle.exec_graph.specs.Executions.{IsStuckAt, IsUnexecutableAt}
use Rattle.plan_check.specs.declared.verdicts.Reason.TheVariants.{Cycle, Formula, Stuck, Terminal}
use Rattle.plan_check.specs.declared.verdicts.Reason.TheVariants.{Unexecutable, Unreachable}
use Rattle.plan_check.specs.declared.verdicts.Verdict.{Verdict}
use Rattle.plan_check.specs.declared.verdicts.Verdict.TheVariants.{No, Yes}
use Rattle.plan_witness.specs.Ends.{IsEndInside, IsEndOutside, IsEndless, IsLostStart}
use Rattle.plan_witness.specs.Lassos.{ComesBack}
use Rattle.counterexamples.specs.declared.aims.Aim.{Aim}
use Rattle.counterexamples.specs.declared.aims.Aim.TheVariants.{Bad, Endless, Inside, Lost, Nothing}
use Rattle.counterexamples.specs.declared.aims.Aim.TheVariants.{Outside, Round, Unfinished}

-- the aim at x: the plan ends there, in the goal or outside it; a rule counts there that can't be
-- followed; the plan doesn't go on there; a run from there comes back; no run from there ends in the goal, or none ends at all
abbrev pub IsAimAt : Aim → System → PlainPlan → Configuration → Type 0
IsAimAt Nothing sys plan x = ⊥
IsAimAt Inside sys plan x = IsEndInside sys plan x
IsAimAt Outside sys plan x = IsEndOutside sys plan x
IsAimAt Bad sys plan x = IsUnexecutableAt sys plan x
IsAimAt Unfinished sys plan x = IsStuckAt sys plan x
IsAimAt Round sys plan x = ComesBack sys plan x
IsAimAt Lost sys plan x = IsLostStart sys plan x
IsAimAt Endless sys plan x = IsEndless sys plan x

-- what shows a verdict on a table as a plan of a class
abbrev pub class_aim : Class → Verdict → Aim
class_aim class (Yes bound) = Inside
class_aim class (No Unexecutable) = Bad
class_aim class (No Stuck) = Nothing
class_aim class (No Terminal) = Outside
class_aim class (No Cycle) = Round
class_aim Weak (No Unreachable) = Lost
class_aim Strong (No Unreachable) = Nothing
class_aim Cyclic (No Unreachable) = Endless
class_aim class (No Formula) = Nothing

-- what shows a verdict on a plan with contexts. No run of one that is a yes ends, so one comes back
abbrev pub context_aim : Verdict → Aim
context_aim (Yes bound) = Round
context_aim (No Unexecutable) = Bad
context_aim (No Stuck) = Unfinished
context_aim (No Terminal) = Nothing
context_aim (No Cycle) = Nothing
context_aim (No Unreachable) = Nothing
context_aim (No Formula) = Nothing

-- the task has a goal by reachability, where the aim asks for it
abbrev pub HasGoalFor : Aim → Task → Type 0
HasGoalFor Nothing task = ⊤
HasGoalFor Inside task = IsSome task.goal
HasGoalFor Outside task = IsSome task.goal
HasGoalFor Bad task = ⊤
HasGoalFor Unfinished task = ⊤
HasGoalFor Round task = ⊤
HasGoalFor Lost task = IsSome task.goal
HasGoalFor Endless task = ⊤
