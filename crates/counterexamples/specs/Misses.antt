-- A run that shows why a plan with contexts misses the goal by which it is judged.
use Rattle.std.specs.Prelude.{◌≡◌, Bool, Some, slice_get}
use Rattle.ctl_syntax.specs.Goals.{CtlTree}
use Rattle.goal_witness.specs.Lines.{lines_from}
use Rattle.goal_witness.specs.Witnesses.{IsWitness, PlainWitness}
use Rattle.counterexamples.specs.Findings.{PlainFound, goal_missed}
use Rattle.plan_rules.specs.Rules.{PlainPlan}
use Rattle.task_core.specs.Tasks.{initial_states, system_of}
use Rattle.task_core.specs.declared.conditions.Cond.{Cond}
use Rattle.task_core.specs.declared.tasks.Task.{Task}

-- the run is that of a witness, it begins in the initial state of this number, and what is said of it is
-- where each part of the goal is false; `fair` says which goal it is
pub record IsMiss (task : Task) (plan : PlainPlan) (fair : Bool) (goal : CtlTree Cond)
    (found : PlainFound) : Type 0 where
  pub witness : PlainWitness
  pub shows : IsWitness (system_of task) plan goal witness
  pub numbered : slice_get (initial_states task) found.number ≡ Some witness.run.start.state
  pub run : found.run ≡ witness.run
  pub stem : found.stem ≡ witness.stem
  pub said : found.ending ≡ goal_missed fair (lines_from 0 witness.links)
