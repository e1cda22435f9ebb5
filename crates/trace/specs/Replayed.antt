-- That a replay of the record of a run makes that run.
use Rattle.std.specs.Prelude.{◌≡◌, ◌≤◌, ◌+◌, ℕ, List, [], ◌∷◌, length, map, true}
use Rattle.task_core.specs.ContextPlans.{IsInitial}
use Rattle.task_core.specs.Systems.{System}
use Rattle.task_core.specs.Tasks.{system_of}
use Rattle.task_core.specs.Vectors.{Vector}
use Rattle.task_core.specs.declared.tasks.Task.{Task}
use Rattle.counterexamples.specs.Texts.{is_recorded}
use Rattle.plan_rules.specs.Rules.{PlainPlan}
use Rattle.plan_witness.specs.Runs.{IsRunOf, PlainRun, PlainStep}
use Rattle.run_replay.specs.Traces.{TraceStep, most_steps, run_plan, trace_of}

-- the steps of a run as those of a trace: the first has this number and begins in this state
abbrev pub as_traced : ℕ → Vector → List PlainStep → List TraceStep
as_traced number before [] = []
as_traced number before (step ∷ steps) =
    record {
      number = number;
      action = step.action;
      outcome = step.outcome;
      before = before;
      after = step.after.state;
    } ∷ as_traced (number + 1) step.after.state steps

-- the outcome numbers of a run's record
abbrev pub recorded : List PlainStep → List ℕ
recorded = map (λ (step : PlainStep). step.outcome)

-- the trace of the plan under the outcome numbers of the run has the steps of the run, and leaves none of
-- the numbers
pub record IsReplayed (sys : System) (plan : PlainPlan) (run : PlainRun) : Type 0 where
  pub steps : (trace_of sys (run_plan plan) run.start.state (recorded run.steps)).steps
      ≡ as_traced 1 run.start.state run.steps
  pub left : (trace_of sys (run_plan plan) run.start.state (recorded run.steps)).left ≡ []

-- so it is of each run of a plan whose steps take the rules that a replay takes, and that has no more
-- steps than a trace may have
abbrev pub RecordsAreReplayed : Type 0
RecordsAreReplayed =
    (task : Task) (plan : PlainPlan) (run : PlainRun)
    → IsInitial (system_of task) run.start
    → IsRunOf (system_of task) plan run.start run.steps
    → is_recorded plan run ≡ true
    → length run.steps ≤ most_steps
    → IsReplayed (system_of task) plan run
