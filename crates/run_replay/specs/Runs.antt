-- The steps and the ends of runs in the terms of traces.
use Rattle.std.specs.Prelude.{◌≡◌, ℕ, ◌<◌, List, ◌++◌, map}
use Rattle.task_core.specs.ContextPlans.{ContextPlan}
use Rattle.task_core.specs.States.{IsWithin, vector}
use Rattle.task_core.specs.Tasks.{fluent_count, system_of}
use Rattle.task_core.specs.declared.states.State.{State}
use Rattle.task_core.specs.declared.tasks.Task.{Task}
use Rattle.plan_rules.specs.Rules.{plain_of}
use Rattle.plan_rules.specs.declared.rules.Plan.{Plan}
use Rattle.run_replay.specs.declared.worlds.Step.{Step}
use Rattle.run_replay.specs.declared.traces.End.{End}
use Rattle.run_replay.specs.declared.traces.End.TheVariants.{Terminal as EndTerminal}
use Rattle.run_replay.specs.declared.traces.End.TheVariants.{Ended as EndEnded, Capped as EndCapped}
use Rattle.run_replay.specs.declared.traces.RunErr.{RunErr}
use Rattle.run_replay.specs.declared.traces.RunErr.TheVariants.{StrayOutcome}
use Rattle.run_replay.specs.declared.traces.RunErr.TheVariants.{Unexecutable as UnexecutableErr}
use Rattle.run_replay.specs.declared.traces.RunErr.TheVariants.{Memory}
use Rattle.run_replay.specs.declared.traces.Trace.{Trace as CodeTrace}
use Rattle.run_replay.specs.Traces.{TraceStep, Ending, Terminal, Ended, Capped, Stray, Unexecutable}
use Rattle.run_replay.specs.Traces.{Trace, run_plan, trace_of}

-- a step over the first n fluents
abbrev pub step_value : ℕ → Step → TraceStep
step_value n s = record {
  number = s.number;
  action = s.action.0;
  outcome = s.outcome;
  before = vector n s.before;
  after = vector n s.after;
}

abbrev pub steps_value : ℕ → List Step → List TraceStep
steps_value n = map (step_value n)

-- a step of a task with n fluents and m actions: its action is one of them, and its states have no
-- true fluent from n on
pub record IsStepOf (n m : ℕ) (s : Step) : Type 0 where
  pub action : s.action.0 < m
  pub before : IsWithin n s.before
  pub after : IsWithin n s.after

-- how the code's type says that a trace ends
abbrev pub ending_of : End → Ending
ending_of EndTerminal = Terminal
ending_of EndEnded = Ended
ending_of EndCapped = Capped

-- what the code's trace stands for, where the world has these outcome numbers left
abbrev pub trace_value : ℕ → CodeTrace → List ℕ → Trace
trace_value n trace left =
    record { steps = steps_value n trace.steps.items; ending = ending_of trace.end; left = left }

-- the trace of a plan with contexts in a task, from this state and with these outcome numbers
abbrev pub trace_by : Task → ContextPlan → State → List ℕ → Trace
trace_by task plan first words =
    trace_of (system_of task) plan (vector (fluent_count task) first) words

-- the same of a plan as it is run
abbrev pub trace_in : Task → Plan → State → List ℕ → Trace
trace_in task plan first words = trace_by task (run_plan (plain_of plan)) first words

-- the outcome numbers of steps
abbrev pub outcome_numbers : List TraceStep → List ℕ
outcome_numbers = map (λ (s : TraceStep). s.outcome)

-- these steps are the first of a trace under these outcome numbers, of which they took their own
-- and left the others
pub record IsFrontOf (trace : Trace) (words : List ℕ) (steps : List TraceStep)
    (left : List ℕ) : Type 0 where
  pub later : List TraceStep
  pub front : trace.steps ≡ steps ++ later
  pub taken : words ≡ outcome_numbers steps ++ left

-- a run whose trace under these outcome numbers is this one was refused after these steps, and left
-- these outcome numbers: all steps of the trace, which has the refusal as its end; or, for want of
-- memory, the first of them
abbrev pub IsRefused : ℕ → RunErr → Trace → List ℕ → List Step → List ℕ → Type 0
IsRefused n (StrayOutcome step word outcomes) trace words steps left =
    trace ≡ record { steps = steps_value n steps; ending = Stray step word outcomes; left = left }
IsRefused n (UnexecutableErr step) trace words steps left =
    trace ≡ record { steps = steps_value n steps; ending = Unexecutable step; left = left }
IsRefused n Memory trace words steps left = IsFrontOf trace words (steps_value n steps) left
