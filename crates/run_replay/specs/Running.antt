-- Private: a run on its way, as the code holds it.
use Rattle.std.specs.Prelude.{◌≡◌, ℕ, ◌+◌, ◌-◌, ◌≤◌, ◌==◌, List, ◌++◌, Option, length}
use Rattle.std.specs.List.{All}
use Rattle.task_core.specs.States.{IsWithin, vector}
use Rattle.task_core.specs.Systems.{System}
use Rattle.task_core.specs.ContextPlans.{ContextPlan}
use Rattle.task_core.specs.Vectors.{Vector}
use Rattle.task_core.specs.declared.states.State.{State}
use Rattle.run_replay.specs.declared.worlds.Step.{Step}
use Rattle.run_replay.specs.Runs.{IsStepOf, outcome_numbers, steps_value}
use Rattle.run_replay.specs.Traces.{Trace, TraceStep, Turn, turn, trace_from, trace_of, most_steps}
use Rattle.run_replay.specs.Watching.{AreTold, MonitorData}

-- Private: the next turn of a run that made these steps, which led to this state and to this
-- context or none
abbrev pub next_turn_of : System → ContextPlan → ℕ → List Step → State → Option ℕ → List ℕ → Turn
next_turn_of sys plan n steps state context words =
    turn sys plan (length steps == most_steps) (length steps + 1) (vector n state) context words

-- Private: the trace that goes on after these steps
abbrev pub after_steps : List TraceStep → Trace → Trace
after_steps steps trace =
    record { steps = steps ++ trace.steps; ending = trace.ending; left = trace.left }

-- Private: the trace of what is left of a run
abbrev pub rest_of : System → ContextPlan → ℕ → List Step → State → Option ℕ → List ℕ → Trace
rest_of sys plan n steps state context words =
    trace_from sys plan (most_steps - length steps) (length steps + 1) (vector n state) context
    words

-- Private: a run that began in the state `first` with these words and these monitors has come so
-- far
pub record HasRun (sys : System) (plan : ContextPlan) (n m : ℕ) (first : Vector) (words : List ℕ)
    (monitors : List MonitorData) (steps : List Step) (state : State) (context : Option ℕ)
    (left : List ℕ) (now : List MonitorData) : Type 0 where
  pub goes : trace_of sys plan first words
      ≡ after_steps (steps_value n steps) (rest_of sys plan n steps state context left)
  pub few : length steps ≤ most_steps
  pub taken : words ≡ outcome_numbers (steps_value n steps) ++ left
  pub told : AreTold steps monitors now
  pub in_task : All (IsStepOf n m) steps
  pub within : IsWithin n state
