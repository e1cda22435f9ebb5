-- What holds of every trace: it is a path of the plan (Pistore, Traverso 2001) under the outcome
-- numbers that it takes.
use Rattle.std.specs.Prelude.{◌≡◌, ℕ, ◌<◌, ◌≤◌, List, [], ◌∷◌, ◌++◌, Option, Some, map, length}
use Rattle.std.specs.Prelude.{⊤}
use Rattle.std.specs.List.{range_with_len}
use Rattle.std.specs.Option.{option_and_then}
use Rattle.task_core.specs.Vectors.{Vector}
use Rattle.task_core.specs.Systems.{System, AreNumbered, Exec, HasOutcome}
use Rattle.task_core.specs.ContextPlans.{ContextPlan, first_context}
use Rattle.run_replay.specs.Runs.{outcome_numbers}
use Rattle.run_replay.specs.Traces.{Trace, TraceStep, Ending, Terminal, Ended, Capped, Stray}
use Rattle.run_replay.specs.Traces.{Unexecutable, most_steps, trace_of}

-- the outcome number that the last turn took and made no step of
abbrev pub stray_number : Ending → List ℕ
stray_number Terminal = []
stray_number Ended = []
stray_number Capped = []
stray_number (Stray step word outcomes) = word ∷ []
stray_number (Unexecutable step) = []

-- the outcome numbers that a trace took
abbrev pub taken_by : Trace → List ℕ
taken_by trace = outcome_numbers trace.steps ++ stray_number trace.ending

-- the step is made in the state s and the context c: the plan has its action there, which can be
-- executed and has so many outcomes, and this outcome leads to its state
pub record IsStepFrom (sys : System) (plan : ContextPlan) (s : Vector) (c : Option ℕ)
    (step : TraceStep) : Type 0 where
  pub before : step.before ≡ s
  pub acts : option_and_then (plan.act s) c ≡ Some step.action
  pub executable : Exec sys s step.action
  pub listed : step.outcome < sys.outcomes step.action
  pub after : sys.after s step.action step.outcome ≡ Some step.after

-- the context after a step from the state s and the context c to the state t
abbrev pub context_after : ContextPlan → Vector → Option ℕ → Vector → Option ℕ
context_after plan s c t = option_and_then (λ k. plan.ctxt s k t) c

-- the steps are made one after another from the state s and the context c
abbrev pub AreStepsFrom : System → ContextPlan → Vector → Option ℕ → List TraceStep → Type 0
AreStepsFrom sys plan s c [] = ⊤
AreStepsFrom sys plan s c (step ∷ steps) =
    IsStepFrom sys plan s c step
    × AreStepsFrom sys plan step.after (context_after plan s c step.after) steps

-- a path from the state s and the context c, of at most so many steps, numbered from this number
-- on, under these outcome numbers
pub record IsPathFrom (sys : System) (plan : ContextPlan) (most number : ℕ) (s : Vector)
    (c : Option ℕ) (words : List ℕ) (trace : Trace) : Type 0 where
  pub few : length trace.steps ≤ most
  pub numbered : map (λ (step : TraceStep). step.number) trace.steps
      ≡ range_with_len number (length trace.steps)
  pub made : AreStepsFrom sys plan s c trace.steps
  pub taken : words ≡ taken_by trace ++ trace.left

-- every trace is such a path from its first state and context 1, numbered from 1
abbrev pub EveryTraceIsAPath : Type 0
EveryTraceIsAPath =
    (sys : System) (plan : ContextPlan) (first : Vector) (words : List ℕ)
    → IsPathFrom sys plan most_steps 1 first (Some first_context) words
    (trace_of sys plan first words)

-- where the states to which an action leads are those of its outcomes by their numbers, as they are
-- in the system of every task, each step leads to one of them
abbrev pub EachStepHasItsOutcome : Type 0
EachStepHasItsOutcome =
    (sys : System) (plan : ContextPlan) (s : Vector) (c : Option ℕ) (step : TraceStep)
    → AreNumbered sys → IsStepFrom sys plan s c step
    → HasOutcome sys s step.action step.after
