-- Runs through states of a task's fluents alone.
use Rattle.std.specs.Prelude.{ℕ, List}
use Rattle.std.specs.List.{All}
use Rattle.task_core.specs.States.{IsWithin}
use Rattle.plan_witness.specs.declared.runs.Run.{Run}
use Rattle.plan_witness.specs.declared.runs.RunStep.{RunStep}

-- each step leads to a state in which no fluent from n on is true
abbrev pub HasStepsWithin : ℕ → List RunStep → Type 0
HasStepsWithin n = All (λ (step : RunStep). IsWithin n step.state)

-- no fluent from n on is true in any state of a run
pub record IsRunWithin (n : ℕ) (run : Run) : Type 0 where
  pub start : IsWithin n run.start
  pub steps : HasStepsWithin n run.steps.items
