-- No other fluent is true.
use Rattle.task_core.specs.States.{IsWithin}
use Rattle.test_plans.proofs.random_tasks.state.Given as goal

abbrev pub invariant-loop-f : goal.invariant-loop-f
invariant-loop-f l = IsWithin l.fluents l.state
