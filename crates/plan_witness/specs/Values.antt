-- What a Run says, over n fluents.
use Rattle.std.specs.Prelude.{ℕ, List, map}
use Rattle.task_core.specs.States.{vector}
use Rattle.exec_graph.specs.Orders.{in_first}
use Rattle.plan_witness.specs.Lassos.{PlainLasso}
use Rattle.plan_witness.specs.Runs.{PlainRun, PlainStep}
use Rattle.plan_witness.specs.declared.cycles.Lasso.{Lasso}
use Rattle.plan_witness.specs.declared.runs.Run.{Run}
use Rattle.plan_witness.specs.declared.runs.RunStep.{RunStep}

abbrev pub step_value : ℕ → RunStep → PlainStep
step_value n step = record {
  rule = step.rule;
  action = step.action.0;
  outcome = step.outcome;
  after = record { state = vector n step.state; context = step.context };
}

abbrev pub steps_value : ℕ → List RunStep → List PlainStep
steps_value n = map (step_value n)

abbrev pub run_value : ℕ → Run → PlainRun
run_value n run =
    record { start = in_first (vector n run.start); steps = steps_value n run.steps.items }

abbrev pub lasso_value : ℕ → Lasso → PlainLasso
lasso_value n lasso =
    record { stem = run_value n lasso.stem; round = steps_value n lasso.round.items }
