-- The states so far are those of the steps so far.
use Rattle.std.proofs.Common.{◌≡◌, ◌∷◌, map, take}
use Rattle.plan_witness.specs.declared.runs.RunStep.{RunStep}
use Rattle.dead_ends.proofs.strays.states_on.Given as goal

abbrev pub invariant-loop-step : goal.invariant-loop-step
invariant-loop-step l = record {
  so_far : l.states.items ≡ l.run.start ∷ map (λ (step : RunStep). step.state) (take l.step-index l.run.steps.items);
}
