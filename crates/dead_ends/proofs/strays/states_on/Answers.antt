use Rattle.std.proofs.Common.{◌≤◌, ◌∷◌, ◌∙◌, List, ap, length, map, subst, sym}
use Rattle.std.specs.List.{All}
use Rattle.std.proofs.lemmas.List.{take_all}
use Rattle.plan_witness.specs.declared.runs.RunStep.{RunStep}
use Rattle.task_core.specs.States.{IsWithin, vector}
use Rattle.dead_ends.proofs.Straying.{states_plain, states_within}
use Rattle.dead_ends.proofs.strays.states_on.Goals as goal

pub returns-clause-states : goal.returns-clause-states
returns-clause-states c = λ n.
    let all = c.loop-step.invariant.so_far ∙ ap (λ xs. c.args.run.now.start ∷ map (λ (step : RunStep). step.state) xs) (take_all c.loop-step.step-index c.args.run.now.steps.items (subst (λ (xs : List RunStep). length xs ≤ c.loop-step.step-index) c.deref-step-items.ensures.value c.loop-step-test.false)) in
    ap (map (vector n)) all ∙ states_plain n c.args.run.now

pub returns-clause-within : goal.returns-clause-within
returns-clause-within c = λ n within.
    let all = c.loop-step.invariant.so_far ∙ ap (λ xs. c.args.run.now.start ∷ map (λ (step : RunStep). step.state) xs) (take_all c.loop-step.step-index c.args.run.now.steps.items (subst (λ (xs : List RunStep). length xs ≤ c.loop-step.step-index) c.deref-step-items.ensures.value c.loop-step-test.false)) in
    subst (All (IsWithin n)) (sym all) (states_within n c.args.run.now within)
