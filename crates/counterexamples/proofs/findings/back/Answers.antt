use Rattle.std.proofs.Common.{◌∙◌, ap, arith, subst, sym}
use Rattle.std.proofs.lemmas.List.{length-map, map-append}
use Rattle.std.proofs.lemmas.List.Elements.{All-append}
use Rattle.task_core.specs.States.{IsWithin, vector}
use Rattle.task_core.specs.Tasks.{fluent_count}
use Rattle.exec_graph.specs.Orders.{in_first}
use Rattle.plan_rules.specs.Rules.{plain_of}
use Rattle.plan_witness.specs.Values.{lasso_value, run_value, step_value, steps_value}
use Rattle.plan_witness.specs.Within.{HasStepsWithin}
use Rattle.plan_witness.specs.declared.runs.RunStep.{RunStep}
use Rattle.counterexamples.proofs.Stems.{found_back}
use Rattle.counterexamples.proofs.findings.back.Goals as goal

pub returns-clause-found : goal.returns-clause-found
returns-clause-found c =
    let n = fluent_count c.args.task.now in
    let lasso = c.args.lasso in
    found_back c.args.task.now (plain_of c.args.plan.now) c.in_ok-number.number _ (lasso_value n lasso) (run_value n c.in_ok-run.run')
    (ap (λ s. in_first (vector n s)) c.in_ok-run.ensures.start)
    (ap (steps_value n) c.in_ok-run.ensures.steps ∙ map-append (step_value n) lasso.stem.steps.items lasso.round.items)
    (omega (arith, lasso.stem.steps.ok.0, c.len-stem.ensures, length-map lasso.stem.steps.items (step_value n)))
    c.in_ok-number.ensures c.requires.lasso

pub returns-clause-within : goal.returns-clause-within
returns-clause-within c =
    let n = fluent_count c.args.task.now in
    let lasso = c.args.lasso in
    record {
      start = subst (IsWithin n) (sym c.in_ok-run.ensures.start) c.requires.stem.start;
      steps = subst (HasStepsWithin n) (sym c.in_ok-run.ensures.steps) (All-append (λ (step : RunStep). IsWithin n step.state) lasso.stem.steps.items lasso.round.items c.requires.stem.steps c.requires.round);
    }
