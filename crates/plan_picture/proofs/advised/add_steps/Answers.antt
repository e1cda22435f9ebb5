use Rattle.std.proofs.Common.{◌≡◌, ◌+◌, ◌<◌, ◌++◌, Some, slice_get, suc, arith, map, take, sym, ap, ◌∙◌, append_assoc}
use Rattle.std.proofs.lemmas.Bool.{false≢true}
use Rattle.std.proofs.lemmas.List.{append-nil}
use Rattle.plan_rules.specs.Advices.{advice_value}
use Rattle.task_core.specs.States.{vector}
use Rattle.task_core.proofs.TaskSystem.{are_numbered}
use Rattle.task_core.specs.Tasks.{fluent_count, if_state, system_of}
use Rattle.plan_picture.specs.Places.{configurations_of, outcome_steps, outcomes_from, outcomes_steps}
use Rattle.plan_picture.specs.Values.{step_value}
use Rattle.plan_picture.proofs.Stepped.{all_outcomes, nowhere, outcome_at, outcomes_more}
use Rattle.plan_picture.proofs.advised.add_steps.Goals as goal

pub loop-outcome-preserved : goal.loop-outcome-preserved
loop-outcome-preserved c =
    let n = fluent_count c.args.task.now in
    let places = configurations_of n c.args.places.now in
    let a = advice_value c.args.advice.now in
    let sys = system_of c.args.task.now in
    let v = vector n c.args.state.now in
    let action = c.args.advice.now.action.0 in
    let outs = outcomes_from sys v action in
    let i = c.loop-outcome.outcome in
    let t = if_state c.args.task.now (vector n c.step-after.result) in
    let within : i < sys.outcomes action = omega (arith, c.outcome_count-outcome-end.ensures) in
    let at : slice_get outs i ≡ Some t = outcome_at sys v action i within ∙ ap Some (c.step-after.ensures.numbered (c.is_exec.ensures.executable.0 c.if-not-is_exec.false)) in
    let next : suc i ≡ i + 1 = omega arith in
    let zeroth : i ≡ 0 + i = omega arith in
    let old = map step_value c.args.steps.now.items in
    c.in_ok-add_step.ensures.steps
    ∙ ap (λ xs. xs ++ outcome_steps places a i t) c.loop-outcome.invariant
    ∙ append_assoc old (outcomes_steps places a 0 (take i outs)) (outcome_steps places a i t)
    ∙ ap (λ j. old ++ (outcomes_steps places a 0 (take i outs) ++ outcome_steps places a j t)) zeroth
    ∙ ap (λ xs. old ++ xs) (sym (outcomes_more places a 0 outs i t at))
    ∙ ap (λ k. old ++ outcomes_steps places a 0 (take k outs)) next

pub returns-then-not-is_exec : goal.returns-then-not-is_exec
returns-then-not-is_exec c =
    let n = fluent_count c.args.task.now in
    let old = map step_value c.args.steps.now.items in
    let sys = system_of c.args.task.now in
    record {
      steps = sym (append-nil old)
          ∙ ap (λ xs. old ++ xs)
          (sym
          (nowhere sys (vector n c.args.state.now) c.args.advice.now.action.0 (are_numbered c.args.task.now) (configurations_of n c.args.places.now) (advice_value c.args.advice.now)
          (λ exec. false≢true (sym c.if-not-is_exec.true ∙ c.is_exec.ensures.executable.1 exec))));
    }

pub returns : goal.returns
returns c =
    let n = fluent_count c.args.task.now in
    let old = map step_value c.args.steps.now.items in
    let sys = system_of c.args.task.now in
    let k = c.loop-outcome.outcome in
    let action = c.args.advice.now.action.0 in
    let last : k ≡ c.outcome_count-outcome-end.result = omega arith in
    record {
      steps = c.loop-outcome.invariant
          ∙ ap (λ outs. old ++ outcomes_steps (configurations_of n c.args.places.now) (advice_value c.args.advice.now) 0 outs)
          (all_outcomes sys (vector n c.args.state.now) action k (last ∙ c.outcome_count-outcome-end.ensures));
    }
