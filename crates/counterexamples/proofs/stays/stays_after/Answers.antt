use Rattle.std.proofs.Common.{◌≡◌, subst, sym}
use Rattle.task_core.specs.ContextPlans.{Configuration}
use Rattle.task_core.specs.States.{vector}
use Rattle.task_core.specs.Tasks.{fluent_count, system_of}
use Rattle.plan_rules.specs.Rules.{plain_of}
use Rattle.exec_graph.specs.Executions.{IsReachedBy}
use Rattle.plan_witness.specs.Runs.{end_of}
use Rattle.plan_witness.specs.Values.{run_value}
use Rattle.counterexamples.specs.Stays.{AreStays}
use Rattle.counterexamples.specs.Values.{stays_value}
use Rattle.counterexamples.proofs.stays.stays_after.Goals as goal

pub onward_from-requires-clause-state : goal.onward_from-requires-clause-state
onward_from-requires-clause-state c = c.end_state.ensures.within (fluent_count c.args.scene.now.task.now) c.requires.within

pub onward_from-requires-clause-reached : goal.onward_from-requires-clause-reached
onward_from-requires-clause-reached c =
    let scene = c.args.scene.now in
    let n = fluent_count scene.task.now in
    let run = run_value n c.args.run.now in
    let place : end_of run.start run.steps ≡ record { state = vector n c.end_state.result.now; context = c.end_context.result } =
    λ i. record { state = sym (c.end_state.ensures.state n) i; context = sym (c.end_context.ensures n) i } in
    subst (IsReachedBy (system_of scene.task.now) (plain_of scene.plan.now)) place c.requires.reached

pub returns : goal.returns
returns c =
    let scene = c.args.scene.now in
    let n = fluent_count scene.task.now in
    let run = run_value n c.args.run.now in
    let place : end_of run.start run.steps ≡ record { state = vector n c.end_state.result.now; context = c.end_context.result } =
    λ i. record { state = sym (c.end_state.ensures.state n) i; context = sym (c.end_context.ensures n) i } in
    let told = c.in_ok-numbers.ensures in
    subst (λ (x : Configuration). AreStays (system_of scene.task.now) (plain_of scene.plan.now) x (stays_value c.listed.result)) (sym place)
    (record { met = told.0; are_met = told.1; numbers = c.in_ok-numbers.numbers.items; onward = told.2; listed = c.listed.ensures })
