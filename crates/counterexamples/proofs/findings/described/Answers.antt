use Rattle.std.proofs.Common.{◌≡◌, subst, sym, arith}
use Rattle.std.proofs.lemmas.List.{length-map}
use Rattle.task_core.specs.ContextPlans.{Configuration}
use Rattle.task_core.specs.States.{vector}
use Rattle.task_core.specs.Tasks.{fluent_count, system_of}
use Rattle.plan_rules.specs.Rules.{plain_of}
use Rattle.plan_witness.specs.Runs.{end_of}
use Rattle.plan_witness.specs.Values.{run_value, step_value}
use Rattle.counterexamples.specs.Aims.{IsAimAt}
use Rattle.counterexamples.specs.Findings.{IsEndingAt}
use Rattle.counterexamples.specs.Values.{ending_value}
use Rattle.counterexamples.proofs.Stems.{found_end}
use Rattle.counterexamples.proofs.findings.described.Goals as goal

pub ending_at-requires-clause-inside : goal.ending_at-requires-clause-inside
ending_at-requires-clause-inside c = c.end_state.ensures.within (fluent_count c.args.scene.now.task.now) c.requires.inside

pub ending_at-requires-clause-aim : goal.ending_at-requires-clause-aim
ending_at-requires-clause-aim c =
    let n = fluent_count c.args.scene.now.task.now in
    let run = run_value n c.args.run in
    let place : end_of run.start run.steps ≡ record { state = vector n c.end_state.result.now; context = c.end_context.result } =
    λ i. record { state = sym (c.end_state.ensures.state n) i; context = sym (c.end_context.ensures n) i } in
    subst (IsAimAt c.args.aim (system_of c.args.scene.now.task.now) (plain_of c.args.scene.now.plan.now)) place c.requires.shortest.shows

pub returns-clause-found : goal.returns-clause-found
returns-clause-found c =
    let n = fluent_count c.args.scene.now.task.now in
    let run = run_value n c.args.run in
    let place : end_of run.start run.steps ≡ record { state = vector n c.end_state.result.now; context = c.end_context.result } =
    λ i. record { state = sym (c.end_state.ensures.state n) i; context = sym (c.end_context.ensures n) i } in
    found_end c.args.aim c.args.scene.now.task.now (plain_of c.args.scene.now.plan.now) c.in_ok-number.number _ run (ending_value c.in_ok-ending.ending) c.requires.other
    (omega (arith, c.args.run.steps.ok.0, c.len-stem.ensures, length-map c.args.run.steps.items (step_value n))) c.in_ok-number.ensures c.requires.shortest
    (subst (λ (x : Configuration). IsEndingAt c.args.scene.now.task.now (plain_of c.args.scene.now.plan.now) x (ending_value c.in_ok-ending.ending)) (sym place) c.in_ok-ending.ensures)
