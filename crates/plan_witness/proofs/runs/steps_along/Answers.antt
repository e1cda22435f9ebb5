use Rattle.std.proofs.Common.{sym, ◌∙◌, subst, take, ◌+◌}
use Rattle.std.proofs.lemmas.Grind.{get_or_default_zero}
use Rattle.std.proofs.lemmas.List.Elements.{All-push}
use Rattle.task_core.specs.States.{IsWithin}
use Rattle.task_core.specs.Tasks.{fluent_count, system_of}
use Rattle.plan_rules.specs.Rules.{plain_of}
use Rattle.exec_graph.specs.Values.{followers_at}
use Rattle.plan_witness.specs.Marked.{IsRunAlong, place_at}
use Rattle.plan_witness.specs.Values.{steps_value}
use Rattle.plan_witness.specs.Within.{HasStepsWithin}
use Rattle.plan_witness.specs.declared.runs.RunStep.{RunStep}
use Rattle.plan_witness.proofs.FoundRuns.{along_step, last_step, walk_step}
use Rattle.plan_witness.proofs.runs.steps_along.Goals as goal

pub step_at-step-requires-clause-from : goal.step_at-step-requires-clause-from
step_at-step-requires-clause-from c = c.loop-k.invariant.below

pub step_at-step-requires-clause-follows : goal.step_at-step-requires-clause-follows
step_at-step-requires-clause-follows c =
    walk_step (followers_at c.args.scene.now.graph.now) c.args.start c.args.numbers.now c.loop-k.k c.loop-k.from c.number_at-number.result c.requires.walk c.loop-k-test.true c.loop-k.invariant.last
    (c.number_at-number.ensures ∙ sym (get_or_default_zero c.args.numbers.now c.loop-k.k c.number_at-number.result c.loop-k-test.true))

pub step_at-step-requires-clause-to : goal.step_at-step-requires-clause-to
step_at-step-requires-clause-to c =
    c.requires.scene.graph.next_below c.loop-k.from c.number_at-number.result c.loop-k.invariant.below
    (walk_step (followers_at c.args.scene.now.graph.now) c.args.start c.args.numbers.now c.loop-k.k c.loop-k.from c.number_at-number.result c.requires.walk c.loop-k-test.true c.loop-k.invariant.last
    (c.number_at-number.ensures ∙ sym (get_or_default_zero c.args.numbers.now c.loop-k.k c.number_at-number.result c.loop-k-test.true)))

pub loop-k-preserved : goal.loop-k-preserved
loop-k-preserved c =
    let n = fluent_count c.args.scene.now.task.now in
    let number = c.number_at-number.result in
    let is = c.number_at-number.ensures ∙ sym (get_or_default_zero c.args.numbers.now c.loop-k.k number c.loop-k-test.true) in
    let along = along_step (system_of c.args.scene.now.task.now) (plain_of c.args.scene.now.plan.now) (place_at n c.args.scene.now.graph.now) n c.args.start c.args.numbers.now c.loop-k.k c.loop-k.from number c.loop-k.steps.items c.step_at-step.result c.loop-k-test.true
    is c.loop-k.invariant.last c.loop-k.invariant.along c.step_at-step.ensures.step c.step_at-step.ensures.after in
    record {
      below =
          c.requires.scene.graph.next_below c.loop-k.from number c.loop-k.invariant.below
          (walk_step (followers_at c.args.scene.now.graph.now) c.args.start c.args.numbers.now c.loop-k.k c.loop-k.from number c.requires.walk c.loop-k-test.true c.loop-k.invariant.last is);
      last = last_step c.args.start c.args.numbers.now c.loop-k.k number c.loop-k-test.true is;
      along =
          subst (λ steps. IsRunAlong (system_of c.args.scene.now.task.now) (plain_of c.args.scene.now.plan.now) (place_at n c.args.scene.now.graph.now) c.args.start (take (c.loop-k.k + 1) c.args.numbers.now) (steps_value n steps)) (sym c.in_ok-push_back.ensures.items) along;
      within = subst (HasStepsWithin n) (sym c.in_ok-push_back.ensures.items) (All-push (λ (step : RunStep). IsWithin n step.state) c.loop-k.steps.items c.step_at-step.result c.loop-k.invariant.within c.step_at-step.ensures.within);
    }
