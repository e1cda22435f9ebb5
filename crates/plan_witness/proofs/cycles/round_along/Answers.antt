use Rattle.std.proofs.Common.{◌∙◌, Option, subst, sym}
use Rattle.std.specs.Prelude.{IfSome}
use Rattle.std.proofs.lemmas.List.Elements.{All-cons}
use Rattle.task_core.specs.States.{IsWithin}
use Rattle.task_core.specs.Tasks.{fluent_count}
use Rattle.exec_graph.specs.Values.{followers_at}
use Rattle.plan_witness.specs.Ways.{IsShortestRoundAt}
use Rattle.plan_witness.specs.Within.{HasStepsWithin}
use Rattle.plan_witness.specs.declared.runs.RunStep.{RunStep}
use Rattle.plan_witness.specs.declared.shortest.Way.{Way}
use Rattle.plan_witness.proofs.cycles.round_along.Goals as goal

pub step_at-first-requires-clause-to : goal.step_at-first-requires-clause-to
step_at-first-requires-clause-to g c =
    let round = subst (λ (o : Option Way). IfSome o (λ way. IsShortestRoundAt (followers_at c.args.scene.now.graph.now) c.args.number way.start way.numbers.items)) c.in-Some.is c.in_ok-way.ensures.some in
    c.requires.scene.graph.next_below c.args.number c.in-Some.way.start c.requires.number round.follows

pub steps_along-requires-clause-start : goal.steps_along-requires-clause-start
steps_along-requires-clause-start g c =
    let round = subst (λ (o : Option Way). IfSome o (λ way. IsShortestRoundAt (followers_at c.args.scene.now.graph.now) c.args.number way.start way.numbers.items)) c.in-Some.is c.in_ok-way.ensures.some in
    c.requires.scene.graph.next_below c.args.number c.in-Some.way.start c.requires.number round.follows

pub returns-in_ok-push_front-in-Some-clause-within : goal.returns-in_ok-push_front-in-Some-clause-within
returns-in_ok-push_front-in-Some-clause-within g c =
    let n = fluent_count c.args.scene.now.task.now in
    subst (HasStepsWithin n) (sym (c.from.ensures.0 ∙ c.in_ok-push_front-in-Some.ensures.items))
    (All-cons (λ (step : RunStep). IsWithin n step.state) c.step_at-first.result c.in_ok-round-in-Some.round.items c.step_at-first.ensures.within c.in_ok-round-in-Some.ensures.within)
