use Rattle.std.proofs.Common.{◌∙◌, ap, sym}
use Rattle.plan_rules.specs.declared.rules.Rule.{Rule}
use Rattle.task_core.specs.Cubes.{Cube, matches}
use Rattle.task_core.specs.States.{vector}
use Rattle.task_core.specs.Tasks.{fluent_count}
use Rattle.exec_graph.proofs.Skipped.{none_more}
use Rattle.exec_graph.proofs.rules.next_of_few.Goals as goal

pub loop-place-preserved : goal.loop-place-preserved
loop-place-preserved c =
    none_more (vector (fluent_count c.args.task.now) c.args.state.now) c.args.rules.now c.args.from c.loop-place.place c.index-rules-place.result (search) c.index-rules-place.is
    (ap (λ (rule : Rule). matches rule.cube.items (vector (fluent_count c.args.task.now) c.args.state.now)) c.index-rules-place.is
    ∙ ap (λ (cube : Cube). matches cube (vector (fluent_count c.args.task.now) c.args.state.now)) (sym c.deref.ensures.value)
    ∙ sym c.has_all.ensures
    ∙ c.if-has_all.false) c.loop-place.invariant
