use Rattle.std.proofs.Common.{length, sym, ap, ◌∙◌, subst}
use Rattle.ctl_syntax.specs.Values.{ctl_value}
use Rattle.plan_check.specs.Labels.{ShowsGoal}
use Rattle.task_core.specs.States.{IsWithin}
use Rattle.task_core.specs.Tasks.{fluent_count}
use Rattle.goal_witness.proofs.Missing.{all_marked, false_at, is_witness}
use Rattle.goal_witness.proofs.witnesses.witness_in.Goals as goal

pub first_missing-requires : goal.first_missing-requires
first_missing-requires g c = ap length c.deref.ensures.value ∙ c.in_ok-marks.ensures.count

pub returns-clause-none : goal.returns-clause-none
returns-clause-none g c =
    let scene = c.args.scene.now in
    let n = fluent_count scene.task.now in
    let tree = ctl_value c.args.goal.now in
    let shows = subst (λ ms. ShowsGoal n scene.graph.now tree ms) (sym c.deref.ensures.value) c.in_ok-marks.ensures in
    all_marked scene c.requires.scene tree c.requires.names c.deref.result.now shows c.in-None.ensures.none

pub links_from-requires-clause-fails : goal.links_from-requires-clause-fails
links_from-requires-clause-fails g c =
    let scene = c.args.scene.now in
    let n = fluent_count scene.task.now in
    let tree = ctl_value c.args.goal.now in
    let shows = subst (λ ms. ShowsGoal n scene.graph.now tree ms) (sym c.deref.ensures.value) c.in_ok-marks.ensures in
    false_at scene c.requires.scene tree c.requires.names c.deref.result.now shows c.in-Some.number c.in-Some.ensures.below c.in-Some.ensures.lacks

pub returns-in-Some-clause-witness : goal.returns-in-Some-clause-witness
returns-in-Some-clause-witness g c =
    let scene = c.args.scene.now in
    let n = fluent_count scene.task.now in
    let made = c.in_ok-witness-in-Some in
    is_witness scene c.requires.scene (ctl_value c.args.goal.now) c.in-Some.number made.witness c.state.result.now c.in_ok-links-in-Some.links.items c.in-Some.ensures.below c.in-Some.ensures.initial
    (c.state.ensures.state n) made.ensures.start made.ensures.links c.in_ok-links-in-Some.ensures (made.ensures.steps n) (made.ensures.stem n)

pub returns-in-Some-clause-within : goal.returns-in-Some-clause-within
returns-in-Some-clause-within g c =
    let n = fluent_count c.args.scene.now.task.now in
    subst (IsWithin n) (sym c.in_ok-witness-in-Some.ensures.start) (c.state.ensures.within n c.requires.scene.within)
