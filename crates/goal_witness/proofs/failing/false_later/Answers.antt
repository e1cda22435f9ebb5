use Rattle.std.proofs.Common.{false, length, ap, ◌∙◌}
use Rattle.list_laws.proofs.Options.{some_has}
use Rattle.ctl_syntax.specs.Goals.{ag}
use Rattle.ctl_syntax.specs.Values.{ctl_value}
use Rattle.exec_graph.specs.Values.{followers_at}
use Rattle.plan_witness.specs.Values.{steps_value}
use Rattle.task_core.specs.Tasks.{fluent_count}
use Rattle.goal_witness.specs.Walks.{IsWayFound, Lacks, NoneWithout}
use Rattle.goal_witness.specs.declared.runs.Reached.{Reached}
use Rattle.goal_witness.proofs.Fails.{leads_ag, not_sat, true_ag}
use Rattle.goal_witness.proofs.Found.{none_of, same_as, shows_as}
use Rattle.goal_witness.proofs.failing.false_later.Goals as goal

pub way_without-requires-clause-left : goal.way_without-requires-clause-left
way_without-requires-clause-left g c = ap length c.deref.ensures.value ∙ c.in_ok-left.ensures.count

pub way_without-requires-clause-right : goal.way_without-requires-clause-right
way_without-requires-clause-right g c = ap length c.deref-2.ensures.value ∙ c.in_ok-right.ensures.count

pub way_without-requires-clause-number : goal.way_without-requires-clause-number
way_without-requires-clause-number g c = c.requires.fails.below

pub way_without-requires-clause-lacks : goal.way_without-requires-clause-lacks
way_without-requires-clause-lacks g c = same_as c.args.scene.now c.in_ok-right.right.items c.deref-2.result.now false c.deref-2.ensures.value c.in_ok-right.ensures.each c.args.number c.requires.fails.below

pub returns-in-Some : goal.returns-in-Some
returns-in-Some g c =
    let scene = c.args.scene.now in
    let way = some_has c.in_ok-reached.field-0 (λ (r : Reached). IsWayFound scene c.deref.result.now c.deref-2.result.now c.args.number (steps_value (fluent_count scene.task.now) r.steps.items) r.end) c.in-Some.reached c.in-Some.is c.in_ok-reached.ensures.some in
    leads_ag scene c.requires.scene (ctl_value c.args.part.now) c.args.number c.deref.result.now c.deref-2.result.now (steps_value (fluent_count scene.task.now) c.in-Some.reached.steps.items) c.in-Some.reached.end c.requires.fails
    (shows_as scene (ctl_value c.args.part.now) c.in_ok-left.left.items c.deref.result.now c.deref.ensures.value c.in_ok-left.ensures)
    (same_as scene c.in_ok-right.right.items c.deref-2.result.now false c.deref-2.ensures.value c.in_ok-right.ensures.each) way

pub returns : goal.returns
returns g c =
    let scene = c.args.scene.now in
    let none = none_of c.in_ok-reached.field-0 (NoneWithout (followers_at scene.graph.now) c.deref-2.result.now (Lacks c.deref.result.now) c.args.number) c.in-None.is c.in_ok-reached.ensures.none in
    absurd
    (not_sat scene c.requires.scene (ag (ctl_value c.args.part.now)) c.args.number c.requires.fails
    (true_ag scene c.requires.scene (ctl_value c.args.part.now) c.args.number c.deref.result.now c.deref-2.result.now c.requires.fails.below
    (shows_as scene (ctl_value c.args.part.now) c.in_ok-left.left.items c.deref.result.now c.deref.ensures.value c.in_ok-left.ensures)
    (ap length c.deref-2.ensures.value ∙ c.in_ok-right.ensures.count)
    (same_as scene c.in_ok-right.right.items c.deref-2.result.now false c.deref-2.ensures.value c.in_ok-right.ensures.each) none))
