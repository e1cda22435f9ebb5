use Rattle.std.proofs.Common.{length, sym, ap, ◌∙◌, subst}
use Rattle.list_laws.proofs.Options.{some_has}
use Rattle.ctl_syntax.specs.Goals.{aw}
use Rattle.ctl_syntax.specs.Values.{ctl_value}
use Rattle.exec_graph.specs.Values.{followers_at}
use Rattle.plan_witness.specs.Values.{steps_value}
use Rattle.task_core.specs.Tasks.{fluent_count}
use Rattle.goal_witness.specs.Failing.{IsFailing, until_of}
use Rattle.goal_witness.specs.Scenes.{IsFalseAtNumber}
use Rattle.goal_witness.specs.Walks.{IsWayFound, Lacks, NoneWithout}
use Rattle.goal_witness.specs.declared.failing.Failing.TheVariants.{Ends}
use Rattle.goal_witness.specs.declared.links.How.TheVariants.{Lasso}
use Rattle.goal_witness.specs.declared.runs.Reached.{Reached}
use Rattle.goal_witness.proofs.Fails.{ends_au, lacks_until, leads_until, misses_au, not_sat, true_aw}
use Rattle.goal_witness.proofs.Found.{none_of, shows_as}
use Rattle.goal_witness.proofs.failing.false_until.Goals as goal

pub way_without-requires-clause-left : goal.way_without-requires-clause-left
way_without-requires-clause-left g c = ap length c.deref.ensures.value ∙ c.in_ok-left.ensures.count

pub way_without-requires-clause-right : goal.way_without-requires-clause-right
way_without-requires-clause-right g c = ap length c.deref-2.ensures.value ∙ c.in_ok-right.ensures.count

pub way_without-requires-clause-number : goal.way_without-requires-clause-number
way_without-requires-clause-number g c = c.requires.fails.below

pub way_without-requires-clause-lacks : goal.way_without-requires-clause-lacks
way_without-requires-clause-lacks g c =
    let scene = c.args.scene.now in
    lacks_until scene c.requires.scene c.args.parts.weak (ctl_value c.args.parts.left.now) (ctl_value c.args.parts.right.now) c.args.number c.deref-2.result.now c.requires.fails
    (shows_as scene (ctl_value c.args.parts.right.now) c.in_ok-right.right.items c.deref-2.result.now c.deref-2.ensures.value c.in_ok-right.ensures)

pub returns-in-Some : goal.returns-in-Some
returns-in-Some g c =
    let scene = c.args.scene.now in
    let way = some_has c.in_ok-reached.field-0 (λ (r : Reached). IsWayFound scene c.deref.result.now c.deref-2.result.now c.args.number (steps_value (fluent_count scene.task.now) r.steps.items) r.end) c.in-Some.reached c.in-Some.is c.in_ok-reached.ensures.some in
    let left_shows = shows_as scene (ctl_value c.args.parts.left.now) c.in_ok-left.left.items c.deref.result.now c.deref.ensures.value c.in_ok-left.ensures in
    let right_shows = shows_as scene (ctl_value c.args.parts.right.now) c.in_ok-right.right.items c.deref-2.result.now c.deref-2.ensures.value c.in_ok-right.ensures in
    leads_until scene c.requires.scene c.args.parts.weak (ctl_value c.args.parts.left.now) (ctl_value c.args.parts.right.now) c.args.number c.deref.result.now c.deref-2.result.now (steps_value (fluent_count scene.task.now) c.in-Some.reached.steps.items) c.in-Some.reached.end c.requires.fails
    left_shows right_shows way

pub returns-then-parts : goal.returns-then-parts
returns-then-parts g c =
    let scene = c.args.scene.now in
    let l = ctl_value c.args.parts.left.now in
    let r = ctl_value c.args.parts.right.now in
    let none = none_of c.in_ok-reached.field-0 (NoneWithout (followers_at scene.graph.now) c.deref-2.result.now (Lacks c.deref.result.now) c.args.number) c.in-None.is c.in_ok-reached.ensures.none in
    let left_shows = shows_as scene l c.in_ok-left.left.items c.deref.result.now c.deref.ensures.value c.in_ok-left.ensures in
    let right_shows = shows_as scene r c.in_ok-right.right.items c.deref-2.result.now c.deref-2.ensures.value c.in_ok-right.ensures in
    let fails = subst (λ b. IsFalseAtNumber scene (until_of b l r) c.args.number) c.if-parts.true c.requires.fails in
    absurd (not_sat scene c.requires.scene (aw l r) c.args.number fails (true_aw scene c.requires.scene l r c.args.number c.deref.result.now c.deref-2.result.now fails.below left_shows right_shows none))

pub endless-requires-clause-left : goal.endless-requires-clause-left
endless-requires-clause-left g c = ap length c.deref.ensures.value ∙ c.in_ok-left.ensures.count

pub endless-requires-clause-right : goal.endless-requires-clause-right
endless-requires-clause-right g c = ap length c.deref-2.ensures.value ∙ c.in_ok-right.ensures.count

pub endless-requires-clause-number : goal.endless-requires-clause-number
endless-requires-clause-number g c = c.requires.fails.below

pub endless-requires-clause-none : goal.endless-requires-clause-none
endless-requires-clause-none g c =
    none_of c.in_ok-reached.field-0 (NoneWithout (followers_at c.args.scene.now.graph.now) c.deref-2.result.now (Lacks c.deref.result.now) c.args.number) c.in-None.is c.in_ok-reached.ensures.none

pub endless-requires-clause-misses : goal.endless-requires-clause-misses
endless-requires-clause-misses g c =
    let scene = c.args.scene.now in
    let l = ctl_value c.args.parts.left.now in
    let r = ctl_value c.args.parts.right.now in
    let left_shows = shows_as scene l c.in_ok-left.left.items c.deref.result.now c.deref.ensures.value c.in_ok-left.ensures in
    let right_shows = shows_as scene r c.in_ok-right.right.items c.deref-2.result.now c.deref-2.ensures.value c.in_ok-right.ensures in
    misses_au scene c.requires.scene l r c.args.number c.deref.result.now c.deref-2.result.now (subst (λ b. IsFalseAtNumber scene (until_of b l r) c.args.number) c.if-parts.false c.requires.fails) left_shows right_shows

pub returns : goal.returns
returns g c =
    let scene = c.args.scene.now in
    let l = ctl_value c.args.parts.left.now in
    let r = ctl_value c.args.parts.right.now in
    let lasso = c.in_ok-lasso-in-None.lasso in
    let right_shows = shows_as scene r c.in_ok-right.right.items c.deref-2.result.now c.deref-2.ensures.value c.in_ok-right.ensures in
    let n = fluent_count scene.task.now in
    subst (λ b. IsFailing scene (until_of b l r) c.args.number (Ends (Lasso lasso.stem lasso.back))) (sym c.if-parts.false)
    (ends_au scene c.requires.scene l r c.args.number c.deref-2.result.now (steps_value n lasso.stem.items) (steps_value n lasso.back.items)
    (subst (λ b. IsFalseAtNumber scene (until_of b l r) c.args.number) c.if-parts.false c.requires.fails) right_shows c.in_ok-lasso-in-None.ensures)
