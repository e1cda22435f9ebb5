use Rattle.std.proofs.Common.{◌≡◌, [], length, sym, ap, ◌∙◌, subst, arith, rules}
use Rattle.plan_witness.specs.Values.{steps_value}
use Rattle.goal_witness.specs.Failing.{LeadsInside}
use Rattle.goal_witness.specs.Failures.{by_way}
use Rattle.ctl_syntax.specs.Values.{ctl_value}
use Rattle.exec_graph.specs.Values.{graph_size}
use Rattle.plan_check.specs.Labels.{ComesAfter, HoldsIn, mark_at}
use Rattle.plan_check.proofs.LabelTruth.{is_so}
use Rattle.ctl_syntax.specs.Truth.{Satisfies}
use Rattle.task_core.specs.Tasks.{fluent_count}
use Rattle.goal_witness.proofs.Conjunctions.{row, so_far_begin, so_far_end, so_far_more, so_far_names}
use Rattle.goal_witness.proofs.Fails.{leads_all, not_sat}
use Rattle.goal_witness.proofs.failing.false_part.Goals as goal

pub loop-part-init : goal.loop-part-init
loop-part-init g c = so_far_begin c.args.scene.now c.args.parts.now c.args.number c.requires.fails.names

pub label_of-requires-clause-names : goal.label_of-requires-clause-names
label_of-requires-clause-names g c =
    so_far_names c.args.scene.now c.args.parts.now c.loop-part.part-index c.part-item.result c.args.number c.loop-part-test.true (sym c.part-item.is) c.loop-part.invariant

pub is_marked-requires : goal.is_marked-requires
is_marked-requires g c =
    let n = ap length c.deref.ensures.value ∙ c.in_ok-marks.ensures.count in
    let l = c.requires.fails.below in
    omega (arith, n, l)

pub returns-then-not-is_marked : goal.returns-then-not-is_marked
returns-then-not-is_marked g c =
    let nothing : c.new.result.items ≡ [] = search rules in
    subst (λ steps. LeadsInside c.args.scene.now (row c.args.parts.now) c.args.number (by_way (steps_value (fluent_count c.args.scene.now.task.now) steps)) (ctl_value c.part-item.result) c.args.number) (sym nothing)
    (leads_all c.args.scene.now c.requires.scene c.args.parts.now c.loop-part.part-index c.part-item.result c.args.number c.in_ok-marks.marks.items c.loop-part-test.true (sym c.part-item.is) c.loop-part.invariant c.requires.fails c.in_ok-marks.ensures
    (ap (λ ms. mark_at ms c.args.number) (sym c.deref.ensures.value) ∙ (sym c.is_marked.ensures ∙ c.if-not-is_marked.true)))

pub loop-part-preserved : goal.loop-part-preserved
loop-part-preserved g c =
    let scene = c.args.scene.now in
    let n = fluent_count scene.task.now in
    so_far_more scene c.args.parts.now c.loop-part.part-index c.part-item.result c.args.number c.loop-part-test.true (sym c.part-item.is) c.loop-part.invariant
    (is_so (graph_size scene.graph.now) (Satisfies (ComesAfter scene.graph.now) (HoldsIn n scene.graph.now) (ctl_value c.part-item.result)) c.in_ok-marks.marks.items c.in_ok-marks.ensures c.args.number c.requires.fails.below
    (ap (λ ms. mark_at ms c.args.number) (sym c.deref.ensures.value) ∙ (sym c.is_marked.ensures ∙ c.if-not-is_marked.false)))

pub returns : goal.returns
returns g c =
    absurd
    (not_sat c.args.scene.now c.requires.scene (row c.args.parts.now) c.args.number c.requires.fails
    (so_far_end c.args.scene.now c.args.parts.now c.loop-part.part-index c.args.number c.loop-part-test.false c.loop-part.invariant))
