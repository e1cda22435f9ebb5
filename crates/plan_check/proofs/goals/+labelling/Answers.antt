use Rattle.std.proofs.Common.{length, refl, sym, ap, ◌∙◌, arith}
use Rattle.std.proofs.lemmas.Result.{IfOk-weaker}
use Rattle.plan_check.specs.Labels.{IsJoined, IsNext, IsWeakest, ShowsGoal}
use Rattle.plan_check.specs.declared.spreading.Need.TheVariants.{One, Each}
use Rattle.plan_check.specs.declared.labelling.Join.TheVariants.{And, Or, Implies}
use Rattle.ctl_syntax.specs.Values.{ctl_value}
use Rattle.exec_graph.specs.Values.{edge_count, followers_at, graph_size}
use Rattle.plan_check.proofs.GoalCosts.{cost_Af, cost_Ag, cost_All, cost_Any, cost_Au, cost_Aw, cost_Ax, cost_Ef, cost_Eg, cost_Eu, cost_Ew, cost_Ex, cost_Imply, cost_Not, row_step}
use Rattle.plan_check.proofs.GoalLabels.{all_end, all_step, any_end, any_step, joined_as, of_Af, of_Ag, of_Au, of_Aw, of_Ax, of_Ef, of_Eg, of_Eu, of_Ew, of_Ex, of_Imply, sizes_Au, sizes_Aw, sizes_Eu, sizes_Ew, sizes_Imply}
use Rattle.plan_check.proofs.goals.+labelling.Goals as goal

pub labels-returns-in_ok-part-in-Ax-clause-shows : goal.labels-returns-in_ok-part-in-Ax-clause-shows
labels-returns-in_ok-part-in-Ax-clause-shows t g c = λ n k.
    IfOk-weaker c.next_label.result (λ marks. IsNext (graph_size c.args.graph.now) Each (followers_at c.args.graph.now) c.deref-in-Ax-2.result.now marks.items) (λ marks. ShowsGoal n c.args.graph.now (ctl_value c.args.goal.now) marks.items)
    (λ marks h. of_Ax n c.args.graph.now c.requires.inside c.requires.followers c.args.goal.now c.in-Ax.part c.deref-in-Ax.result.now c.in_ok-part-in-Ax.part.items c.deref-in-Ax-2.result.now marks.items c.deref-in-Ax.ensures (c.in_ok-part-in-Ax.ensures.shows n) c.deref-in-Ax-2.ensures.value c.in-Ax.is h k)
    c.next_label.ensures.next

pub labels-returns-in_ok-part-in-Ex-clause-shows : goal.labels-returns-in_ok-part-in-Ex-clause-shows
labels-returns-in_ok-part-in-Ex-clause-shows t g c = λ n k.
    IfOk-weaker c.next_label-in-Ex.result (λ marks. IsNext (graph_size c.args.graph.now) One (followers_at c.args.graph.now) c.deref-in-Ex-2.result.now marks.items) (λ marks. ShowsGoal n c.args.graph.now (ctl_value c.args.goal.now) marks.items)
    (λ marks h. of_Ex n c.args.graph.now c.requires.inside c.requires.followers c.args.goal.now c.in-Ex.part c.deref-in-Ex.result.now c.in_ok-part-in-Ex.part.items c.deref-in-Ex-2.result.now marks.items c.deref-in-Ex.ensures (c.in_ok-part-in-Ex.ensures.shows n) c.deref-in-Ex-2.ensures.value c.in-Ex.is h k)
    c.next_label-in-Ex.ensures.next

pub labels-returns-in_ok-spread-in-Af-clause-shows : goal.labels-returns-in_ok-spread-in-Af-clause-shows
labels-returns-in_ok-spread-in-Af-clause-shows t g c = λ n k.
    of_Af n c.args.graph.now c.requires.inside c.requires.followers c.args.goal.now c.in-Af.part c.deref-in-Af.result.now c.in_ok-guard-in-Af.guard.items c.deref-in-Af-2.result.now c.in_ok-marks-in-Af.marks.items c.spread.new.marks.items c.deref-in-Af.ensures (c.in_ok-marks-in-Af.ensures.shows n) c.deref-in-Af-2.ensures.value c.in_ok-guard-in-Af.ensures.count c.in_ok-guard-in-Af.ensures.each c.in-Af.is c.in_ok-spread-in-Af.ensures.least k

pub labels-returns-in_ok-spread-in-Ef-clause-shows : goal.labels-returns-in_ok-spread-in-Ef-clause-shows
labels-returns-in_ok-spread-in-Ef-clause-shows t g c = λ n k.
    of_Ef n c.args.graph.now c.requires.inside c.requires.followers c.args.goal.now c.in-Ef.part c.deref-in-Ef.result.now c.in_ok-guard-in-Ef.guard.items c.deref-in-Ef-2.result.now c.in_ok-marks-in-Ef.marks.items c.spread-in-Ef.new.marks.items c.deref-in-Ef.ensures (c.in_ok-marks-in-Ef.ensures.shows n) c.deref-in-Ef-2.ensures.value c.in_ok-guard-in-Ef.ensures.count c.in_ok-guard-in-Ef.ensures.each c.in-Ef.is c.in_ok-spread-in-Ef.ensures.least k

pub labels-returns-in_ok-spread-in-Au-clause-shows : goal.labels-returns-in_ok-spread-in-Au-clause-shows
labels-returns-in_ok-spread-in-Au-clause-shows t g c = λ n k.
    of_Au n c.args.graph.now c.requires.inside c.requires.followers c.args.goal.now c.in-Au.left c.in-Au.right c.deref-in-Au.result.now c.deref-in-Au-2.result.now c.in_ok-guard-in-Au.guard.items c.deref-in-Au-3.result.now c.in_ok-marks-in-Au.marks.items c.spread-in-Au.new.marks.items c.deref-in-Au.ensures c.deref-in-Au-2.ensures (c.in_ok-guard-in-Au.ensures.shows n) (c.in_ok-marks-in-Au.ensures.shows n) c.deref-in-Au-3.ensures.value c.in-Au.is c.in_ok-spread-in-Au.ensures.least k

pub labels-returns-in_ok-spread-in-Eu-clause-shows : goal.labels-returns-in_ok-spread-in-Eu-clause-shows
labels-returns-in_ok-spread-in-Eu-clause-shows t g c = λ n k.
    of_Eu n c.args.graph.now c.requires.inside c.requires.followers c.args.goal.now c.in-Eu.left c.in-Eu.right c.deref-in-Eu.result.now c.deref-in-Eu-2.result.now c.in_ok-guard-in-Eu.guard.items c.deref-in-Eu-3.result.now c.in_ok-marks-in-Eu.marks.items c.spread-in-Eu.new.marks.items c.deref-in-Eu.ensures c.deref-in-Eu-2.ensures (c.in_ok-guard-in-Eu.ensures.shows n) (c.in_ok-marks-in-Eu.ensures.shows n) c.deref-in-Eu-3.ensures.value c.in-Eu.is c.in_ok-spread-in-Eu.ensures.least k

pub labels-returns-in_ok-target-in-Ag-clause-shows : goal.labels-returns-in_ok-target-in-Ag-clause-shows
labels-returns-in_ok-target-in-Ag-clause-shows t g c = λ n k.
    IfOk-weaker c.weak_until.result (λ marks. IsWeakest (graph_size c.args.graph.now) Each (followers_at c.args.graph.now) c.deref-in-Ag-2.result.now c.deref-in-Ag-3.result.now marks.items) (λ marks. ShowsGoal n c.args.graph.now (ctl_value c.args.goal.now) marks.items)
    (λ marks h. of_Ag n c.args.graph.now c.requires.inside c.requires.followers c.args.goal.now c.in-Ag.part c.deref-in-Ag.result.now c.in_ok-guard-in-Ag.guard.items c.deref-in-Ag-2.result.now c.in_ok-target-in-Ag.target.items c.deref-in-Ag-3.result.now marks.items c.deref-in-Ag.ensures (c.in_ok-guard-in-Ag.ensures.shows n) c.deref-in-Ag-2.ensures.value c.deref-in-Ag-3.ensures.value c.in_ok-target-in-Ag.ensures.count c.in_ok-target-in-Ag.ensures.each c.in-Ag.is h k)
    c.weak_until.ensures.weakest

pub labels-returns-in_ok-target-in-Eg-clause-shows : goal.labels-returns-in_ok-target-in-Eg-clause-shows
labels-returns-in_ok-target-in-Eg-clause-shows t g c = λ n k.
    IfOk-weaker c.weak_until-in-Eg.result (λ marks. IsWeakest (graph_size c.args.graph.now) One (followers_at c.args.graph.now) c.deref-in-Eg-2.result.now c.deref-in-Eg-3.result.now marks.items) (λ marks. ShowsGoal n c.args.graph.now (ctl_value c.args.goal.now) marks.items)
    (λ marks h. of_Eg n c.args.graph.now c.requires.inside c.requires.followers c.args.goal.now c.in-Eg.part c.deref-in-Eg.result.now c.in_ok-guard-in-Eg.guard.items c.deref-in-Eg-2.result.now c.in_ok-target-in-Eg.target.items c.deref-in-Eg-3.result.now marks.items c.deref-in-Eg.ensures (c.in_ok-guard-in-Eg.ensures.shows n) c.deref-in-Eg-2.ensures.value c.deref-in-Eg-3.ensures.value c.in_ok-target-in-Eg.ensures.count c.in_ok-target-in-Eg.ensures.each c.in-Eg.is h k)
    c.weak_until-in-Eg.ensures.weakest

pub labels-returns-in_ok-target-in-Aw-clause-shows : goal.labels-returns-in_ok-target-in-Aw-clause-shows
labels-returns-in_ok-target-in-Aw-clause-shows t g c = λ n k.
    IfOk-weaker c.weak_until-in-Aw.result (λ marks. IsWeakest (graph_size c.args.graph.now) Each (followers_at c.args.graph.now) c.deref-in-Aw-3.result.now c.deref-in-Aw-4.result.now marks.items) (λ marks. ShowsGoal n c.args.graph.now (ctl_value c.args.goal.now) marks.items)
    (λ marks h. of_Aw n c.args.graph.now c.requires.inside c.requires.followers c.args.goal.now c.in-Aw.left c.in-Aw.right c.deref-in-Aw.result.now c.deref-in-Aw-2.result.now c.in_ok-guard-in-Aw.guard.items c.deref-in-Aw-3.result.now c.in_ok-target-in-Aw.target.items c.deref-in-Aw-4.result.now marks.items c.deref-in-Aw.ensures c.deref-in-Aw-2.ensures (c.in_ok-guard-in-Aw.ensures.shows n) (c.in_ok-target-in-Aw.ensures.shows n) c.deref-in-Aw-3.ensures.value c.deref-in-Aw-4.ensures.value c.in-Aw.is h k)
    c.weak_until-in-Aw.ensures.weakest

pub labels-returns-in_ok-target-in-Ew-clause-shows : goal.labels-returns-in_ok-target-in-Ew-clause-shows
labels-returns-in_ok-target-in-Ew-clause-shows t g c = λ n k.
    IfOk-weaker c.weak_until-in-Ew.result (λ marks. IsWeakest (graph_size c.args.graph.now) One (followers_at c.args.graph.now) c.deref-in-Ew-3.result.now c.deref-in-Ew-4.result.now marks.items) (λ marks. ShowsGoal n c.args.graph.now (ctl_value c.args.goal.now) marks.items)
    (λ marks h. of_Ew n c.args.graph.now c.requires.inside c.requires.followers c.args.goal.now c.in-Ew.left c.in-Ew.right c.deref-in-Ew.result.now c.deref-in-Ew-2.result.now c.in_ok-guard-in-Ew.guard.items c.deref-in-Ew-3.result.now c.in_ok-target-in-Ew.target.items c.deref-in-Ew-4.result.now marks.items c.deref-in-Ew.ensures c.deref-in-Ew-2.ensures (c.in_ok-guard-in-Ew.ensures.shows n) (c.in_ok-target-in-Ew.ensures.shows n) c.deref-in-Ew-3.ensures.value c.deref-in-Ew-4.ensures.value c.in-Ew.is h k)
    c.weak_until-in-Ew.ensures.weakest

pub labels_of_all-loop-goal-preserved : goal.labels_of_all-loop-goal-preserved
labels_of_all-loop-goal-preserved t g c =
    let more = row_step (edge_count c.args.graph.now) c.loop-goal.goal-index c.args.goals.now c.goal-item.result c.loop-goal-test.true (sym c.goal-item.is) in
    record {
      shows =
          all_step c.args.graph.now c.args.goals.now c.loop-goal.goal-index c.goal-item.result c.loop-goal.marks.items c.in_ok-part.part.items c.in_ok-marks-2.marks.items c.loop-goal-test.true (sym c.goal-item.is) c.loop-goal.invariant.shows c.in_ok-part.ensures.shows
          (joined_as And c.loop-goal.marks.items c.in_ok-part.part.items c.deref.result.now c.deref-in-loop-goal.result.now c.in_ok-marks-2.marks.items c.deref.ensures.value c.deref-in-loop-goal.ensures.value c.in_ok-marks-2.ensures);
      steps = omega (arith, more, c.loop-goal.invariant.steps, c.labels.ensures.steps);
    }

pub labels_of_any-loop-goal-preserved : goal.labels_of_any-loop-goal-preserved
labels_of_any-loop-goal-preserved t g c =
    let more = row_step (edge_count c.args.graph.now) c.loop-goal.goal-index c.args.goals.now c.goal-item.result c.loop-goal-test.true (sym c.goal-item.is) in
    record {
      shows =
          any_step c.args.graph.now c.args.goals.now c.loop-goal.goal-index c.goal-item.result c.loop-goal.marks.items c.in_ok-part.part.items c.in_ok-marks-2.marks.items c.loop-goal-test.true (sym c.goal-item.is) c.loop-goal.invariant.shows c.in_ok-part.ensures.shows
          (joined_as Or c.loop-goal.marks.items c.in_ok-part.part.items c.deref.result.now c.deref-in-loop-goal.result.now c.in_ok-marks-2.marks.items c.deref.ensures.value c.deref-in-loop-goal.ensures.value c.in_ok-marks-2.ensures);
      steps = omega (arith, more, c.loop-goal.invariant.steps, c.labels.ensures.steps);
    }

pub labels_of_all-returns-clause-shows : goal.labels_of_all-returns-clause-shows
labels_of_all-returns-clause-shows t g c = all_end c.args.graph.now c.args.goals.now c.loop-goal.goal-index c.loop-goal.marks.items c.loop-goal-test.false c.loop-goal.invariant.shows

pub labels_of_any-returns-clause-shows : goal.labels_of_any-returns-clause-shows
labels_of_any-returns-clause-shows t g c = any_end c.args.graph.now c.args.goals.now c.loop-goal.goal-index c.loop-goal.marks.items c.loop-goal-test.false c.loop-goal.invariant.shows

pub labels-returns-in_err-part-in-Not-clause-steps : goal.labels-returns-in_err-part-in-Not-clause-steps
labels-returns-in_err-part-in-Not-clause-steps t g c =
    let is = cost_Not (edge_count c.args.graph.now) c.args.goal.now c.in-Not.part c.deref.result.now c.deref.ensures c.in-Not.is in omega (arith, is, c.labels.ensures.steps)

pub labels-returns-in_ok-part-in-Not-clause-steps : goal.labels-returns-in_ok-part-in-Not-clause-steps
labels-returns-in_ok-part-in-Not-clause-steps t g c =
    let is = cost_Not (edge_count c.args.graph.now) c.args.goal.now c.in-Not.part c.deref.result.now c.deref.ensures c.in-Not.is in omega (arith, is, c.labels.ensures.steps)

pub labels-returns-in-All-clause-steps : goal.labels-returns-in-All-clause-steps
labels-returns-in-All-clause-steps t g c =
    let is = cost_All (edge_count c.args.graph.now) c.args.goal.now c.in-All.parts c.deref-in-All.result.now c.deref-in-All.ensures.value c.in-All.is in omega (arith, is, c.labels_of_all.ensures.steps)

pub labels-returns-in-Any-clause-steps : goal.labels-returns-in-Any-clause-steps
labels-returns-in-Any-clause-steps t g c =
    let is = cost_Any (edge_count c.args.graph.now) c.args.goal.now c.in-Any.parts c.deref-in-Any.result.now c.deref-in-Any.ensures.value c.in-Any.is in omega (arith, is, c.labels_of_any.ensures.steps)

pub labels-returns-in_err-left-in-Imply-clause-steps : goal.labels-returns-in_err-left-in-Imply-clause-steps
labels-returns-in_err-left-in-Imply-clause-steps t g c =
    let is = cost_Imply (edge_count c.args.graph.now) c.args.goal.now c.in-Imply.left c.in-Imply.right c.deref-in-Imply.result.now c.in-Imply.right.value c.deref-in-Imply.ensures refl c.in-Imply.is in omega (arith, is, c.labels-in-Imply.ensures.steps)

pub labels-returns-in_err-right-in-Imply-clause-steps : goal.labels-returns-in_err-right-in-Imply-clause-steps
labels-returns-in_err-right-in-Imply-clause-steps t g c =
    let is = cost_Imply (edge_count c.args.graph.now) c.args.goal.now c.in-Imply.left c.in-Imply.right c.deref-in-Imply.result.now c.deref-in-Imply-2.result.now c.deref-in-Imply.ensures c.deref-in-Imply-2.ensures c.in-Imply.is in omega (arith, is, c.labels-in-Imply.ensures.steps, c.labels-in-Imply-2.ensures.steps)

pub labels-returns-in_ok-right-in-Imply-clause-steps : goal.labels-returns-in_ok-right-in-Imply-clause-steps
labels-returns-in_ok-right-in-Imply-clause-steps t g c =
    let is = cost_Imply (edge_count c.args.graph.now) c.args.goal.now c.in-Imply.left c.in-Imply.right c.deref-in-Imply.result.now c.deref-in-Imply-2.result.now c.deref-in-Imply.ensures c.deref-in-Imply-2.ensures c.in-Imply.is in omega (arith, is, c.labels-in-Imply.ensures.steps, c.labels-in-Imply-2.ensures.steps)

pub labels-returns-in_err-part-in-Ax-clause-steps : goal.labels-returns-in_err-part-in-Ax-clause-steps
labels-returns-in_err-part-in-Ax-clause-steps t g c =
    let is = cost_Ax (edge_count c.args.graph.now) c.args.goal.now c.in-Ax.part c.deref-in-Ax.result.now c.deref-in-Ax.ensures c.in-Ax.is in omega (arith, is, c.labels-in-Ax.ensures.steps)

pub labels-returns-in_ok-part-in-Ax-clause-steps : goal.labels-returns-in_ok-part-in-Ax-clause-steps
labels-returns-in_ok-part-in-Ax-clause-steps t g c =
    let is = cost_Ax (edge_count c.args.graph.now) c.args.goal.now c.in-Ax.part c.deref-in-Ax.result.now c.deref-in-Ax.ensures c.in-Ax.is in omega (arith, is, c.labels-in-Ax.ensures.steps, c.next_label.ensures.steps)

pub labels-returns-in_err-part-in-Ex-clause-steps : goal.labels-returns-in_err-part-in-Ex-clause-steps
labels-returns-in_err-part-in-Ex-clause-steps t g c =
    let is = cost_Ex (edge_count c.args.graph.now) c.args.goal.now c.in-Ex.part c.deref-in-Ex.result.now c.deref-in-Ex.ensures c.in-Ex.is in omega (arith, is, c.labels-in-Ex.ensures.steps)

pub labels-returns-in_ok-part-in-Ex-clause-steps : goal.labels-returns-in_ok-part-in-Ex-clause-steps
labels-returns-in_ok-part-in-Ex-clause-steps t g c =
    let is = cost_Ex (edge_count c.args.graph.now) c.args.goal.now c.in-Ex.part c.deref-in-Ex.result.now c.deref-in-Ex.ensures c.in-Ex.is in omega (arith, is, c.labels-in-Ex.ensures.steps, c.next_label-in-Ex.ensures.steps)

pub labels-returns-in_err-marks-in-Af-clause-steps : goal.labels-returns-in_err-marks-in-Af-clause-steps
labels-returns-in_err-marks-in-Af-clause-steps t g c =
    let is = cost_Af (edge_count c.args.graph.now) c.args.goal.now c.in-Af.part c.deref-in-Af.result.now c.deref-in-Af.ensures c.in-Af.is in omega (arith, is, c.labels-in-Af.ensures.steps)

pub labels-returns-in_ok-spread-in-Af-clause-steps : goal.labels-returns-in_ok-spread-in-Af-clause-steps
labels-returns-in_ok-spread-in-Af-clause-steps t g c =
    let is = cost_Af (edge_count c.args.graph.now) c.args.goal.now c.in-Af.part c.deref-in-Af.result.now c.deref-in-Af.ensures c.in-Af.is in omega (arith, is, c.labels-in-Af.ensures.steps, c.spread.ensures.steps)

pub labels-returns-in_err-spread-in-Af-clause-steps : goal.labels-returns-in_err-spread-in-Af-clause-steps
labels-returns-in_err-spread-in-Af-clause-steps t g c =
    let is = cost_Af (edge_count c.args.graph.now) c.args.goal.now c.in-Af.part c.deref-in-Af.result.now c.deref-in-Af.ensures c.in-Af.is in omega (arith, is, c.labels-in-Af.ensures.steps, c.spread.ensures.steps)

pub labels-returns-in_err-marks-in-Ef-clause-steps : goal.labels-returns-in_err-marks-in-Ef-clause-steps
labels-returns-in_err-marks-in-Ef-clause-steps t g c =
    let is = cost_Ef (edge_count c.args.graph.now) c.args.goal.now c.in-Ef.part c.deref-in-Ef.result.now c.deref-in-Ef.ensures c.in-Ef.is in omega (arith, is, c.labels-in-Ef.ensures.steps)

pub labels-returns-in_ok-spread-in-Ef-clause-steps : goal.labels-returns-in_ok-spread-in-Ef-clause-steps
labels-returns-in_ok-spread-in-Ef-clause-steps t g c =
    let is = cost_Ef (edge_count c.args.graph.now) c.args.goal.now c.in-Ef.part c.deref-in-Ef.result.now c.deref-in-Ef.ensures c.in-Ef.is in omega (arith, is, c.labels-in-Ef.ensures.steps, c.spread-in-Ef.ensures.steps)

pub labels-returns-in_err-spread-in-Ef-clause-steps : goal.labels-returns-in_err-spread-in-Ef-clause-steps
labels-returns-in_err-spread-in-Ef-clause-steps t g c =
    let is = cost_Ef (edge_count c.args.graph.now) c.args.goal.now c.in-Ef.part c.deref-in-Ef.result.now c.deref-in-Ef.ensures c.in-Ef.is in omega (arith, is, c.labels-in-Ef.ensures.steps, c.spread-in-Ef.ensures.steps)

pub labels-returns-in_err-guard-in-Ag-clause-steps : goal.labels-returns-in_err-guard-in-Ag-clause-steps
labels-returns-in_err-guard-in-Ag-clause-steps t g c =
    let is = cost_Ag (edge_count c.args.graph.now) c.args.goal.now c.in-Ag.part c.deref-in-Ag.result.now c.deref-in-Ag.ensures c.in-Ag.is in omega (arith, is, c.labels-in-Ag.ensures.steps)

pub labels-returns-in_err-target-in-Ag-clause-steps : goal.labels-returns-in_err-target-in-Ag-clause-steps
labels-returns-in_err-target-in-Ag-clause-steps t g c =
    let is = cost_Ag (edge_count c.args.graph.now) c.args.goal.now c.in-Ag.part c.deref-in-Ag.result.now c.deref-in-Ag.ensures c.in-Ag.is in omega (arith, is, c.labels-in-Ag.ensures.steps)

pub labels-returns-in_ok-target-in-Ag-clause-steps : goal.labels-returns-in_ok-target-in-Ag-clause-steps
labels-returns-in_ok-target-in-Ag-clause-steps t g c =
    let is = cost_Ag (edge_count c.args.graph.now) c.args.goal.now c.in-Ag.part c.deref-in-Ag.result.now c.deref-in-Ag.ensures c.in-Ag.is in omega (arith, is, c.labels-in-Ag.ensures.steps, c.weak_until.ensures.steps)

pub labels-returns-in_err-guard-in-Eg-clause-steps : goal.labels-returns-in_err-guard-in-Eg-clause-steps
labels-returns-in_err-guard-in-Eg-clause-steps t g c =
    let is = cost_Eg (edge_count c.args.graph.now) c.args.goal.now c.in-Eg.part c.deref-in-Eg.result.now c.deref-in-Eg.ensures c.in-Eg.is in omega (arith, is, c.labels-in-Eg.ensures.steps)

pub labels-returns-in_err-target-in-Eg-clause-steps : goal.labels-returns-in_err-target-in-Eg-clause-steps
labels-returns-in_err-target-in-Eg-clause-steps t g c =
    let is = cost_Eg (edge_count c.args.graph.now) c.args.goal.now c.in-Eg.part c.deref-in-Eg.result.now c.deref-in-Eg.ensures c.in-Eg.is in omega (arith, is, c.labels-in-Eg.ensures.steps)

pub labels-returns-in_ok-target-in-Eg-clause-steps : goal.labels-returns-in_ok-target-in-Eg-clause-steps
labels-returns-in_ok-target-in-Eg-clause-steps t g c =
    let is = cost_Eg (edge_count c.args.graph.now) c.args.goal.now c.in-Eg.part c.deref-in-Eg.result.now c.deref-in-Eg.ensures c.in-Eg.is in omega (arith, is, c.labels-in-Eg.ensures.steps, c.weak_until-in-Eg.ensures.steps)

pub labels-returns-in_err-guard-in-Au-clause-steps : goal.labels-returns-in_err-guard-in-Au-clause-steps
labels-returns-in_err-guard-in-Au-clause-steps t g c =
    let is = cost_Au (edge_count c.args.graph.now) c.args.goal.now c.in-Au.left c.in-Au.right c.deref-in-Au.result.now c.in-Au.right.value c.deref-in-Au.ensures refl c.in-Au.is in omega (arith, is, c.labels-in-Au.ensures.steps)

pub labels-returns-in_err-marks-in-Au-clause-steps : goal.labels-returns-in_err-marks-in-Au-clause-steps
labels-returns-in_err-marks-in-Au-clause-steps t g c =
    let is = cost_Au (edge_count c.args.graph.now) c.args.goal.now c.in-Au.left c.in-Au.right c.deref-in-Au.result.now c.deref-in-Au-2.result.now c.deref-in-Au.ensures c.deref-in-Au-2.ensures c.in-Au.is in omega (arith, is, c.labels-in-Au.ensures.steps, c.labels-in-Au-2.ensures.steps)

pub labels-returns-in_ok-spread-in-Au-clause-steps : goal.labels-returns-in_ok-spread-in-Au-clause-steps
labels-returns-in_ok-spread-in-Au-clause-steps t g c =
    let is = cost_Au (edge_count c.args.graph.now) c.args.goal.now c.in-Au.left c.in-Au.right c.deref-in-Au.result.now c.deref-in-Au-2.result.now c.deref-in-Au.ensures c.deref-in-Au-2.ensures c.in-Au.is in omega (arith, is, c.labels-in-Au.ensures.steps, c.labels-in-Au-2.ensures.steps, c.spread-in-Au.ensures.steps)

pub labels-returns-in_err-spread-in-Au-clause-steps : goal.labels-returns-in_err-spread-in-Au-clause-steps
labels-returns-in_err-spread-in-Au-clause-steps t g c =
    let is = cost_Au (edge_count c.args.graph.now) c.args.goal.now c.in-Au.left c.in-Au.right c.deref-in-Au.result.now c.deref-in-Au-2.result.now c.deref-in-Au.ensures c.deref-in-Au-2.ensures c.in-Au.is in omega (arith, is, c.labels-in-Au.ensures.steps, c.labels-in-Au-2.ensures.steps, c.spread-in-Au.ensures.steps)

pub labels-returns-in_err-guard-in-Eu-clause-steps : goal.labels-returns-in_err-guard-in-Eu-clause-steps
labels-returns-in_err-guard-in-Eu-clause-steps t g c =
    let is = cost_Eu (edge_count c.args.graph.now) c.args.goal.now c.in-Eu.left c.in-Eu.right c.deref-in-Eu.result.now c.in-Eu.right.value c.deref-in-Eu.ensures refl c.in-Eu.is in omega (arith, is, c.labels-in-Eu.ensures.steps)

pub labels-returns-in_err-marks-in-Eu-clause-steps : goal.labels-returns-in_err-marks-in-Eu-clause-steps
labels-returns-in_err-marks-in-Eu-clause-steps t g c =
    let is = cost_Eu (edge_count c.args.graph.now) c.args.goal.now c.in-Eu.left c.in-Eu.right c.deref-in-Eu.result.now c.deref-in-Eu-2.result.now c.deref-in-Eu.ensures c.deref-in-Eu-2.ensures c.in-Eu.is in omega (arith, is, c.labels-in-Eu.ensures.steps, c.labels-in-Eu-2.ensures.steps)

pub labels-returns-in_ok-spread-in-Eu-clause-steps : goal.labels-returns-in_ok-spread-in-Eu-clause-steps
labels-returns-in_ok-spread-in-Eu-clause-steps t g c =
    let is = cost_Eu (edge_count c.args.graph.now) c.args.goal.now c.in-Eu.left c.in-Eu.right c.deref-in-Eu.result.now c.deref-in-Eu-2.result.now c.deref-in-Eu.ensures c.deref-in-Eu-2.ensures c.in-Eu.is in omega (arith, is, c.labels-in-Eu.ensures.steps, c.labels-in-Eu-2.ensures.steps, c.spread-in-Eu.ensures.steps)

pub labels-returns-in_err-spread-in-Eu-clause-steps : goal.labels-returns-in_err-spread-in-Eu-clause-steps
labels-returns-in_err-spread-in-Eu-clause-steps t g c =
    let is = cost_Eu (edge_count c.args.graph.now) c.args.goal.now c.in-Eu.left c.in-Eu.right c.deref-in-Eu.result.now c.deref-in-Eu-2.result.now c.deref-in-Eu.ensures c.deref-in-Eu-2.ensures c.in-Eu.is in omega (arith, is, c.labels-in-Eu.ensures.steps, c.labels-in-Eu-2.ensures.steps, c.spread-in-Eu.ensures.steps)

pub labels-returns-in_err-guard-in-Aw-clause-steps : goal.labels-returns-in_err-guard-in-Aw-clause-steps
labels-returns-in_err-guard-in-Aw-clause-steps t g c =
    let is = cost_Aw (edge_count c.args.graph.now) c.args.goal.now c.in-Aw.left c.in-Aw.right c.deref-in-Aw.result.now c.in-Aw.right.value c.deref-in-Aw.ensures refl c.in-Aw.is in omega (arith, is, c.labels-in-Aw.ensures.steps)

pub labels-returns-in_err-target-in-Aw-clause-steps : goal.labels-returns-in_err-target-in-Aw-clause-steps
labels-returns-in_err-target-in-Aw-clause-steps t g c =
    let is = cost_Aw (edge_count c.args.graph.now) c.args.goal.now c.in-Aw.left c.in-Aw.right c.deref-in-Aw.result.now c.deref-in-Aw-2.result.now c.deref-in-Aw.ensures c.deref-in-Aw-2.ensures c.in-Aw.is in omega (arith, is, c.labels-in-Aw.ensures.steps, c.labels-in-Aw-2.ensures.steps)

pub labels-returns-in_ok-target-in-Aw-clause-steps : goal.labels-returns-in_ok-target-in-Aw-clause-steps
labels-returns-in_ok-target-in-Aw-clause-steps t g c =
    let is = cost_Aw (edge_count c.args.graph.now) c.args.goal.now c.in-Aw.left c.in-Aw.right c.deref-in-Aw.result.now c.deref-in-Aw-2.result.now c.deref-in-Aw.ensures c.deref-in-Aw-2.ensures c.in-Aw.is in omega (arith, is, c.labels-in-Aw.ensures.steps, c.labels-in-Aw-2.ensures.steps, c.weak_until-in-Aw.ensures.steps)

pub labels-returns-in_err-guard-in-Ew-clause-steps : goal.labels-returns-in_err-guard-in-Ew-clause-steps
labels-returns-in_err-guard-in-Ew-clause-steps t g c =
    let is = cost_Ew (edge_count c.args.graph.now) c.args.goal.now c.in-Ew.left c.in-Ew.right c.deref-in-Ew.result.now c.in-Ew.right.value c.deref-in-Ew.ensures refl c.in-Ew.is in omega (arith, is, c.labels-in-Ew.ensures.steps)

pub labels-returns-in_err-target-in-Ew-clause-steps : goal.labels-returns-in_err-target-in-Ew-clause-steps
labels-returns-in_err-target-in-Ew-clause-steps t g c =
    let is = cost_Ew (edge_count c.args.graph.now) c.args.goal.now c.in-Ew.left c.in-Ew.right c.deref-in-Ew.result.now c.deref-in-Ew-2.result.now c.deref-in-Ew.ensures c.deref-in-Ew-2.ensures c.in-Ew.is in omega (arith, is, c.labels-in-Ew.ensures.steps, c.labels-in-Ew-2.ensures.steps)

pub labels-returns-in_ok-target-in-Ew-clause-steps : goal.labels-returns-in_ok-target-in-Ew-clause-steps
labels-returns-in_ok-target-in-Ew-clause-steps t g c =
    let is = cost_Ew (edge_count c.args.graph.now) c.args.goal.now c.in-Ew.left c.in-Ew.right c.deref-in-Ew.result.now c.deref-in-Ew-2.result.now c.deref-in-Ew.ensures c.deref-in-Ew-2.ensures c.in-Ew.is in omega (arith, is, c.labels-in-Ew.ensures.steps, c.labels-in-Ew-2.ensures.steps, c.weak_until-in-Ew.ensures.steps)

pub labels_of_all-returns-clause-steps : goal.labels_of_all-returns-clause-steps
labels_of_all-returns-clause-steps t g c = omega (arith, c.loop-goal.invariant.steps)

pub labels_of_all-returns-in_err-part-clause-steps : goal.labels_of_all-returns-in_err-part-clause-steps
labels_of_all-returns-in_err-part-clause-steps t g c = let more = row_step (edge_count c.args.graph.now) c.loop-goal.goal-index c.args.goals.now c.goal-item.result c.loop-goal-test.true (sym c.goal-item.is) in omega (arith, more, c.loop-goal.invariant.steps, c.labels.ensures.steps)

pub labels_of_all-returns-in_err-marks-2-clause-steps : goal.labels_of_all-returns-in_err-marks-2-clause-steps
labels_of_all-returns-in_err-marks-2-clause-steps t g c = let more = row_step (edge_count c.args.graph.now) c.loop-goal.goal-index c.args.goals.now c.goal-item.result c.loop-goal-test.true (sym c.goal-item.is) in omega (arith, more, c.loop-goal.invariant.steps, c.labels.ensures.steps)

pub labels_of_any-returns-clause-steps : goal.labels_of_any-returns-clause-steps
labels_of_any-returns-clause-steps t g c = omega (arith, c.loop-goal.invariant.steps)

pub labels_of_any-returns-in_err-part-clause-steps : goal.labels_of_any-returns-in_err-part-clause-steps
labels_of_any-returns-in_err-part-clause-steps t g c = let more = row_step (edge_count c.args.graph.now) c.loop-goal.goal-index c.args.goals.now c.goal-item.result c.loop-goal-test.true (sym c.goal-item.is) in omega (arith, more, c.loop-goal.invariant.steps, c.labels.ensures.steps)

pub labels_of_any-returns-in_err-marks-2-clause-steps : goal.labels_of_any-returns-in_err-marks-2-clause-steps
labels_of_any-returns-in_err-marks-2-clause-steps t g c = let more = row_step (edge_count c.args.graph.now) c.loop-goal.goal-index c.args.goals.now c.goal-item.result c.loop-goal-test.true (sym c.goal-item.is) in omega (arith, more, c.loop-goal.invariant.steps, c.labels.ensures.steps)

pub labels-joined-requires : goal.labels-joined-requires
labels-joined-requires t g c =
    let s = sizes_Imply c.args.graph.now c.args.goal.now c.in-Imply.left c.in-Imply.right c.deref-in-Imply.result.now c.deref-in-Imply-2.result.now c.in_ok-left-in-Imply.left.items c.in_ok-right-in-Imply.right.items c.deref-in-Imply.ensures c.deref-in-Imply-2.ensures c.requires.names c.in_ok-left-in-Imply.ensures.shows c.in_ok-right-in-Imply.ensures.shows c.in-Imply.is in ap length c.deref-in-Imply-4.ensures.value ∙ (s.1 ∙ sym (ap length c.deref-in-Imply-3.ensures.value ∙ s.0))

pub labels-spread-requires-in-Au-clause-guard : goal.labels-spread-requires-in-Au-clause-guard
labels-spread-requires-in-Au-clause-guard t g c =
    ap length c.deref-in-Au-3.ensures.value ∙ (sizes_Au c.args.graph.now c.args.goal.now c.in-Au.left c.in-Au.right c.deref-in-Au.result.now c.deref-in-Au-2.result.now c.in_ok-guard-in-Au.guard.items c.in_ok-marks-in-Au.marks.items c.deref-in-Au.ensures c.deref-in-Au-2.ensures c.requires.names c.in_ok-guard-in-Au.ensures.shows c.in_ok-marks-in-Au.ensures.shows c.in-Au.is).0

pub labels-spread-requires-in-Au-clause-marks : goal.labels-spread-requires-in-Au-clause-marks
labels-spread-requires-in-Au-clause-marks t g c =
    (sizes_Au c.args.graph.now c.args.goal.now c.in-Au.left c.in-Au.right c.deref-in-Au.result.now c.deref-in-Au-2.result.now c.in_ok-guard-in-Au.guard.items c.in_ok-marks-in-Au.marks.items c.deref-in-Au.ensures c.deref-in-Au-2.ensures c.requires.names c.in_ok-guard-in-Au.ensures.shows c.in_ok-marks-in-Au.ensures.shows c.in-Au.is).1

pub labels-spread-requires-in-Eu-clause-guard : goal.labels-spread-requires-in-Eu-clause-guard
labels-spread-requires-in-Eu-clause-guard t g c =
    ap length c.deref-in-Eu-3.ensures.value ∙ (sizes_Eu c.args.graph.now c.args.goal.now c.in-Eu.left c.in-Eu.right c.deref-in-Eu.result.now c.deref-in-Eu-2.result.now c.in_ok-guard-in-Eu.guard.items c.in_ok-marks-in-Eu.marks.items c.deref-in-Eu.ensures c.deref-in-Eu-2.ensures c.requires.names c.in_ok-guard-in-Eu.ensures.shows c.in_ok-marks-in-Eu.ensures.shows c.in-Eu.is).0

pub labels-spread-requires-in-Eu-clause-marks : goal.labels-spread-requires-in-Eu-clause-marks
labels-spread-requires-in-Eu-clause-marks t g c =
    (sizes_Eu c.args.graph.now c.args.goal.now c.in-Eu.left c.in-Eu.right c.deref-in-Eu.result.now c.deref-in-Eu-2.result.now c.in_ok-guard-in-Eu.guard.items c.in_ok-marks-in-Eu.marks.items c.deref-in-Eu.ensures c.deref-in-Eu-2.ensures c.requires.names c.in_ok-guard-in-Eu.ensures.shows c.in_ok-marks-in-Eu.ensures.shows c.in-Eu.is).1

pub labels-weak_until-requires-in-Aw-clause-guard : goal.labels-weak_until-requires-in-Aw-clause-guard
labels-weak_until-requires-in-Aw-clause-guard t g c =
    ap length c.deref-in-Aw-3.ensures.value ∙ (sizes_Aw c.args.graph.now c.args.goal.now c.in-Aw.left c.in-Aw.right c.deref-in-Aw.result.now c.deref-in-Aw-2.result.now c.in_ok-guard-in-Aw.guard.items c.in_ok-target-in-Aw.target.items c.deref-in-Aw.ensures c.deref-in-Aw-2.ensures c.requires.names c.in_ok-guard-in-Aw.ensures.shows c.in_ok-target-in-Aw.ensures.shows c.in-Aw.is).0

pub labels-weak_until-requires-in-Aw-clause-target : goal.labels-weak_until-requires-in-Aw-clause-target
labels-weak_until-requires-in-Aw-clause-target t g c =
    ap length c.deref-in-Aw-4.ensures.value ∙ (sizes_Aw c.args.graph.now c.args.goal.now c.in-Aw.left c.in-Aw.right c.deref-in-Aw.result.now c.deref-in-Aw-2.result.now c.in_ok-guard-in-Aw.guard.items c.in_ok-target-in-Aw.target.items c.deref-in-Aw.ensures c.deref-in-Aw-2.ensures c.requires.names c.in_ok-guard-in-Aw.ensures.shows c.in_ok-target-in-Aw.ensures.shows c.in-Aw.is).1

pub labels-weak_until-requires-in-Ew-clause-guard : goal.labels-weak_until-requires-in-Ew-clause-guard
labels-weak_until-requires-in-Ew-clause-guard t g c =
    ap length c.deref-in-Ew-3.ensures.value ∙ (sizes_Ew c.args.graph.now c.args.goal.now c.in-Ew.left c.in-Ew.right c.deref-in-Ew.result.now c.deref-in-Ew-2.result.now c.in_ok-guard-in-Ew.guard.items c.in_ok-target-in-Ew.target.items c.deref-in-Ew.ensures c.deref-in-Ew-2.ensures c.requires.names c.in_ok-guard-in-Ew.ensures.shows c.in_ok-target-in-Ew.ensures.shows c.in-Ew.is).0

pub labels-weak_until-requires-in-Ew-clause-target : goal.labels-weak_until-requires-in-Ew-clause-target
labels-weak_until-requires-in-Ew-clause-target t g c =
    ap length c.deref-in-Ew-4.ensures.value ∙ (sizes_Ew c.args.graph.now c.args.goal.now c.in-Ew.left c.in-Ew.right c.deref-in-Ew.result.now c.deref-in-Ew-2.result.now c.in_ok-guard-in-Ew.guard.items c.in_ok-target-in-Ew.target.items c.deref-in-Ew.ensures c.deref-in-Ew-2.ensures c.requires.names c.in_ok-guard-in-Ew.ensures.shows c.in_ok-target-in-Ew.ensures.shows c.in-Ew.is).1

pub labels-returns-in_ok-right-in-Imply-clause-shows : goal.labels-returns-in_ok-right-in-Imply-clause-shows
labels-returns-in_ok-right-in-Imply-clause-shows t g c =
    λ n k.
    IfOk-weaker c.joined.result (λ marks. IsJoined (length c.deref-in-Imply-3.result.now) Implies c.deref-in-Imply-3.result.now c.deref-in-Imply-4.result.now marks.items) (λ marks. ShowsGoal n c.args.graph.now (ctl_value c.args.goal.now) marks.items)
    (λ marks h. of_Imply n c.args.graph.now c.requires.inside c.requires.followers c.args.goal.now c.in-Imply.left c.in-Imply.right c.deref-in-Imply.result.now c.deref-in-Imply-2.result.now c.in_ok-left-in-Imply.left.items c.in_ok-right-in-Imply.right.items c.deref-in-Imply-3.result.now c.deref-in-Imply-4.result.now marks.items c.deref-in-Imply.ensures c.deref-in-Imply-2.ensures (c.in_ok-left-in-Imply.ensures.shows n) (c.in_ok-right-in-Imply.ensures.shows n) c.deref-in-Imply-3.ensures.value c.deref-in-Imply-4.ensures.value c.in-Imply.is h k)
    c.joined.ensures
