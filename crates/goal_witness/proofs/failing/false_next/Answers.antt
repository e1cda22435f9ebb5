use Rattle.std.proofs.Common.{length, sym, ap, ◌∙◌}
use Rattle.ctl_syntax.specs.Goals.{ax}
use Rattle.ctl_syntax.specs.Values.{ctl_value}
use Rattle.plan_check.specs.Labels.{mark_at}
use Rattle.plan_witness.specs.Values.{steps_value}
use Rattle.task_core.specs.Tasks.{fluent_count}
use Rattle.goal_witness.proofs.Fails.{leads_ax, not_sat, true_ax}
use Rattle.goal_witness.proofs.failing.false_next.Goals as goal

pub first_without-requires-clause-inside : goal.first_without-requires-clause-inside
first_without-requires-clause-inside g c = c.requires.scene.graph.next_below

pub first_without-requires-clause-count : goal.first_without-requires-clause-count
first_without-requires-clause-count g c = ap length c.deref.ensures.value ∙ c.in_ok-marks.ensures.count

pub first_without-requires-clause-number : goal.first_without-requires-clause-number
first_without-requires-clause-number g c = c.requires.fails.below

pub returns-in-Some : goal.returns-in-Some
returns-in-Some g c =
    let scene = c.args.scene.now in
    leads_ax scene c.requires.scene (ctl_value c.args.part.now) c.args.number c.in-Some.next (steps_value (fluent_count scene.task.now) c.in_ok-way-in-Some.way.items) c.in_ok-marks.marks.items c.requires.fails
    c.in-Some.ensures.follows c.in_ok-marks.ensures (ap (λ ms. mark_at ms c.in-Some.next) (sym c.deref.ensures.value) ∙ c.in-Some.ensures.lacks) c.in_ok-way-in-Some.ensures

pub returns : goal.returns
returns g c =
    let scene = c.args.scene.now in
    absurd
    (not_sat scene c.requires.scene (ax (ctl_value c.args.part.now)) c.args.number c.requires.fails
    (true_ax scene c.requires.scene (ctl_value c.args.part.now) c.args.number c.in_ok-marks.marks.items c.requires.fails.below c.in_ok-marks.ensures
    (λ j follows. ap (λ ms. mark_at ms j) (sym c.deref.ensures.value) ∙ c.in-None.ensures.none j follows)))
