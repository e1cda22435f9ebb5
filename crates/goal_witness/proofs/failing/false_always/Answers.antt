use Rattle.std.proofs.Common.{true, length, ap, ◌∙◌}
use Rattle.ctl_syntax.specs.Values.{ctl_value}
use Rattle.plan_witness.specs.Values.{steps_value}
use Rattle.task_core.specs.Tasks.{fluent_count}
use Rattle.goal_witness.proofs.Fails.{ends_af, misses_af, none_everywhere}
use Rattle.goal_witness.proofs.Found.{same_as, shows_as}
use Rattle.goal_witness.proofs.failing.false_always.Goals as goal

pub endless-requires-clause-left : goal.endless-requires-clause-left
endless-requires-clause-left g c = ap length c.deref.ensures.value ∙ c.in_ok-left.ensures.count

pub endless-requires-clause-right : goal.endless-requires-clause-right
endless-requires-clause-right g c = ap length c.deref-2.ensures.value ∙ c.in_ok-right.ensures.count

pub endless-requires-clause-number : goal.endless-requires-clause-number
endless-requires-clause-number g c = c.requires.fails.below

pub endless-requires-clause-none : goal.endless-requires-clause-none
endless-requires-clause-none g c =
    let scene = c.args.scene.now in
    none_everywhere scene c.requires.scene c.args.number c.deref.result.now c.deref-2.result.now c.requires.fails.below
    (same_as scene c.in_ok-left.left.items c.deref.result.now true c.deref.ensures.value c.in_ok-left.ensures.each)

pub endless-requires-clause-misses : goal.endless-requires-clause-misses
endless-requires-clause-misses g c =
    let scene = c.args.scene.now in
    misses_af scene c.requires.scene (ctl_value c.args.part.now) c.args.number c.deref.result.now c.deref-2.result.now c.requires.fails
    (shows_as scene (ctl_value c.args.part.now) c.in_ok-right.right.items c.deref-2.result.now c.deref-2.ensures.value c.in_ok-right.ensures)

pub returns : goal.returns
returns g c =
    let scene = c.args.scene.now in
    let n = fluent_count scene.task.now in
    ends_af scene c.requires.scene (ctl_value c.args.part.now) c.args.number c.deref-2.result.now (steps_value n c.in_ok-lasso.lasso.stem.items) (steps_value n c.in_ok-lasso.lasso.back.items) c.requires.fails
    (shows_as scene (ctl_value c.args.part.now) c.in_ok-right.right.items c.deref-2.result.now c.deref-2.ensures.value c.in_ok-right.ensures) c.in_ok-lasso.ensures
