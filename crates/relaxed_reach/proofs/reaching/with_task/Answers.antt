use Rattle.std.proofs.Common.{◌≡◌, ◌<◌, ap, get_or, length, subst}
use Rattle.relaxed_reach.specs.Literals.{has}
use Rattle.relaxed_reach.specs.Relaxed.{action_gives}
use Rattle.relaxed_reach.proofs.Lacks.{all_looked_at, one_more}
use Rattle.relaxed_reach.proofs.Widened.{action_within_256}
use Rattle.relaxed_reach.proofs.reaching.with_task.Goals as goal

pub with_action-more-requires : goal.with_action-more-requires
with_action-more-requires c =
    let i = c.loop-action.action-index in
    let x = c.action-item.result in
    let items = c.deref-action-items.ensures.value in
    action_within_256 c.args.task.now i x (subst (λ xs. i < length xs) items c.loop-action-test.true) (subst (λ xs. x ≡ get_or xs i x) items c.action-item.is)

pub loop-action-preserved : goal.loop-action-preserved
loop-action-preserved c = λ f value.
    let p = action_gives (has c.args.known.now) f value in
    one_more p c.deref-action-items.result.now c.loop-action.action-index c.action-item.result c.action-item.result (has c.args.known.now f value) (has c.loop-action.more f value) (has c.with_action-more.result f value)
    c.loop-action-test.true (ap p c.action-item.is) (c.loop-action.invariant f value) (c.with_action-more.ensures f value)

pub returns : goal.returns
returns c = λ f value.
    all_looked_at (action_gives (has c.args.known.now) f value) c.deref-action-items.result.now c.args.task.now.actions.items c.loop-action.action-index (has c.args.known.now f value) (has c.loop-action.more f value)
    c.loop-action-test.false c.deref-action-items.ensures.value (c.loop-action.invariant f value)
