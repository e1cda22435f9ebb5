use Rattle.std.proofs.Common.{◌≡◌, ◌<◌, get_or, length, subst}
use Rattle.relaxed_reach.proofs.Widened.{action_within_256}
use Rattle.never_executed.proofs.finding.never_runs.Goals as goal

pub may_run-requires : goal.may_run-requires
may_run-requires c =
    let i = c.loop-action.action-index in
    let x = c.action-item.result in
    let items = c.deref-action-items.ensures.value in
    action_within_256 c.args.looked.now.task.now i x (subst (λ xs. i < length xs) items c.loop-action-test.true) (subst (λ xs. x ≡ get_or xs i x) items c.action-item.is)
