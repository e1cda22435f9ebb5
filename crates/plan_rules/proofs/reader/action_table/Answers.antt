use Rattle.std.proofs.Common.{◌≡◌, map, take, get_or, arith, ap, ◌∙◌}
use Rattle.task_core.specs.Names.{name_of}
use Rattle.plan_rules.proofs.NameNumbers.{fresh}
use Rattle.plan_rules.proofs.reader.action_table.Goals as goal

pub add-requires-clause-new : goal.add-requires-clause-new
add-requires-clause-new c =
    let i = c.loop-action.action-index in
    let items = c.args.task.now.actions.items in
    let e : c.loop-action.table ≡ map name_of (take i items) = c.loop-action.invariant in
    let is : c.action-item.result ≡ get_or items i c.action-item.result =
    c.action-item.is ∙ ap (λ xs. get_or xs i c.action-item.result) c.deref-action-items.ensures.value in
    rw (e, c.deref.ensures.value)
    (fresh name_of items i c.action-item.result c.args.task.now.action_names.distinct (omega arith) is)
