use Rattle.std.proofs.Common.{◌≡◌, map, take, get_or, arith, ap, ◌∙◌}
use Rattle.task_core.specs.Names.{name_bytes}
use Rattle.plan_rules.proofs.NameNumbers.{fresh}
use Rattle.plan_rules.proofs.reader.fluent_table.Goals as goal

pub add-requires-clause-new : goal.add-requires-clause-new
add-requires-clause-new c =
    let i = c.loop-name.name-index in
    let items = c.args.task.now.fluents.items in
    let e : c.loop-name.table ≡ map name_bytes (take i items) = c.loop-name.invariant in
    let is : c.name-item.result ≡ get_or items i c.name-item.result =
    c.name-item.is ∙ ap (λ xs. get_or xs i c.name-item.result) c.deref-name-items.ensures.value in
    rw (e, c.deref.ensures.value)
    (fresh name_bytes items i c.name-item.result c.args.task.now.fluent_names.distinct (omega arith) is)
