use Rattle.std.proofs.Common.{◌∙◌}
use Rattle.pddl_domain.proofs.TypeLemmas.{one_more_group}
use Rattle.pddl_domain.proofs.types.push_parents.Goals as goal

pub loop-group-preserved : goal.loop-group-preserved
loop-group-preserved c =
    c.loop-group.invariant
    ∙ one_more_group c.args.names.now c.loop-group.parents.items c.push_for_each.new.parents.items c.args.groups.now c.loop-group.group-index c.group-item.result c.type_number-number.result
    c.loop-group-test.true c.group-item.is c.type_number-number.ensures (rw (← c.deref.ensures.value) c.in_ok-push_for_each.ensures)
