use Rattle.task_core.specs.Tasks.{fluent_count}
use Rattle.plan_rules.proofs.MappedItems.{mapped_item}
use Rattle.plan_certs.specs.Named.{IsSetOf, set_of}
use Rattle.plan_certs.proofs.judging.some_set_holds.Goals as goal

pub set_holds-requires : goal.set_holds-requires
set_holds-requires c =
    mapped_item (IsSetOf (fluent_count c.args.task.now)) set_of c.args.sets.now c.loop-set.set-index c.set-item.result c.requires c.loop-set-test.true c.set-item.is
