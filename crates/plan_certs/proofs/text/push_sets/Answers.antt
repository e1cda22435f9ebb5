use Rattle.std.proofs.Common.{length}
use Rattle.plan_rules.proofs.MappedItems.{mapped_item}
use Rattle.plan_certs.specs.Named.{IsSetOf, set_of}
use Rattle.plan_certs.proofs.text.push_sets.Goals as goal

pub push_set-requires : goal.push_set-requires
push_set-requires c =
    mapped_item (IsSetOf (length c.args.fluents.now)) set_of c.args.sets.now c.loop-set.set-index c.set-item.result c.requires c.loop-set-test.true c.set-item.is
