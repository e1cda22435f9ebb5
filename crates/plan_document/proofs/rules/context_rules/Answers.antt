use Rattle.std.proofs.Common.{length}
use Rattle.plan_rules.specs.Named.{NamesRule}
use Rattle.plan_rules.specs.Rules.{context_rule_of}
use Rattle.plan_rules.proofs.MappedItems.{mapped_item}
use Rattle.plan_document.proofs.rules.context_rules.Goals as goal

pub context_rule-requires : goal.context_rule-requires
context_rule-requires c =
    mapped_item (NamesRule (length c.args.fluents.now) (length c.args.actions.now)) context_rule_of c.args.rules.now c.loop-rule.rule-index c.rule-item.result c.requires c.loop-rule-test.true c.rule-item.is
