use Rattle.std.proofs.Common.{length}
use Rattle.plan_rules.specs.Plans.{IsRuleOf}
use Rattle.plan_rules.specs.Rules.{rule_of}
use Rattle.plan_rules.proofs.MappedItems.{mapped_item}
use Rattle.plan_document.proofs.rules.table_rules.Goals as goal

pub table_rule-requires-clause-cube : goal.table_rule-requires-clause-cube
table_rule-requires-clause-cube c =
    (mapped_item (IsRuleOf (length c.args.fluents.now) (length c.args.actions.now)) rule_of c.args.rules.now c.loop-rule.rule-index c.rule-item.result c.requires c.loop-rule-test.true c.rule-item.is).cube

pub table_rule-requires-clause-action : goal.table_rule-requires-clause-action
table_rule-requires-clause-action c =
    (mapped_item (IsRuleOf (length c.args.fluents.now) (length c.args.actions.now)) rule_of c.args.rules.now c.loop-rule.rule-index c.rule-item.result c.requires c.loop-rule-test.true c.rule-item.is).action
