use Rattle.std.proofs.Common.{length}
use Rattle.plan_rules.specs.Plans.{IsRuleOf}
use Rattle.plan_rules.specs.Rules.{rule_of}
use Rattle.plan_rules.proofs.MappedItems.{mapped_item}
use Rattle.plan_rules.proofs.text.push_rules.Goals as goal

pub push_rule-requires-clause-cube : goal.push_rule-requires-clause-cube
push_rule-requires-clause-cube c =
    (mapped_item (IsRuleOf (length c.args.fluents.now) (length c.args.actions.now)) rule_of c.args.rules.now c.loop-rule.rule-index c.rule-item.result c.requires c.loop-rule-test.true c.rule-item.is).cube

pub push_rule-requires-clause-action : goal.push_rule-requires-clause-action
push_rule-requires-clause-action c =
    (mapped_item (IsRuleOf (length c.args.fluents.now) (length c.args.actions.now)) rule_of c.args.rules.now c.loop-rule.rule-index c.rule-item.result c.requires c.loop-rule-test.true c.rule-item.is).action
