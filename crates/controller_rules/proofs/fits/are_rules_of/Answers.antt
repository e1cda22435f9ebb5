use Rattle.plan_rules.specs.Plans.{IsRuleOf}
use Rattle.plan_rules.specs.Rules.{rule_of}
use Rattle.plan_document.proofs.Mapped.{all_taken, one_more}
use Rattle.controller_rules.proofs.fits.are_rules_of.Goals as goal

pub loop-rule-preserved : goal.loop-rule-preserved
loop-rule-preserved c =
    one_more (IsRuleOf c.args.fluents c.args.actions) rule_of c.args.rules.now c.loop-rule.rule-index c.rule-item.result c.loop-rule-test.true c.rule-item.is c.loop-rule.invariant
    (c.is_rule_of.ensures c.if-not-is_rule_of.false)

pub returns : goal.returns
returns c = λ _. all_taken (IsRuleOf c.args.fluents c.args.actions) rule_of c.args.rules.now c.loop-rule.rule-index c.loop-rule-test.false c.loop-rule.invariant
