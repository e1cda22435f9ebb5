use Rattle.std.proofs.Common.{arith, map}
use Rattle.plan_rules.specs.Rules.{context_rule_of}
use Rattle.controller_rules.specs.Serving.{greatest_named}
use Rattle.controller_rules.proofs.Marking.{greatest_end, greatest_more, some_greatest}
use Rattle.controller_rules.proofs.serving.greatest_named.Goals as goal

pub loop-rule-init : goal.loop-rule-init
loop-rule-init c = record { some = omega arith; whole = omega (arith, some_greatest (map context_rule_of c.args.rules.now)) }

pub loop-rule-preserved : goal.loop-rule-preserved
loop-rule-preserved c = record {
  some = omega (arith, c.loop-rule.invariant.some, c.max_of-greatest.ensures);
  whole = greatest_more context_rule_of c.args.rules.now c.loop-rule.rule-index c.rule-item.result c.loop-rule.greatest _ (greatest_named (map context_rule_of c.args.rules.now)) c.loop-rule-test.true c.rule-item.is
      (omega (arith, c.max_of-greatest.ensures, c.max_of-named.ensures, c.next_named.ensures)) c.loop-rule.invariant.whole;
}

pub returns : goal.returns
returns c =
    greatest_end context_rule_of c.args.rules.now c.loop-rule.rule-index c.loop-rule.greatest (greatest_named (map context_rule_of c.args.rules.now)) c.loop-rule-test.false c.loop-rule.invariant.some c.loop-rule.invariant.whole
