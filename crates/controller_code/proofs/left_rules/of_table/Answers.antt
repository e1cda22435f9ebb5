-- A rule more on both sides.
use Rattle.std.proofs.Common.{◌∙◌}
use Rattle.controller_code.proofs.Moves.{table_more}
use Rattle.controller_code.proofs.left_rules.of_table.Goals as goal

pub loop-rule-preserved : goal.loop-rule-preserved
loop-rule-preserved c v =
    table_more c.args.rules.now c.loop-rule.rule-index c.rule-item.result c.loop-rule-test.true c.rule-item.is c.loop-rule.left.items c.push.new.self.items
    c.in_ok-copy_of.field-0 (c.in_ok-copy_of.ensures ∙ c.deref.ensures.value) c.in_ok-push.ensures.items v (c.loop-rule.invariant v)
