use Rattle.std.proofs.Common.{map}
use Rattle.plan_rules.specs.Rules.{context_rule_of}
use Rattle.controller_rules.specs.Checks.{run_value}
use Rattle.controller_rules.proofs.Marking.{marked_more_at, marked_whole}
use Rattle.controller_rules.proofs.serving.marked_context_rules.Goals as goal

pub loop-number-preserved : goal.loop-number-preserved
loop-number-preserved c =
    marked_more_at run_value c.args.marks.now c.args.rules.now c.loop-number.number _ c.is_marked.result (map context_rule_of c.loop-number.kept.items) (map context_rule_of c.keep_context_if.new.kept.items)
    c.loop-number-test.true c.is_marked.ensures c.loop-number.invariant c.in_ok-keep_context_if.ensures

pub returns : goal.returns
returns c = marked_whole run_value c.args.marks.now c.args.rules.now c.loop-number.number (map context_rule_of c.loop-number.kept.items) c.loop-number-test.false c.loop-number.invariant
