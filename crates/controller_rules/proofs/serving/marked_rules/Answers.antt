use Rattle.std.proofs.Common.{map}
use Rattle.plan_rules.specs.Rules.{rule_of}
use Rattle.controller_rules.proofs.Marking.{marked_more, marked_whole}
use Rattle.controller_rules.proofs.serving.marked_rules.Goals as goal

pub loop-number-preserved : goal.loop-number-preserved
loop-number-preserved c =
    marked_more rule_of c.args.marks.now c.args.rules.now c.loop-number.number c.index-rules-number.result c.is_marked.result (map rule_of c.loop-number.kept.items) (map rule_of c.keep_if.new.kept.items)
    c.loop-number-test.true c.index-rules-number.is c.is_marked.ensures c.loop-number.invariant c.in_ok-keep_if.ensures

pub returns : goal.returns
returns c = marked_whole rule_of c.args.marks.now c.args.rules.now c.loop-number.number (map rule_of c.loop-number.kept.items) c.loop-number-test.false c.loop-number.invariant
