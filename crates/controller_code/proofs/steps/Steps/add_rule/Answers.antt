-- Without literals the rule is taken; a literal more is asked for before the others.
use Rattle.std.proofs.Common.{◌-◌, arith}
use Rattle.controller_code.proofs.StepLemmas.{all_begun, all_more, kept_more}
use Rattle.controller_code.proofs.steps.Steps.add_rule.Goals as goal

pub loop-place-init : goal.loop-place-init
loop-place-init c = record {
  kept = c.in_ok-all.ensures.kept;
  decides = all_begun c.args.rule.now.cube.items c.args.rule.now.action c.len-place.result (omega (arith, c.args.rule.now.cube.ok.0, c.len-place.ensures)) c.args.rest
      c.args.self.now.list.items c.add.new.self.list.items c.in_ok-all.all c.in_ok-all.ensures.added;
}

pub loop-place-preserved : goal.loop-place-preserved
loop-place-preserved c = record {
  kept = kept_more c.args.self.now.list.items c.loop-place.self.list.items c.add-in-loop-place.new.self.list.items c.loop-place.invariant.kept c.in_ok-all-2.ensures.kept;
  decides = all_more c.args.rule.now.cube.items c.args.rule.now.action (c.loop-place.place - 1) c.loop-place.place (omega arith)
      (omega (arith, c.args.rule.now.cube.ok.0, c.len-place.ensures)) c.index.result.now c.index.ensures c.args.rest
      c.args.self.now.list.items c.loop-place.self.list.items c.add-in-loop-place.new.self.list.items c.loop-place.invariant.kept c.in_ok-all-2.ensures.kept
      c.loop-place.all c.test_of.result c.test_of.ensures.fluent c.test_of.ensures.if_true c.test_of.ensures.if_false c.in_ok-all-2.all c.in_ok-all-2.ensures.added c.loop-place.invariant.decides;
}
