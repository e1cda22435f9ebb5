use Rattle.plan_picture.specs.Labels.{lines_from}
use Rattle.plan_picture.proofs.Numbered.{longer_with_next, pushed_next}
use Rattle.plan_picture.proofs.text.push_steps.Goals as goal

pub loop-i-preserved : goal.loop-i-preserved
loop-i-preserved c =
    pushed_next (lines_from c.args.shown.now) c.args.nodes.now c.loop-i.i c.index-nodes-i.result
    c.args.out.now.items c.loop-i.out.items c.push_steps_from.new.out.items c.loop-i-test.true c.index-nodes-i.is c.loop-i.invariant (rw c.deref.ensures.value at c.in-Ok.ensures.lines)

pub returns-in-Err-clause-long : goal.returns-in-Err-clause-long
returns-in-Err-clause-long c = λ is.
    longer_with_next (lines_from c.args.shown.now) c.args.nodes.now c.loop-i.i c.index-nodes-i.result
    c.args.out.now.items c.loop-i.out.items _ c.loop-i-test.true c.index-nodes-i.is c.loop-i.invariant (rw c.deref.ensures.value at (c.in-Err.ensures.long is))
