use Rattle.std.proofs.Common.{take}
use Rattle.plan_picture.specs.Labels.{line_of_node}
use Rattle.plan_picture.specs.Texts.{numbered}
use Rattle.plan_picture.proofs.Numbered.{longer_whole, numbered_shorter, pushed_next}
use Rattle.plan_picture.proofs.text.push_nodes.Goals as goal

pub loop-i-preserved : goal.loop-i-preserved
loop-i-preserved c =
    pushed_next (line_of_node c.args.shown.now) c.args.nodes.now c.loop-i.i c.index-nodes-i.result
    c.args.out.now.items c.loop-i.out.items c.push_node.new.out.items c.loop-i-test.true c.index-nodes-i.is c.loop-i.invariant c.in_ok-push_node.ensures

pub returns-then-is_too_long-clause-long : goal.returns-then-is_too_long-clause-long
returns-then-is_too_long-clause-long c = λ is.
    let lines = line_of_node c.args.shown.now in
    longer_whole c.args.out.now.items (numbered lines 0 (take c.loop-i.i c.args.nodes.now)) (numbered lines 0 c.args.nodes.now) c.loop-i.out.items _
    c.loop-i.invariant (numbered_shorter lines 0 c.args.nodes.now c.loop-i.i) (rw c.deref.ensures.value at (c.is_too_long.ensures.0 c.if-is_too_long.true))
