-- A rule more on both sides.
use Rattle.std.proofs.Common.{arith}
use Rattle.controller_code.proofs.Moves.{same_more}
use Rattle.controller_code.proofs.left_rules.are_same.Goals as goal

pub loop-place-preserved : goal.loop-place-preserved
loop-place-preserved c v =
    same_more c.args.rules.now c.args.others.now c.loop-place.place c.index-rules-place.result c.index-others-place.result c.loop-place-test.true (omega arith) c.index-rules-place.is c.index-others-place.is
    (c.is_same.ensures.cube c.if-not-is_same.false) (c.is_same.ensures.action c.if-not-is_same.false) v (c.loop-place.invariant v)
