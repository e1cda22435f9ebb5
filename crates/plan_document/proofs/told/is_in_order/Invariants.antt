use Rattle.plan_document.proofs.InOrder.{AreNeighboursInOrder}
use Rattle.plan_document.proofs.told.is_in_order.Given as goal

abbrev pub invariant-loop-place : goal.invariant-loop-place
invariant-loop-place l = AreNeighboursInOrder l.cube l.place
