use Rattle.std.proofs.Common.{refl, arith}
use Rattle.plan_document.proofs.InOrder.{in_order}
use Rattle.plan_document.proofs.told.is_in_order.Goals as goal

pub returns : goal.returns
returns c = (λ _. in_order c.args.cube.now (λ k d less. c.loop-place.invariant k d (omega arith)), λ _. refl)
