use Rattle.preimage.proofs.FrameSteps.{made_now}
use Rattle.cyclic_plan.proofs.plan.plan_cyclic.Goals as goal

pub returns-clause-made : goal.returns-clause-made
returns-clause-made c task made = made_now task c.args.enc.now c.find_plan.new.enc c.find_plan.ensures.same_slots c.find_plan.ensures.slots.kept made
