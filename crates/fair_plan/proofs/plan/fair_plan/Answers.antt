use Rattle.preimage.proofs.FrameSteps.{made_now}
use Rattle.fair_plan.proofs.plan.fair_plan.Goals as goal

pub returns-clause-made : goal.returns-clause-made
returns-clause-made c task made = made_now task c.args.enc.now c.find_fair.new.enc c.find_fair.ensures.same_slots c.find_fair.ensures.slots.kept made
