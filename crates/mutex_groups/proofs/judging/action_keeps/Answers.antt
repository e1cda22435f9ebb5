use Rattle.std.proofs.Common.{◌<◌, arith}
use Rattle.mutex_groups.proofs.Soundness.{keeps_all}
use Rattle.mutex_groups.proofs.judging.action_keeps.Goals as goal

pub returns : goal.returns
returns c = λ _.
    keeps_all c.args.members.now c.args.action.now c.args.count c.requires.within
    (λ f h there. let below : f < c.loop-number.number = omega arith in c.loop-number.invariant f below there)
