-- Each entry from `end` on gives its variable itself.
use Rattle.std.proofs.Common.{arith}
use Rattle.dd_ops.proofs.SubstLemmas.{stay_all}
use Rattle.dd_ops.proofs.replacements.end_of.Goals as goal

pub returns-clause-stay : goal.returns-clause-stay
returns-clause-stay c = stay_all c.args.dd.now.nodes c.args.map.now c.loop-entry.end
    (λ k e within at. c.loop-entry.invariant.stay k e (omega arith) at)
