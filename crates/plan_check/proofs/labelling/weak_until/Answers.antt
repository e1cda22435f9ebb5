use Rattle.plan_check.proofs.SpreadSteps.{needs_any}
use Rattle.plan_check.proofs.labelling.weak_until.Goals as goal

pub spread-requires-clause-followers : goal.spread-requires-clause-followers
spread-requires-clause-followers g c = needs_any c.other.result c.args.along.now.graph.now c.requires.followers
