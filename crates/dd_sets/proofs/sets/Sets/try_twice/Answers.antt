-- The second try decides.
use Rattle.std.proofs.Common.{rules}
use Rattle.dd_sets.proofs.TryLemmas.{tried_again}
use Rattle.dd_sets.proofs.sets.Sets.try_twice.Goals as goal

pub returns-in-Err-Full : goal.returns-in-Err-Full
returns-in-Err-Full c = search (rules, tried_again c.args.operation c.args.self.now c.compute.new.self c.compute.ensures.sound c.compute.ensures.computes)
