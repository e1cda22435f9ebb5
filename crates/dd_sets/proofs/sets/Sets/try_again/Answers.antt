-- The try after the collection decides.
use Rattle.dd_sets.proofs.TryLemmas.{collected_full, collected_memory, collected_ok, still_ready}
use Rattle.dd_sets.proofs.sets.Sets.try_again.Goals as goal

pub compute-requires : goal.compute-requires
compute-requires c = still_ready c.args.self.now c.collect.new.self c.in_ok-collect.ensures.collected.vars c.in_ok-collect.ensures.collected.live c.args.operation c.requires

pub returns-in-Ok : goal.returns-in-Ok
returns-in-Ok c = collected_ok c.args.operation c.args.self.now c.collect.new.self c.compute.new.self c.in_ok-collect.ensures.collected c.compute.ensures.computes c.in-Ok.number c.in-Ok.is

pub returns-in-Err-Full : goal.returns-in-Err-Full
returns-in-Err-Full c = collected_full c.args.operation c.args.self.now c.collect.new.self c.compute.new.self c.in_ok-collect.ensures.collected c.compute.ensures.computes
    c.in-Err-Full.is c.in-Err-Full.field-0-is

pub returns-in-Err-Memory : goal.returns-in-Err-Memory
returns-in-Err-Memory c = collected_memory c.args.operation c.args.self.now c.collect.new.self c.compute.new.self c.in_ok-collect.ensures.collected c.compute.ensures.computes
