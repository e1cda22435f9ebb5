use Rattle.judge_sets.proofs.sweeps.grow_if.Goals as goal

pub grow_by-requires-clause-ready : goal.grow_by-requires-clause-ready
grow_by-requires-clause-ready c = let r = c.requires.ready in (r.0, r.1.set, r.1.has)
