use Rattle.judge_sets.proofs.sweeps.shrink_if.Goals as goal

pub shrink_by-requires-clause-ready : goal.shrink_by-requires-clause-ready
shrink_by-requires-clause-ready c = let r = c.requires.ready in (r.0, r.1, r.2.set, r.2.has)
