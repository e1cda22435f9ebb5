use Rattle.std.proofs.Common.{◌≡◌, drop}
use Rattle.std.specs.List.{list_all}
use Rattle.ground_instances.specs.Settled.{is_bound}
use Rattle.ground_instances.proofs.settled.are_bound.Given as goal

abbrev pub invariant-loop-term : goal.invariant-loop-term
invariant-loop-term l = list_all (is_bound l.free l.count) (drop l.term-index l.terms) ≡ list_all (is_bound l.free l.count) l.terms
