use Rattle.std.proofs.Common.{◌≡◌, drop}
use Rattle.std.specs.List.{list_any}
use Rattle.ground_instances.specs.Partial.{is_free}
use Rattle.ground_instances.proofs.values.Free.has_one_of.Given as goal

abbrev pub invariant-loop-term : goal.invariant-loop-term
invariant-loop-term l = list_any (is_free l.self) (drop l.term-index l.terms) ≡ list_any (is_free l.self) l.terms
