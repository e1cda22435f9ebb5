-- The highest start so far.
use Rattle.std.specs.Option.{MatchOption}
use Rattle.plan_witness.specs.Heights.{HasNoStart, IsHighestStart}
use Rattle.plan_witness.proofs.longest.highest_start.Given as goal

abbrev pub invariant-loop-i : goal.invariant-loop-i
invariant-loop-i l = MatchOption l.highest (HasNoStart l.graph l.i) (λ j. IsHighestStart l.graph l.heights l.i j)
