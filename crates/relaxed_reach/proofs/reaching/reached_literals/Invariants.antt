-- The set has what the task starts with, and nothing that a closed set lacks.
use Rattle.std.proofs.Common.{◌≡◌}
use Rattle.relaxed_reach.specs.Lacking.{lacking}
use Rattle.relaxed_reach.specs.Literals.{LiteralSet, has}
use Rattle.relaxed_reach.specs.Relaxed.{IsPartOf, IsRelaxed, starts}
use Rattle.relaxed_reach.proofs.reaching.reached_literals.Given as goal

abbrev pub invariant-loop-missing : goal.invariant-loop-missing
invariant-loop-missing l = record {
  begun : IsPartOf (starts l.task.init) (has l.literals);
  least : (other : LiteralSet) → IsRelaxed l.task other → IsPartOf (has l.literals) other;
  counted : l.missing ≡ lacking l.limit (has l.literals);
}

abbrev pub decreases-loop-missing : goal.decreases-loop-missing
decreases-loop-missing l = l.missing
