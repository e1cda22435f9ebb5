-- The literals of the fluents so far are counted.
use Rattle.std.proofs.Common.{◌≡◌, ◌≤◌, ◌*◌}
use Rattle.relaxed_reach.specs.Lacking.{lacking}
use Rattle.relaxed_reach.specs.Literals.{has}
use Rattle.relaxed_reach.proofs.reaching.missing_count.Given as goal

abbrev pub invariant-loop-number : goal.invariant-loop-number
invariant-loop-number l = record {
  counted : l.missing ≡ lacking l.number (has l.literals);
  few : l.missing ≤ 2 * l.number;
}
