use Rattle.std.proofs.Common.{◌≡◌, length}
use Rattle.test_states.proofs.goal_tests.followers_in.Given as goal

abbrev pub invariant-loop-number : goal.invariant-loop-number
invariant-loop-number g l = length l.lists.items ≡ l.number
