use Rattle.std.proofs.Common.{◌≡◌, ◌++◌}
use Rattle.ground_task.specs.Drafts.{draft_trees}
use Rattle.ground_task.proofs.outcomes.push_all.Given as goal

abbrev pub invariant-loop-outcome : goal.invariant-loop-outcome
invariant-loop-outcome l = draft_trees l.outcomes.items ≡ draft_trees l.fn.outcomes.items ++ draft_trees l.yielded
