use Rattle.std.proofs.Common.{◌≡◌, map}
use Rattle.pddl_system.specs.Outcomes.{under}
use Rattle.ground_task.specs.Drafts.{draft_trees, guard_of}
use Rattle.ground_task.proofs.guards.outcomes_under.Given as goal

abbrev pub invariant-loop-outcome : goal.invariant-loop-outcome
invariant-loop-outcome l = draft_trees l.inner.items ≡ map (map (under (guard_of l.formula l.scope))) (draft_trees l.yielded)
