use Rattle.std.proofs.Common.{◌≡◌}
use Rattle.pddl_system.specs.Outcomes as plain
use Rattle.ground_task.specs.Drafts.{draft_trees}
use Rattle.ground_task.proofs.products.products.Given as goal

abbrev pub invariant-loop-first : goal.invariant-loop-first
invariant-loop-first l = draft_trees l.products.items ≡ plain.products (draft_trees l.yielded) (draft_trees l.seconds)
