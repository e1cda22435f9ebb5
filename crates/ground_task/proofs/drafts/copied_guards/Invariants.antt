use Rattle.std.proofs.Common.{◌≡◌, ◌++◌, drop}
use Rattle.ground_task.specs.Drafts.{guard_trees}
use Rattle.ground_task.proofs.drafts.copied_guards.Given as goal

abbrev pub invariant-loop-listed : goal.invariant-loop-listed
invariant-loop-listed l = guard_trees l.copies.items ++ guard_trees (drop l.listed-index l.guards) ≡ guard_trees l.guards
