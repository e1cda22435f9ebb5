-- The groups so far.
use Rattle.std.proofs.Common.{◌≡◌}
use Rattle.mutex_groups.specs.Groups.{AreInductive}
use Rattle.lint_shapes.proofs.groups.groups_of.Given as goal

abbrev pub invariant-loop-binding : goal.invariant-loop-binding
invariant-loop-binding l = record {
  groups : AreInductive l.world.task.now l.groups.items;
  kept : l.search.found ≡ l.fn.search.found;
}
