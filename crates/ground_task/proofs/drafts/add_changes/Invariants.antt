use Rattle.std.proofs.Common.{◌≡◌, ◌++◌, drop, map}
use Rattle.ground_task.specs.Drafts.{change_tree}
use Rattle.ground_task.proofs.drafts.add_changes.Given as goal

abbrev pub invariant-loop-change : goal.invariant-loop-change
invariant-loop-change l =
    map change_tree l.changes.items ++ map change_tree (drop l.change-index l.more)
    ≡ map change_tree l.fn.changes.items ++ map change_tree l.more
