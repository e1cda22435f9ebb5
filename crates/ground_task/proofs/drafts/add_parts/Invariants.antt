use Rattle.std.proofs.Common.{◌≡◌, ◌++◌, drop}
use Rattle.std.specs.List.{flat_map}
use Rattle.ground_task.specs.Drafts.{part_tree}
use Rattle.ground_task.proofs.drafts.add_parts.Given as goal

abbrev pub invariant-loop-part : goal.invariant-loop-part
invariant-loop-part l =
    flat_map part_tree l.parts.items ++ flat_map part_tree (drop l.part-index l.more)
    ≡ flat_map part_tree l.fn.parts.items ++ flat_map part_tree l.more
