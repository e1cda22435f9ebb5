use Rattle.std.proofs.Common.{◌≡◌, map}
use Rattle.std.specs.List.{flat_map}
use Rattle.pddl_system.specs.Outcomes.{under}
use Rattle.ground_task.specs.Drafts.{guard_of, part_tree}
use Rattle.ground_task.proofs.guards.outcome_under.Given as goal

abbrev pub invariant-loop-part : goal.invariant-loop-part
invariant-loop-part l = flat_map part_tree l.parts.items ≡ map (under (guard_of l.formula l.scope)) (flat_map part_tree l.yielded)
