use Rattle.std.proofs.Common.{◌≡◌, ◌++◌, drop, map, true}
use Rattle.std.specs.List.{flat_map, list_all}
use Rattle.ground_instances.specs.Tables.{setting_in}
use Rattle.pddl_system.specs.Values.{change_has_literals, change_value}
use Rattle.ground_task.specs.Built.{part_made}
use Rattle.ground_task.proofs.changes.outcome.Given as goal

abbrev pub invariant-loop-part : goal.invariant-loop-part
invariant-loop-part l =
    (flat_map change_value l.changes.items ++ flat_map (part_made (setting_in l.setting) l.fluents) (drop l.part-index l.parts)
    ≡ flat_map (part_made (setting_in l.setting) l.fluents) l.parts)
    × (list_all change_has_literals l.changes.items ≡ true)
