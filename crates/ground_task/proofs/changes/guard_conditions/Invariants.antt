use Rattle.std.proofs.Common.{◌≡◌, ◌++◌, drop, map}
use Rattle.ctl_syntax.specs.Conditions.{condition_value}
use Rattle.ground_instances.specs.Tables.{setting_in}
use Rattle.ground_task.specs.Built.{condition_at}
use Rattle.ground_task.specs.Drafts.{guard_trees}
use Rattle.ground_task.proofs.changes.guard_conditions.Given as goal

abbrev pub invariant-loop-guard : goal.invariant-loop-guard
invariant-loop-guard l =
    map condition_value l.conds.items ++ map (condition_at (setting_in l.setting) l.fluents) (guard_trees (drop l.guard-index l.guards))
    ≡ map (condition_at (setting_in l.setting) l.fluents) (guard_trees l.guards)
