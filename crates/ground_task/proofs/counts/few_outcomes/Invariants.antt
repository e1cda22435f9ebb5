use Rattle.std.proofs.Common.{◌≡◌, ◌++◌, drop, map}
use Rattle.ground_instances.specs.Tables.{setting_in}
use Rattle.pddl_ast.specs.Values.{schema_value}
use Rattle.ground_task.specs.Capped.{has_few}
use Rattle.ground_task.proofs.counts.few_outcomes.Given as goal

abbrev pub invariant-loop-schema : goal.invariant-loop-schema
invariant-loop-schema l =
    l.few.items ++ map (has_few (setting_in l.setting)) (map schema_value (drop l.schema-index l.schemas))
    ≡ map (has_few (setting_in l.setting)) (map schema_value l.schemas)
