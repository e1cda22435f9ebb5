use Rattle.std.proofs.Common.{◌≡◌, drop, map}
use Rattle.std.specs.Prelude.{nat_le}
use Rattle.std.specs.List.{list_all}
use Rattle.ground_instances.specs.Tables.{setting_in}
use Rattle.pddl_ast.specs.Trees.{SchemaTree}
use Rattle.pddl_ast.specs.Values.{domain_value, schema_value}
use Rattle.pddl_system.specs.Sizes.{schema_size, most_size}
use Rattle.ground_instances.proofs.setting.Setting.has_small_trees.Given as goal

abbrev pub invariant-loop-schema : goal.invariant-loop-schema
invariant-loop-schema l =
    list_all (λ (s : SchemaTree). nat_le (schema_size (setting_in l.self).objects s) most_size) (map schema_value (drop l.schema-index l.schema-items))
    ≡ list_all (λ (s : SchemaTree). nat_le (schema_size (setting_in l.self).objects s) most_size) (domain_value l.domain).actions
