use Rattle.std.proofs.Common.{◌≡◌, ◌+◌, ◌≤◌, drop, map}
use Rattle.ground_instances.specs.Counts.{shown}
use Rattle.ground_instances.specs.Tables.{setting_in}
use Rattle.pddl_ast.specs.Values.{domain_value, schema_value}
use Rattle.pddl_system.specs.Sizes.{instance_count}
use Rattle.ground_instances.proofs.setting.Setting.has_few_instances.Given as goal

abbrev pub invariant-loop-schema : goal.invariant-loop-schema
invariant-loop-schema l = record {
  within : l.count ≤ 1000001;
  total : shown (l.count + instance_count (setting_in l.self).objects (map schema_value (drop l.schema-index l.schema-items)))
      ≡ shown (instance_count (setting_in l.self).objects (domain_value l.domain).actions);
}
