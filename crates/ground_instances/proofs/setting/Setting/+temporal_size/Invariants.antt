use Rattle.std.proofs.Common.{◌≡◌, ◌+◌, ◌≤◌, drop, map}
use Rattle.ground_instances.specs.Counts.{shown}
use Rattle.ground_instances.specs.Tables.{setting_in}
use Rattle.pddl_ast.specs.Trees.{temporal_row}
use Rattle.pddl_ast.specs.Values.{temporal_value}
use Rattle.pddl_system.specs.Sizes.{temporal_size, temporals_size}
use Rattle.ground_instances.proofs.setting.Setting.+temporal_size.Given as goal

abbrev pub invariant-loop-part : goal.invariant-loop-part
invariant-loop-part l = record {
  within : l.size ≤ 1000001;
  total : shown (l.size + temporals_size (setting_in l.self).objects (temporal_row (map temporal_value (drop l.part-index l.part-items))))
      ≡ shown (temporal_size (setting_in l.self).objects (temporal_value l.goal));
}
