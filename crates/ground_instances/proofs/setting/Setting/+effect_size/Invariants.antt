use Rattle.std.proofs.Common.{◌≡◌, ◌+◌, ◌≤◌, drop, map}
use Rattle.ground_instances.specs.Counts.{shown}
use Rattle.ground_instances.specs.Tables.{setting_in}
use Rattle.pddl_ast.specs.Trees.{effect_row}
use Rattle.pddl_ast.specs.Values.{effect_value}
use Rattle.pddl_system.specs.Sizes.{effect_size, effects_size}
use Rattle.ground_instances.proofs.setting.Setting.+effect_size.Given as goal

abbrev pub invariant-loop-part : goal.invariant-loop-part
invariant-loop-part l = record {
  within : l.size ≤ 1000001;
  total : shown (l.size + effects_size (setting_in l.self).objects (effect_row (map effect_value (drop l.part-index l.part-items))))
      ≡ shown (effect_size (setting_in l.self).objects (effect_value l.effect));
}
