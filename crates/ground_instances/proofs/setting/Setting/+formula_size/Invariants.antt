use Rattle.std.proofs.Common.{◌≡◌, ◌+◌, ◌≤◌, drop, map}
use Rattle.ground_instances.specs.Counts.{shown}
use Rattle.ground_instances.specs.Tables.{setting_in}
use Rattle.pddl_ast.specs.Trees.{formula_row}
use Rattle.pddl_ast.specs.Values.{formula_value}
use Rattle.pddl_system.specs.Sizes.{formula_size, formulas_size}
use Rattle.ground_instances.proofs.setting.Setting.+formula_size.Given as goal

abbrev pub invariant-loop-part : goal.invariant-loop-part
invariant-loop-part l = record {
  within : l.size ≤ 1000001;
  total : shown (l.size + formulas_size (setting_in l.self).objects (formula_row (map formula_value (drop l.part-index l.part-items))))
      ≡ shown (formula_size (setting_in l.self).objects (formula_value l.formula));
}
