use Rattle.std.proofs.Common.{◌≡◌, ◌++◌, drop, map}
use Rattle.ground_instances.specs.Tables.{setting_in}
use Rattle.ground_instances.specs.Partial.{partial_value, partial_values}
use Rattle.ground_instances.specs.Values.{known_value}
use Rattle.pddl_ast.specs.Trees.{formula_row}
use Rattle.pddl_ast.specs.Values.{formula_value}
use Rattle.pddl_system.specs.Objects.{bindings}
use Rattle.pddl_system.specs.ThreeValues.{value_and, value_or, value_of_all, value_of_any}
use Rattle.ground_instances.proofs.setting.Setting.+partial_value.Given as goal

abbrev pub invariant-loop-part : goal.invariant-loop-part
invariant-loop-part l = record {
  known : value_and (known_value l.known)
      (value_of_all (partial_values (setting_in l.self) (formula_row (map formula_value (drop l.part-index l.part-items))) l.fn.scope.items l.free))
      ≡ partial_value (setting_in l.self) (formula_value l.formula) l.fn.scope.items l.free;
  scope : l.scope.items ≡ l.fn.scope.items;
}

abbrev pub invariant-loop-part-2 : goal.invariant-loop-part-2
invariant-loop-part-2 l = record {
  known : value_or (known_value l.known)
      (value_of_any (partial_values (setting_in l.self) (formula_row (map formula_value (drop l.part-index l.part-items))) l.fn.scope.items l.free))
      ≡ partial_value (setting_in l.self) (formula_value l.formula) l.fn.scope.items l.free;
  scope : l.scope.items ≡ l.fn.scope.items;
}

abbrev pub invariant-loop-number : goal.invariant-loop-number
invariant-loop-number l = record {
  known : value_or (known_value l.known)
      (value_of_any (map (λ chosen. partial_value (setting_in l.self) (formula_value l.part.value) (l.fn.scope.items ++ chosen) l.free)
      (drop l.number (bindings (setting_in l.self).objects l.types.items))))
      ≡ partial_value (setting_in l.self) (formula_value l.formula) l.fn.scope.items l.free;
  scope : l.scope.items ≡ l.fn.scope.items;
}

abbrev pub invariant-loop-number-2 : goal.invariant-loop-number-2
invariant-loop-number-2 l = record {
  known : value_and (known_value l.known)
      (value_of_all (map (λ chosen. partial_value (setting_in l.self) (formula_value l.part.value) (l.fn.scope.items ++ chosen) l.free)
      (drop l.number (bindings (setting_in l.self).objects l.types.items))))
      ≡ partial_value (setting_in l.self) (formula_value l.formula) l.fn.scope.items l.free;
  scope : l.scope.items ≡ l.fn.scope.items;
}
