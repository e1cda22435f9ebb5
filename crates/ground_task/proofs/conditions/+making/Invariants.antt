use Rattle.std.proofs.Common.{◌≡◌, ◌++◌, drop, map}
use Rattle.ground_instances.specs.Tables.{setting_in}
use Rattle.pddl_ast.specs.Values.{formula_value}
use Rattle.pddl_system.specs.Objects.{bindings}
use Rattle.pddl_system.specs.Tasks.{condition_of}
use Rattle.ctl_syntax.specs.Conditions.{condition_value}
use Rattle.ground_task.proofs.ConditionLemmas.{each_condition}
use Rattle.ground_task.proofs.conditions.+making.Given as goal

abbrev pub invariant-conditions-loop-formula : goal.invariant-conditions-loop-formula
invariant-conditions-loop-formula l =
    (l.scope.items ≡ l.fn.scope.items)
    × (map condition_value l.conds.items ++ map (λ f. condition_of (setting_in l.setting) l.fluents f l.fn.scope.items) (map formula_value (drop l.formula-index l.formulas))
    ≡ map (λ f. condition_of (setting_in l.setting) l.fluents f l.fn.scope.items) (map formula_value l.formulas))

abbrev pub invariant-conditions_for_each-loop-number : goal.invariant-conditions_for_each-loop-number
invariant-conditions_for_each-loop-number l =
    (l.scope.items ≡ l.fn.scope.items)
    × (map condition_value l.conds.items ++ each_condition (setting_in l.setting) l.fluents (formula_value l.formula) l.fn.scope.items (drop l.number (bindings (setting_in l.setting).objects l.types))
    ≡ each_condition (setting_in l.setting) l.fluents (formula_value l.formula) l.fn.scope.items (bindings (setting_in l.setting).objects l.types))
