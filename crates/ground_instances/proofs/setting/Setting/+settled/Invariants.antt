use Rattle.std.proofs.Common.{◌≡◌, drop, map}
use Rattle.std.specs.Option.{option_map}
use Rattle.ground_instances.specs.Settled.{settled, settled_values, settled_and, settled_or, settled_all, settled_any}
use Rattle.ground_instances.specs.Tables.{setting_in}
use Rattle.ground_instances.specs.Values.{known_value}
use Rattle.pddl_ast.specs.Trees.{formula_row}
use Rattle.pddl_ast.specs.Values.{formula_value}
use Rattle.ground_instances.proofs.setting.Setting.+settled.Given as goal

abbrev pub invariant-loop-part : goal.invariant-loop-part
invariant-loop-part l =
    settled_and (option_map known_value l.known)
    (settled_all (settled_values (setting_in l.self) (formula_row (map formula_value (drop l.part-index l.part-items))) l.scope l.free))
    ≡ settled (setting_in l.self) (formula_value l.formula) l.scope l.free

abbrev pub invariant-loop-part-2 : goal.invariant-loop-part-2
invariant-loop-part-2 l =
    settled_or (option_map known_value l.known)
    (settled_any (settled_values (setting_in l.self) (formula_row (map formula_value (drop l.part-index l.part-items))) l.scope l.free))
    ≡ settled (setting_in l.self) (formula_value l.formula) l.scope l.free
