use Rattle.std.proofs.Common.{◌≡◌, ◌<◌, ◌++◌, [], drop, get_or}
use Rattle.ground_instances.specs.Tables.{setting_in}
use Rattle.pddl_system.specs.Objects.{bindings}
use Rattle.pddl_system.specs.Sizes.{binding_count}
use Rattle.ground_instances.proofs.setting.Setting.bind.Given as goal

abbrev pub invariant-loop-type_id : goal.invariant-loop-type_id
invariant-loop-type_id l = record {
  below : l.below ≡ binding_count (setting_in l.self).objects (drop l.type_id-index l.types);
  rest : l.rest < l.below;
  scope : l.scope.items ++ get_or (bindings (setting_in l.self).objects (drop l.type_id-index l.types)) l.rest []
      ≡ l.fn.scope.items ++ get_or (bindings (setting_in l.self).objects l.types) l.fn.number [];
}
