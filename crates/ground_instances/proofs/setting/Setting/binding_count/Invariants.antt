use Rattle.std.proofs.Common.{◌≡◌, ◌*◌, ◌≤◌, drop}
use Rattle.ground_instances.specs.Counts.{shown}
use Rattle.ground_instances.specs.Tables.{setting_in}
use Rattle.pddl_system.specs.Sizes.{binding_count}
use Rattle.ground_instances.proofs.setting.Setting.binding_count.Given as goal

abbrev pub invariant-loop-type_id : goal.invariant-loop-type_id
invariant-loop-type_id l = record {
  within : l.count ≤ 1000001;
  product : shown (l.count * binding_count (setting_in l.self).objects (drop l.type_id-index l.types))
      ≡ shown (binding_count (setting_in l.self).objects l.types);
}
