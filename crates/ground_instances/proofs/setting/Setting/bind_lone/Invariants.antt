use Rattle.std.proofs.Common.{◌≡◌, length}
use Rattle.ground_instances.specs.Kept.{rows_under, IsBegunBy}
use Rattle.ground_instances.specs.Tables.{setting_in}
use Rattle.ground_instances.proofs.setting.Setting.bind_lone.Given as goal

abbrev pub invariant-loop-place : goal.invariant-loop-place
invariant-loop-place l = record {
  place : length l.scope.items ≡ l.place;
  kept : IsBegunBy l.fn.scope.items l.scope.items;
  rows : rows_under (setting_in l.self) l.types l.scope.items ≡ rows_under (setting_in l.self) l.types l.fn.scope.items;
}
