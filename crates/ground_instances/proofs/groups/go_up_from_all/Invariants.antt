use Rattle.std.proofs.Common.{take}
use Rattle.std.specs.Prelude.{All}
use Rattle.ground_instances.specs.Groups.{AreWays, Begins}
use Rattle.ground_instances.proofs.groups.go_up_from_all.Given as goal

abbrev pub invariant-loop-type_id : goal.invariant-loop-type_id
invariant-loop-type_id l = record {
  ways : AreWays l.parents l.seen l.below;
  begun : All (Begins l.seen l.below) (take l.type_id-index l.types);
}
