use Rattle.std.proofs.Common.{map, take}
use Rattle.std.specs.Prelude.{All}
use Rattle.plan_certs.specs.Named.{IsSetOf, set_of}
use Rattle.control_command.proofs.refuted.are_sets_of.Given as goal

abbrev pub invariant-loop-set : goal.invariant-loop-set
invariant-loop-set l = All (IsSetOf l.fluents) (map set_of (take l.set-index l.sets))
