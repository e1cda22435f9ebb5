use Rattle.std.proofs.Common.{◌≡◌, ◌++◌, take}
use Rattle.ground_instances.specs.Entering.{types_of}
use Rattle.ground_instances.proofs.objects.object_types.Given as goal

abbrev pub invariant-loop-constant : goal.invariant-loop-constant
invariant-loop-constant l = l.types.items ≡ types_of (take l.constant-index l.constant-items)

abbrev pub invariant-loop-object : goal.invariant-loop-object
invariant-loop-object l = l.types.items ≡ types_of (l.domain.constants.items ++ take l.object-index l.object-items)
