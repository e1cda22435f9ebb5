-- The code computes the definition.
use Rattle.std.proofs.Common.{refl}
use Rattle.dd_nodes.specs.Arena.{mixed, bucket}
use Rattle.dd_nodes.proofs.arena.bucket_of.Goals as goal

pub returns-clause-bucket : goal.returns-clause-bucket
unfolding mixed bucket
returns-clause-bucket c = refl
