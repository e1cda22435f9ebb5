-- The law is a lemma.
use Rattle.encode_task.proofs.TaskSizes.{kept_bound}
use Rattle.encode_task.proofs.laws.kept_sets_bound_nodes.Goals as goal

pub returns : goal.returns
returns c = kept_bound
