use Rattle.std.proofs.Common.{◌∙◌}
use Rattle.task_core.proofs.StateLists.{same_as_vectors}
use Rattle.dead_ends.proofs.strays.is_same.Goals as goal

pub returns : goal.returns
returns c = λ n within other. c.is_equal.ensures ∙ same_as_vectors n c.args.state.now c.args.other.now within other
