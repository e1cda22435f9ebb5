use Rattle.std.proofs.Common.{subst}
use Rattle.task_core.specs.States.{truth}
use Rattle.task_core.specs.Vectors.{value_of}
use Rattle.mutex_groups.specs.Starts.{Says}
use Rattle.mutex_groups.proofs.starts.starts_with_one.Goals as goal

pub returns-in-OneTrue : goal.returns-in-OneTrue
returns-in-OneTrue c = λ _ v listed.
    subst (λ known. Says known (truth c.args.members.now) (value_of v)) c.in-OneTrue.is (c.known_at_start.ensures v listed)
