use Rattle.std.proofs.Common.{refl}
use Rattle.task_core.specs.Tasks.{fluent_count, initial_states}
use Rattle.dead_ends.proofs.Told.{first_of}
use Rattle.dead_ends.proofs.told_runs.first_states.Goals as goal

pub returns-in-Ok-clause-states : goal.returns-in-Ok-clause-states
returns-in-Ok-clause-states c =
    rw c.truncate.ensures.items (first_of (fluent_count c.args.task.now) 64 c.in-Ok.states.items (initial_states c.args.task.now) c.in-Ok.ensures.list)

pub returns-in-Err-TooMany-clause-states : goal.returns-in-Err-TooMany-clause-states
returns-in-Err-TooMany-clause-states c = rw c.new.ensures.items (initial_states c.args.task.now, refl)
