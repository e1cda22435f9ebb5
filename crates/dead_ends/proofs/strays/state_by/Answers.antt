use Rattle.std.proofs.Common.{sym, ◌∙◌}
use Rattle.task_core.specs.States.{vector}
use Rattle.task_core.specs.Tasks.{fluent_count}
use Rattle.dead_ends.proofs.Outcomes.{listed_below, none_after}
use Rattle.dead_ends.proofs.strays.state_by.Goals as goal

pub returns-then-not-is_exec-clause-value : goal.returns-then-not-is_exec-clause-value
returns-then-not-is_exec-clause-value c =
    sym (none_after c.args.task.now (vector (fluent_count c.args.task.now) c.args.before.now) c.args.action.0 c.args.outcome
    (sym c.is_exec.ensures.value ∙ c.if-not-is_exec.true))

pub step-after-requires-clause-action_in_range : goal.step-after-requires-clause-action_in_range
step-after-requires-clause-action_in_range c = listed_below c.args.task.now c.args.action.0 c.args.outcome c.requires.listed
