use Rattle.std.proofs.Common.{rules}
use Rattle.task_core.specs.Tasks.{fluent_count}
use Rattle.plan_command.proofs.ContextAnswers.{over_task}
use Rattle.control_command.proofs.context_searches.follow_parts.Goals as goal

pub follow_in_tries-requires-clause-goal : goal.follow_in_tries-requires-clause-goal
follow_in_tries-requires-clause-goal c = over_task (fluent_count c.args.task.now) c.args.goal.now (search rules) (search rules) c.requires.names c.requires.shallow
