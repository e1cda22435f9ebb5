use Rattle.std.proofs.Common.{sym, ◌∙◌}
use Rattle.task_core.specs.States.{vector}
use Rattle.task_core.specs.Tasks.{fluent_count, system_of}
use Rattle.plan_rules.specs.Advices.{advice_value}
use Rattle.exec_graph.specs.Moves.{moves_value}
use Rattle.exec_graph.proofs.Executes.{only_refused}
use Rattle.exec_graph.proofs.moves.Moves.add_rule.Goals as goal

pub returns-else-is_executable-clause-value : goal.returns-else-is_executable-clause-value
returns-else-is_executable-clause-value c =
    let n = fluent_count c.args.here.now.task.now in
    only_refused (system_of c.args.here.now.task.now) (vector n c.args.here.now.state.now) (moves_value n c.args.self.now) (advice_value c.args.rule.now)
    (sym c.is_executable.ensures.value ∙ c.if-is_executable.false)
