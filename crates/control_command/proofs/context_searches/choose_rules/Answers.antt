use Rattle.control_command.proofs.Tables.{table_stays}
use Rattle.control_command.proofs.context_searches.choose_rules.Goals as goal

pub returns-clause-table : goal.returns-clause-table
returns-clause-table c =
    table_stays c.args.task.now _ _ _ _ c.args.turn.from.stages c.args.turn.from.number c.args.turn.next c.rule_sets.result c.requires.table c.rule_sets.ensures
