use Rattle.std.proofs.Common.{ap}
use Rattle.task_core.specs.Tasks.{fluent_names, action_names}
use Rattle.plan_rules.specs.Rules.{table, automaton, rules_of, context_rules_of, plain_of}
use Rattle.plan_rules.proofs.Spelled.{task_spells, spelled_if}
use Rattle.plan_rules.proofs.text.write_plan.Goals as goal

pub returns-in-Table-clause-spells : goal.returns-in-Table-clause-spells
returns-in-Table-clause-spells c =
    spelled_if (fluent_names c.args.task.now) (action_names c.args.task.now) (table c.in-Table.table.class (rules_of c.in-Table.table)) (plain_of c.args.plan.now)
    c.write_table.result (ap plain_of c.in-Table.is) (task_spells c.args.task.now c.args.plan.now c.requires.in_task) c.write_table.ensures

pub returns-in-Auto-clause-spells : goal.returns-in-Auto-clause-spells
returns-in-Auto-clause-spells c =
    spelled_if (fluent_names c.args.task.now) (action_names c.args.task.now) (automaton c.in-Auto.automaton.contexts (context_rules_of c.in-Auto.automaton)) (plain_of c.args.plan.now)
    c.write_automaton.result (ap plain_of c.in-Auto.is) (task_spells c.args.task.now c.args.plan.now c.requires.in_task) c.write_automaton.ensures
