use Rattle.std.proofs.Common.{length}
use Rattle.task_core.specs.Tasks.{action_count, fluent_count}
use Rattle.exec_graph.proofs.Skipped.{match_none}
use Rattle.exec_graph.proofs.rules.next_of_many.Goals as goal

pub returns-in-Some-clause-none_before : goal.returns-in-Some-clause-none_before
returns-in-Some-clause-none_before c =
    match_none c.args.rules.now c.args.index.now (fluent_count c.args.task.now) (action_count c.args.task.now) c.args.state.now c.args.task.now.few_fluents
    c.requires.index c.requires.in_task c.args.from c.in-Some.place c.in-Some.ensures.3

pub returns-in-None-clause-none_before : goal.returns-in-None-clause-none_before
returns-in-None-clause-none_before c =
    match_none c.args.rules.now c.args.index.now (fluent_count c.args.task.now) (action_count c.args.task.now) c.args.state.now c.args.task.now.few_fluents
    c.requires.index c.requires.in_task c.args.from (length c.args.rules.now) c.in-None.ensures
