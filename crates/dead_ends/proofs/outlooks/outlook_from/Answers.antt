use Rattle.std.proofs.Common.{rules}
use Rattle.task_core.specs.States.{vector}
use Rattle.task_core.specs.Tasks.{fluent_count}
use Rattle.dead_ends.proofs.Starts.{none_from, plan_from}
use Rattle.dead_ends.proofs.outlooks.outlook_from.Goals as goal

pub returns-in-Some-Plan-clause-outlook : goal.returns-in-Some-Plan-clause-outlook
returns-in-Some-Plan-clause-outlook g c =
    let found = plan_from c.args.wanted.now.class c.args.task.now c.start_at.new.task (vector (fluent_count c.args.task.now) c.args.state.now) c.start_at.ensures.like c.start_at.ensures.starts in
    search (rules, found)

pub returns-in-Some-NoPlan-clause-outlook : goal.returns-in-Some-NoPlan-clause-outlook
returns-in-Some-NoPlan-clause-outlook g c =
    let found = none_from c.args.wanted.now.class c.args.task.now c.start_at.new.task (vector (fluent_count c.args.task.now) c.args.state.now) c.start_at.ensures.like c.start_at.ensures.starts in
    search (rules, found)
