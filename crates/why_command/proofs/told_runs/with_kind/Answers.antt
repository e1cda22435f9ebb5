use Rattle.std.proofs.Common.{sym, subst}
use Rattle.command_base.specs.Values.{bytes_of, kind_of}
use Rattle.command_base.specs.declared.words.PlanKind.{PlanKind}
use Rattle.std.specs.Prelude.{IfOk}
use Rattle.task_core.specs.Tasks.{action_names, fluent_names, system_of}
use Rattle.why_command.specs.ToldRuns.{HasMore, IsToldFor}
use Rattle.why_command.proofs.told_runs.with_kind.Goals as goal

pub returns-in-Class : goal.returns-in-Class
returns-in-Class c =
    let task = c.args.task.now in
    subst (λ (kind : PlanKind). IfOk c.with_class.result (λ after. HasMore (IsToldFor (kind_of kind) (system_of task) (fluent_names task) (action_names task)) (bytes_of c.args.text) (bytes_of after)))
    (sym c.in-Class.is) c.with_class.ensures
