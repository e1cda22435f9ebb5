use Rattle.std.proofs.Common.{sym, subst}
use Rattle.command_base.specs.Values.{bytes_of}
use Rattle.std.specs.Prelude.{IfOk}
use Rattle.task_core.specs.Tasks.{action_names, fluent_names, system_of}
use Rattle.task_core.specs.declared.classes.Class.{Class}
use Rattle.why_command.specs.ToldRuns.{HasMore, IsToldOf}
use Rattle.why_command.proofs.told_runs.with_class.Goals as goal

pub returns-in-Strong : goal.returns-in-Strong
returns-in-Strong c =
    let task = c.args.task.now in
    subst (λ (class : Class). IfOk c.with_told.result (λ after. HasMore (IsToldOf class (system_of task) (fluent_names task) (action_names task)) (bytes_of c.args.text) (bytes_of after)))
    (sym c.in-Strong.is) c.with_told.ensures

pub returns-in-Cyclic : goal.returns-in-Cyclic
returns-in-Cyclic c =
    let task = c.args.task.now in
    subst (λ (class : Class). IfOk c.with_told-in-Cyclic.result (λ after. HasMore (IsToldOf class (system_of task) (fluent_names task) (action_names task)) (bytes_of c.args.text) (bytes_of after)))
    (sym c.in-Cyclic.is) c.with_told-in-Cyclic.ensures
