use Rattle.std.proofs.Common.{inr, map}
use Rattle.task_core.specs.Tasks.{action_names, system_of}
use Rattle.replay_command.proofs.ReplayRuns.{ended_run}
use Rattle.replay_command.proofs.replay_command.show_steps.Goals as goal

pub returns-in_ok-write_trace-in-Ok : goal.returns-in_ok-write_trace-in-Ok
returns-in_ok-write_trace-in-Ok g c =
    let task = c.args.start.now.task.now in
    let shown = map (λ monitor. (goal.Monitor-dyn g (monitor.vtable, monitor.value)).shown monitor.value) c.args.monitors.now.items in
    let now = map (λ monitor. (goal.Monitor-dyn g (monitor.vtable, monitor.value)).shown monitor.value) c.execute.new.monitors.items in
    inr (ended_run shown now (system_of task) (action_names task) _ c.in-Ok.trace.steps.items c.in-Ok.trace.end _ c.in_ok-write_trace-in-Ok.field-0.items
    c.in-Ok.ensures.trace c.in-Ok.ensures.in_task c.in-Ok.ensures.tallies (rw c.deref.ensures.value at c.in_ok-write_trace-in-Ok.ensures))
