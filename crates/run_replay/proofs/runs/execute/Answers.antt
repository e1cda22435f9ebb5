use Rattle.std.proofs.Common.{refl, [], map}
use Rattle.std.proofs.lemmas.List.Elements.{All-nil}
use Rattle.std.proofs.lemmas.Result.{err_from_is_err_and}
use Rattle.task_core.specs.Tasks.{action_count, fluent_count}
use Rattle.run_replay.specs.Runs.{IsStepOf}
use Rattle.run_replay.proofs.Telling.{are_told_none}
use Rattle.run_replay.proofs.runs.execute.Goals as goal

pub returns-clause-trace : goal.returns-clause-trace
returns-clause-trace g c = rw c.in_ok-guide.ensures.denotes at c.run_guide.ensures.trace

pub returns-clause-refused : goal.returns-clause-refused
returns-clause-refused g c = rw c.in_ok-guide.ensures.denotes at c.run_guide.ensures.refused

pub returns-in_err-guide-clause-refused : goal.returns-in_err-guide-clause-refused
returns-in_err-guide-clause-refused g c =
    let p = err_from_is_err_and c.from_residual.result c.from_residual.ensures.1 in
    rw (p.1, p.2) (
      [],
      record { later = _; front = refl; taken = refl },
      All-nil (IsStepOf (fluent_count c.args.start.now.task.now) (action_count c.args.start.now.task.now)),
      are_told_none (map (λ monitor. (goal.Monitor-dyn g (monitor.vtable, monitor.value)).shown monitor.value) c.args.monitors.now.items),
    )
