-- No action so far may run.
use Rattle.std.proofs.Common.{◌≡◌, drop, not}
use Rattle.std.specs.List.{list_all}
use Rattle.relaxed_reach.specs.Literals.{has}
use Rattle.never_executed.specs.NeverRuns.{may_run}
use Rattle.never_executed.proofs.finding.never_runs.Given as goal

abbrev pub invariant-loop-action : goal.invariant-loop-action
invariant-loop-action l =
    list_all (λ action. not (may_run (has l.looked.literals.now) l.name action)) (drop l.action-index l.action-items)
    ≡ list_all (λ action. not (may_run (has l.looked.literals.now) l.name action)) l.looked.task.now.actions.items
