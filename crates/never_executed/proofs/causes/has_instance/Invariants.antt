-- No action so far is an instance.
use Rattle.std.proofs.Common.{◌≡◌, drop}
use Rattle.std.specs.List.{list_any}
use Rattle.never_executed.specs.NeverRuns.{is_of}
use Rattle.never_executed.proofs.causes.has_instance.Given as goal

abbrev pub invariant-loop-action : goal.invariant-loop-action
invariant-loop-action l = list_any (is_of l.name) (drop l.action-index l.action-items) ≡ list_any (is_of l.name) l.task.actions.items
