-- The loop goes on while each alternative so far changes none.
use Rattle.std.proofs.Common.{◌≡◌, drop}
use Rattle.task_core.specs.Initial.{entry_of}
use Rattle.task_core.specs.Unchanged.{changes_none}
use Rattle.task_core.proofs.initial.changes_none.Given as goal

abbrev pub invariant-loop-alternative : goal.invariant-loop-alternative
invariant-loop-alternative l = changes_none l.states (entry_of (drop l.alternative-index l.entry)) ≡ changes_none l.states (entry_of l.entry)
