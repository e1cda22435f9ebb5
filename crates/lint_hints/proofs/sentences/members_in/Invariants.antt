-- The members so far.
use Rattle.std.proofs.Common.{◌≡◌}
use Rattle.task_core.specs.States.{truth}
use Rattle.lint_hints.specs.Sentences.{members_below}
use Rattle.lint_hints.proofs.sentences.members_in.Given as goal

abbrev pub invariant-loop-number : goal.invariant-loop-number
invariant-loop-number l = l.members.items ≡ members_below (truth l.group) l.number
