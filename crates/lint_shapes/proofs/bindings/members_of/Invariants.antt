-- The members so far are below.
use Rattle.task_core.specs.States.{IsWithin}
use Rattle.lint_shapes.proofs.bindings.members_of.Given as goal

abbrev pub invariant-loop-number : goal.invariant-loop-number
invariant-loop-number l = IsWithin l.number l.members
