-- No state so far has a true fluent from n on.
use Rattle.std.proofs.Common.{ℕ}
use Rattle.std.specs.List.{All}
use Rattle.task_core.specs.States.{IsWithin}
use Rattle.control_command.specs.Followed.{AreReachedWithin}
use Rattle.control_command.proofs.followed.Followed.begin.Given as goal

abbrev pub invariant-loop-state : goal.invariant-loop-state
invariant-loop-state l = record {
  within : (n : ℕ) → All (IsWithin n) l.states → AreReachedWithin n l.followed.places.items;
}
