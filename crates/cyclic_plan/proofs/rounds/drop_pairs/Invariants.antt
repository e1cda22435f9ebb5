use Rattle.std.proofs.Common.{◌≡◌, ℕ, ◌<◌, false}
use Rattle.task_core.specs.Tasks.{system_of}
use Rattle.slot_board.specs.Board.{Start}
use Rattle.cyclic_plan.specs.Rounds.{HasDropped, LosesNone}
use Rattle.cyclic_plan.proofs.rounds.drop_pairs.Given as goal

abbrev pub invariant-loop-a : goal.invariant-loop-a
invariant-loop-a l = (start : Start) (r : ℕ) → HasDropped start l.fn.enc l.fn.board.slots.items r 0
    → HasDropped start l.enc l.board.slots.items r l.a × (l.lost ≡ false → (a : ℕ) → a < l.a → LosesNone (system_of start.task) r a)
