use Rattle.std.proofs.Common.{◌+◌}
use Rattle.context_plan.specs.Scenes.{IsGuarded, Start, states_at}
use Rattle.context_plan.specs.Sizes.{ShareFits}
use Rattle.context_plan.specs.Steps.{Shared}
use Rattle.context_plan.proofs.takers.share.Given as goal

abbrev pub invariant-loop-a : goal.invariant-loop-a
invariant-loop-a l = (start : Start) → IsGuarded start (l.fn.enc, l.fn.board.slots.items) → ShareFits start (states_at (l.fn.enc, l.fn.board.slots.items) 0) (states_at (l.fn.enc, l.fn.board.slots.items) 3) (λ k. states_at (l.fn.enc, l.fn.board.slots.items) (l.fn.takers + k)) → Shared start (l.fn.enc, l.fn.board.slots.items) (l.enc, l.board.slots.items) l.fn.takers l.a
