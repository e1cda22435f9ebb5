-- The board is where the rest of the steps follows.
use Rattle.std.proofs.Common.{◌+◌, drop}
use Rattle.context_plan.specs.Noted.{AreNoted, RetracedOn}
use Rattle.context_plan.specs.Scenes.{IsGuarded, Start, states_at}
use Rattle.context_plan.specs.Sizes.{ClimbsFit}
use Rattle.context_plan.specs.declared.rounds.Way.TheVariants.{Growing}
use Rattle.context_plan.proofs.takers.climb.Given as goal

abbrev pub invariant-loop-step : goal.invariant-loop-step
invariant-loop-step l = (start : Start) → IsGuarded start (l.fn.enc, l.fn.board.slots.items) → ClimbsFit start (states_at (l.fn.enc, l.fn.board.slots.items) l.fn.met) (λ k. states_at (l.fn.enc, l.fn.board.slots.items) (l.fn.takers + k)) → AreNoted Growing start (states_at (l.fn.enc, l.fn.board.slots.items) l.fn.met) l.fn.steps
    → RetracedOn start (l.fn.enc, l.fn.board.slots.items) (l.enc, l.board.slots.items) l.fn.met l.fn.takers (drop l.step-index l.steps)
