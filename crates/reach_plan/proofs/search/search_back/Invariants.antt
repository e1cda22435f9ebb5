-- The layer is one of the goal's, and no layer before it holds every initial state.
use Rattle.reach_plan.specs.WorkingSets.{BoundsReachSets}
use Rattle.std.proofs.Common.{ℕ}
use Rattle.slot_board.specs.Board.{HasNothing, Start, set_at}
use Rattle.task_core.specs.Vectors.{all_vectors}
use Rattle.reach_plan.specs.Searches.{HasRound}
use Rattle.reach_plan.proofs.SetLayers.{missed}
use Rattle.reach_plan.proofs.search.search_back.Given as goal

abbrev pub invariant-loop-spent : goal.invariant-loop-spent
invariant-loop-spent l = (start : Start) → HasNothing start l.fn.enc l.fn.board.slots.items → BoundsReachSets start.width l.fn.aim.class start.task → (k : ℕ) × HasRound l.fn.aim.class start l.enc l.board.slots.items k l.steps.items l.spent.items

-- how many states it misses
abbrev pub decreases-loop-spent : goal.decreases-loop-spent
decreases-loop-spent l = missed (set_at l.enc.sets l.board.slots.items 0) (all_vectors l.enc.fluents)
