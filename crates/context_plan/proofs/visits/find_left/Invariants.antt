use Rattle.std.proofs.Common.{◌≡◌, ℕ, length}
use Rattle.context_plan.specs.Noted.{NotedVisits}
use Rattle.context_plan.specs.PatrolSizes.{PatrolFits}
use Rattle.context_plan.specs.PatrolSteps.{HasVisits}
use Rattle.context_plan.specs.Scenes.{HasNothing, Start}
use Rattle.context_plan.proofs.VisitSteps.{still_left}
use Rattle.context_plan.proofs.visits.find_left.Given as goal

abbrev pub invariant-loop-means : goal.invariant-loop-means
invariant-loop-means l = (start : Start) → start.stages ≡ length l.fn.visits → HasNothing start (l.fn.enc, l.fn.board.slots.items) → PatrolFits start l.fn.visits → (r : ℕ) × HasVisits start l.fn.visits (l.enc, l.board.slots.items) r (length l.fn.visits) × NotedVisits start l.fn.visits r (length l.fn.visits) l.notes.items

-- how many states are left
abbrev pub decreases-loop-means : goal.decreases-loop-means
decreases-loop-means l = still_left (l.enc, l.board.slots.items) l.fn.enc.fluents
