use Rattle.std.proofs.Common.{ℕ}
use Rattle.context_plan.specs.Noted.{NotedVisits}
use Rattle.context_plan.specs.PatrolSteps.{HasVisits, IsLeft}
use Rattle.context_plan.specs.Scenes.{Start}
use Rattle.context_plan.proofs.visits.keep_all.Given as goal

abbrev pub invariant-loop-i : goal.invariant-loop-i
invariant-loop-i l = (start : Start) (r : ℕ) → IsLeft start l.fn.visits (l.fn.enc, l.fn.board.slots.items) r → HasVisits start l.fn.visits (l.enc, l.board.slots.items) r l.i × NotedVisits start l.fn.visits r l.i l.notes.items
