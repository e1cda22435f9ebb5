use Rattle.std.proofs.Common.{◌≡◌, length}
use Rattle.context_plan.specs.Chains.{until_sets}
use Rattle.context_plan.specs.Scenes.{IsAt, Start}
use Rattle.context_plan.specs.Sizes.{SearchFits}
use Rattle.context_plan.specs.Noted.{NotedStages}
use Rattle.context_plan.specs.Steps.{HasWins}
use Rattle.context_plan.proofs.wins.win_all.Given as goal

abbrev pub invariant-loop-i : goal.invariant-loop-i
invariant-loop-i l = (start : Start) → IsAt start (l.fn.enc, l.fn.board.slots.items) → start.stages ≡ length l.fn.chain.stages.items → SearchFits start l.fn.chain → HasWins start (l.fn.enc, l.fn.board.slots.items) (l.enc, l.board.slots.items) (until_sets l.fn.chain) l.i × NotedStages start (until_sets l.fn.chain) l.i l.notes.items
