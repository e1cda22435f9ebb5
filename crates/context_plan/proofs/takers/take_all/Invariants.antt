use Rattle.std.proofs.Common.{◌≡◌, length}
use Rattle.context_plan.specs.Chains.{until_sets}
use Rattle.context_plan.specs.Noted.{NotedStages}
use Rattle.context_plan.specs.Scenes.{Start}
use Rattle.context_plan.specs.Sizes.{SearchFits}
use Rattle.context_plan.specs.Steps.{HasTakers}
use Rattle.context_plan.proofs.takers.take_all.Given as goal

abbrev pub invariant-loop-i : goal.invariant-loop-i
invariant-loop-i l = (start : Start) → start.stages ≡ length l.fn.chain.stages.items → NotedStages start (until_sets l.fn.chain) 0 l.fn.notes → SearchFits start l.fn.chain → HasTakers start (l.fn.enc, l.fn.board.slots.items) (until_sets l.fn.chain) 0 → HasTakers start (l.enc, l.board.slots.items) (until_sets l.fn.chain) l.i
