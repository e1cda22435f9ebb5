use Rattle.std.proofs.Common.{◌≡◌, length, suc}
use Rattle.plan_theory.specs.UntilChains.{UntilSets}
use Rattle.context_plan.specs.Scenes.{Start}
use Rattle.context_plan.specs.Steps.{HasRest, HasTakers}
use Rattle.context_plan.proofs.rules.rest_at.Given as goal

abbrev pub invariant-loop-stage : goal.invariant-loop-stage
invariant-loop-stage l = (start : Start) (chain : UntilSets) → start.stages ≡ l.fn.stages → length chain.stages ≡ l.fn.stages → HasTakers start (l.fn.enc, l.fn.board.slots.items) chain (suc l.fn.stages)
    → HasRest start (l.enc, l.board.slots.items) chain l.fn.context l.stage
