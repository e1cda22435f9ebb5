use Rattle.std.proofs.Common.{◌≡◌, map}
use Rattle.plan_theory.specs.UntilChains.{UntilSets}
use Rattle.plan_rules.specs.Rules.{context_rule_of}
use Rattle.context_plan.specs.Listing.{ListsStages}
use Rattle.context_plan.specs.Scenes.{Start}
use Rattle.context_plan.specs.Tables.{HasTable}
use Rattle.context_plan.proofs.rules.list_context.Given as goal

abbrev pub invariant-loop-next : goal.invariant-loop-next
invariant-loop-next l = (start : Start) (chain : UntilSets) → start.stages ≡ l.fn.counts.stages → HasTable start (l.fn.enc, l.fn.board.slots.items) chain
    → ListsStages start (l.enc, l.board.slots.items) chain (map context_rule_of l.fn.rules.items) (map context_rule_of l.rules.items) l.fn.stage l.next
