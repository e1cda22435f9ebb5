use Rattle.std.proofs.Common.{◌≡◌, map}
use Rattle.std.specs.List.{flat_map, range_with_len}
use Rattle.plan_theory.specs.UntilChains.{UntilSets}
use Rattle.plan_theory.specs.ContextRules.{rules_in_context}
use Rattle.plan_theory.specs.UntilPrinted.{until_nexts, until_states}
use Rattle.plan_rules.specs.Rules.{context_rule_of}
use Rattle.context_plan.specs.Listing.{Lists}
use Rattle.context_plan.specs.Scenes.{Start, sys_of}
use Rattle.context_plan.specs.Tables.{HasTable}
use Rattle.context_plan.proofs.rules.list_all.Given as goal

abbrev pub invariant-loop-stage : goal.invariant-loop-stage
invariant-loop-stage l = (start : Start) (chain : UntilSets) → start.stages ≡ l.fn.counts.stages → HasTable start (l.fn.enc, l.fn.board.slots.items) chain
    → Lists start (l.enc, l.board.slots.items) chain (map context_rule_of l.fn.rules.items) (map context_rule_of l.rules.items) (flat_map (rules_in_context (sys_of start) (until_states (sys_of start) chain) (until_nexts chain)) (range_with_len 1 l.stage))
