use Rattle.std.proofs.Common.{◌≡◌, map, suc}
use Rattle.std.specs.List.{flat_map, range_with_len}
use Rattle.plan_theory.specs.UntilChains.{UntilSets}
use Rattle.plan_theory.specs.ContextRules.{action_rules}
use Rattle.plan_theory.specs.UntilPrinted.{until_states}
use Rattle.plan_rules.specs.Rules.{context_rule_of}
use Rattle.task_core.specs.Tasks.{action_count}
use Rattle.context_plan.specs.Listing.{ListsTurning}
use Rattle.context_plan.specs.Scenes.{Start, sys_of, takers_place}
use Rattle.context_plan.specs.Tables.{HasTurning}
use Rattle.context_plan.proofs.rules.list_actions.Given as goal

abbrev pub invariant-loop-a : goal.invariant-loop-a
invariant-loop-a l = (start : Start) (chain : UntilSets) → l.fn.takers.first ≡ takers_place (action_count start.task) start.stages l.fn.advance.next → HasTurning start (l.fn.enc, l.fn.board.slots.items) chain l.fn.advance.stage l.fn.advance.next
    → ListsTurning start (l.enc, l.board.slots.items) chain (map context_rule_of l.fn.rules.items) (map context_rule_of l.rules.items) l.fn.advance.stage l.fn.advance.next (flat_map (action_rules (sys_of start) (until_states (sys_of start) chain) (suc l.fn.advance.stage) (suc l.fn.advance.next)) (range_with_len 0 l.a))
