use Rattle.std.proofs.Common.{◌≡◌, List, map}
use Rattle.std.specs.List.{flat_map, range_with_len}
use Rattle.plan_rules.specs.Rules.{context_rule_of}
use Rattle.plan_theory.specs.ContextRules.{rules_in_context}
use Rattle.plan_theory.specs.PatrolPrinted.{patrol_nexts, patrol_states}
use Rattle.task_core.specs.declared.conditions.Cond.{Cond}
use Rattle.context_plan.specs.Chains.{visit_sets}
use Rattle.context_plan.specs.PatrolSteps.{HasPatrolTable, ListsPatrol}
use Rattle.context_plan.specs.Scenes.{Start, sys_of}
use Rattle.context_plan.proofs.patrol_rules.list_visits.Given as goal

abbrev pub invariant-loop-visit : goal.invariant-loop-visit
invariant-loop-visit l = (start : Start) (conds : List Cond) → start.stages ≡ l.fn.patrol.visits → HasPatrolTable start conds (l.fn.enc, l.fn.board.slots.items)
    → ListsPatrol start conds (l.enc, l.board.slots.items) (map context_rule_of l.fn.rules.items) (map context_rule_of l.rules.items) (flat_map (rules_in_context (sys_of start) (patrol_states (sys_of start) (visit_sets conds)) (patrol_nexts l.fn.patrol.visits)) (range_with_len 1 l.visit))
