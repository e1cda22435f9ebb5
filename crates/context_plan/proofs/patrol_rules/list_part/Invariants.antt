use Rattle.std.proofs.Common.{◌≡◌, List, map, suc}
use Rattle.std.specs.List.{flat_map, range_with_len}
use Rattle.plan_rules.specs.Rules.{context_rule_of}
use Rattle.plan_theory.specs.ContextRules.{action_rules}
use Rattle.plan_theory.specs.PatrolPrinted.{patrol_states}
use Rattle.task_core.specs.declared.conditions.Cond.{Cond}
use Rattle.context_plan.specs.Chains.{visit_sets}
use Rattle.context_plan.specs.PatrolSteps.{GoesOn, HasPatrolTable, ListsPatrol}
use Rattle.context_plan.specs.Scenes.{Start, sys_of}
use Rattle.context_plan.proofs.patrol_rules.list_part.Given as goal

abbrev pub invariant-loop-a : goal.invariant-loop-a
invariant-loop-a l = (start : Start) (conds : List Cond) → start.stages ≡ l.fn.patrol.visits → GoesOn (visit_sets conds) l.fn.turn.part (suc l.fn.turn.visit) l.fn.turn.next → HasPatrolTable start conds (l.fn.enc, l.fn.board.slots.items)
    → ListsPatrol start conds (l.enc, l.board.slots.items) (map context_rule_of l.fn.rules.items) (map context_rule_of l.rules.items) (flat_map (action_rules (sys_of start) (patrol_states (sys_of start) (visit_sets conds)) (suc l.fn.turn.visit) l.fn.turn.next) (range_with_len 0 l.a))
