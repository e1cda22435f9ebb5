use Rattle.std.proofs.Common.{◌≡◌, true, List}
use Rattle.plan_theory.specs.Patrols.{covers_patrol}
use Rattle.task_core.specs.declared.conditions.Cond.{Cond}
use Rattle.context_plan.specs.Noted.{NotedLast}
use Rattle.context_plan.specs.PatrolSteps.{HasPatrol}
use Rattle.context_plan.specs.Chains.{visit_sets}
use Rattle.context_plan.specs.Scenes.{Start, sys_of}
use Rattle.context_plan.proofs.visits.take_visits.Given as goal

abbrev pub invariant-loop-i : goal.invariant-loop-i
invariant-loop-i l = (start : Start) (conds : List Cond) → start.stages ≡ l.fn.patrol.visits → HasPatrol start conds (l.fn.enc, l.fn.board.slots.items) 0
    → covers_patrol (sys_of start) (visit_sets conds) ≡ true → NotedLast start conds l.fn.notes → HasPatrol start conds (l.enc, l.board.slots.items) l.i
