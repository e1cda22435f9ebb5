use Rattle.std.proofs.Common.{◌∙◌, ap, arith}
use Rattle.ctl_syntax.specs.declared.context_goals.ContextGoal.{ContextGoal}
use Rattle.fair_plan.specs.Goals.{contexts_of}
use Rattle.fair_plan.proofs.Boards.{leaves_with}
use Rattle.fair_plan.proofs.rules.list_goal.Goals as goal
use Rattle.ctl_syntax.specs.GoalSizes.{count_of}

pub returns-in-Until : goal.returns-in-Until
returns-in-Until c origin there =
    let e = c.requires.count ∙ ap (λ (g : ContextGoal). count_of g) c.in-Until.is in
    let f = ap (λ (g : ContextGoal). contexts_of g) c.in-Until.is in
    leaves_with origin (c.list_chain.new.enc, c.list_chain.new.board.slots.items) _ _ c.list_chain.result (λ now lists contexts fit are. lists contexts (omega (arith, e, f, fit)) are) (c.list_chain.ensures origin there)

pub returns-in-Patrol : goal.returns-in-Patrol
returns-in-Patrol c origin there =
    let e = c.requires.count ∙ ap (λ (g : ContextGoal). count_of g) c.in-Patrol.is in
    let f = ap (λ (g : ContextGoal). contexts_of g) c.in-Patrol.is in
    leaves_with origin (c.list_patrol.new.enc, c.list_patrol.new.board.slots.items) _ _ c.list_patrol.result (λ now lists contexts fit are. lists contexts (omega (arith, e, f, fit)) are) (c.list_patrol.ensures origin there)
