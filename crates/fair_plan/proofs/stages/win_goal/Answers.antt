use Rattle.std.proofs.Common.{◌∙◌, List, ap, map, subst, sym}
use Rattle.ctl_syntax.specs.Conditions.{states_of}
use Rattle.ctl_syntax.specs.declared.context_goals.ContextGoal.{ContextGoal}
use Rattle.fair_theory.specs.FairPlans.{sets_of_goal}
use Rattle.fair_theory.specs.FairSets.{IsFairWin, IsLargestFairSet, patrol_asks}
use Rattle.task_core.specs.declared.conditions.Cond.{Cond}
use Rattle.slot_board.specs.Board.{Scene}
use Rattle.fair_plan.specs.Boards.{Leaves, actions_of, states_in, sys_of}
use Rattle.fair_plan.specs.Goals.{IsFairGoalOver, IsPatrolOver}
use Rattle.fair_plan.specs.Places.{win_place}
use Rattle.fair_plan.proofs.stages.win_goal.Goals as goal
use Rattle.ctl_syntax.specs.GoalSizes.{count_of}

pub win_chain-requires-clause-chain : goal.win_chain-requires-clause-chain
win_chain-requires-clause-chain c = subst (λ (g : ContextGoal). IsFairGoalOver c.args.enc.now.sets.vars g) c.in-Until.is c.requires.goal

pub win_chain-requires-clause-count : goal.win_chain-requires-clause-count
win_chain-requires-clause-count c = c.requires.count ∙ ap (λ (g : ContextGoal). count_of g) c.in-Until.is

pub returns-in-Until : goal.returns-in-Until
returns-in-Until c origin there count =
    let y : Scene = (c.win_chain.new.enc, c.win_chain.new.board.slots.items) in
    subst (λ (g : ContextGoal). Leaves origin y (IsFairWin (sys_of origin) (sets_of_goal g) (states_in y (win_place (actions_of origin) 0))) c.win_chain.result) (sym c.in-Until.is) (c.win_chain.ensures origin there count)

pub win_patrol-requires-clause-visits : goal.win_patrol-requires-clause-visits
win_patrol-requires-clause-visits c =
    subst (IsPatrolOver c.args.enc.now.sets.vars) (sym c.as_slice.ensures.value) (subst (λ (g : ContextGoal). IsFairGoalOver c.args.enc.now.sets.vars g) c.in-Patrol.is c.requires.goal)

pub win_patrol-requires-clause-count : goal.win_patrol-requires-clause-count
win_patrol-requires-clause-count c =
    let e = ap (λ (g : ContextGoal). count_of g) c.in-Patrol.is in
    let f = c.as_slice.ensures.value in
    cc

pub returns-in-Patrol : goal.returns-in-Patrol
returns-in-Patrol c origin there count =
    let y : Scene = (c.win_patrol.new.enc, c.win_patrol.new.board.slots.items) in
    subst (λ (g : ContextGoal). Leaves origin y (IsFairWin (sys_of origin) (sets_of_goal g) (states_in y (win_place (actions_of origin) 0))) c.win_patrol.result) (sym c.in-Patrol.is)
    (subst (λ (visits : List Cond). Leaves origin y (IsLargestFairSet (sys_of origin) (patrol_asks (map states_of visits)) (states_in y (win_place (actions_of origin) 0))) c.win_patrol.result) c.as_slice.ensures.value (c.win_patrol.ensures origin there count))
