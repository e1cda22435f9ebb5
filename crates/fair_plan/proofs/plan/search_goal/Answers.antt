use Rattle.std.proofs.Common.{ℕ, subst}
use Rattle.std.proofs.lemmas.Result.{err_from_is_err_and}
use Rattle.slot_board.specs.Board.{Scene}
use Rattle.slot_board.proofs.Endings.{found_of, passed_on}
use Rattle.fair_theory.specs.FairPlans.{sets_of_goal}
use Rattle.fair_plan.specs.Goals.{IsFairGoalOver}
use Rattle.fair_plan.proofs.Boards.{actions_at, vars_at}
use Rattle.fair_plan.proofs.PlanSteps.{can_be_had, none_answer}
use Rattle.fair_plan.proofs.plan.search_goal.Goals as goal

pub wins-requires-clause-ready : goal.wins-requires-clause-ready
wins-requires-clause-ready c = c.requires.ready

pub returns-in_err-wins : goal.returns-in_err-wins
returns-in_err-wins c origin at count =
    passed_on origin.start c.wins.new.enc c.wins.new.board.slots.items _ _ c.wins.result c.from_residual.result _ c.in_err-wins.was (err_from_is_err_and c.from_residual.result c.from_residual.ensures.1) (c.wins.ensures origin at count)

pub returns-then-not-branch : goal.returns-then-not-branch
returns-then-not-branch c origin at count =
    let y : Scene = (c.wins.new.enc, c.wins.new.board.slots.items) in
    let won = found_of origin.start c.wins.new.enc c.wins.new.board.slots.items _ c.wins.result _ c.in_ok-wins.was (c.wins.ensures origin at count) in
    (won.0, none_answer origin y (sets_of_goal c.args.goal.now) _ won (let f = c.if-not-branch.true in cc))

pub write_plan-requires-clause-ready : goal.write_plan-requires-clause-ready
write_plan-requires-clause-ready c =
    let r = c.requires.ready in
    let won = found_of r.0.start c.wins.new.enc c.wins.new.board.slots.items _ c.wins.result _ c.in_ok-wins.was (c.wins.ensures r.0 r.1 r.2) in
    (r.0, won.0, r.2)

pub write_plan-requires-clause-actions : goal.write_plan-requires-clause-actions
write_plan-requires-clause-actions c =
    let r = c.requires.ready in
    let won = found_of r.0.start c.wins.new.enc c.wins.new.board.slots.items _ c.wins.result _ c.in_ok-wins.was (c.wins.ensures r.0 r.1 r.2) in
    actions_at r.0 c.args.enc.now c.wins.new.enc c.args.board.now.slots.items c.wins.new.board.slots.items r.1 won.0.at c.args.sizes.actions c.requires.actions

pub write_plan-requires-clause-goal : goal.write_plan-requires-clause-goal
write_plan-requires-clause-goal c =
    let r = c.requires.ready in
    let won = found_of r.0.start c.wins.new.enc c.wins.new.board.slots.items _ c.wins.result _ c.in_ok-wins.was (c.wins.ensures r.0 r.1 r.2) in
    subst (λ (n : ℕ). IsFairGoalOver n c.args.goal.now) (vars_at r.0 c.args.enc.now c.wins.new.enc c.args.board.now.slots.items c.wins.new.board.slots.items r.1 won.0.at) c.requires.goal

pub returns-in_err-plan : goal.returns-in_err-plan
returns-in_err-plan c origin at count =
    let won = found_of origin.start c.wins.new.enc c.wins.new.board.slots.items _ c.wins.result _ c.in_ok-wins.was (c.wins.ensures origin at count) in
    passed_on origin.start c.write_plan.new.enc c.write_plan.new.board.slots.items _ _ c.write_plan.result c.from_residual-in_err-plan.result _ c.in_err-plan.was (err_from_is_err_and c.from_residual-in_err-plan.result c.from_residual-in_err-plan.ensures.1) (c.write_plan.ensures origin won.0 count)

pub returns : goal.returns
returns c origin at count =
    let y : Scene = (c.wins.new.enc, c.wins.new.board.slots.items) in
    let won = found_of origin.start c.wins.new.enc c.wins.new.board.slots.items _ c.wins.result _ c.in_ok-wins.was (c.wins.ensures origin at count) in
    let plan = found_of origin.start c.write_plan.new.enc c.write_plan.new.board.slots.items _ c.write_plan.result _ c.in_ok-plan.was (c.write_plan.ensures origin won.0 count) in
    (plan.0, record { had = can_be_had origin y (sets_of_goal c.args.goal.now) _ won (let f = c.if-not-branch.false in cc); in_task = plan.1 })
