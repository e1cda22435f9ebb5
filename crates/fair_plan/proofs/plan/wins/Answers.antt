use Rattle.std.proofs.Common.{◌≡◌, ◌∙◌, ℕ, arith, subst}
use Rattle.std.proofs.lemmas.Result.{err_from_is_err_and}
use Rattle.slot_board.specs.Board.{Scene}
use Rattle.slot_board.proofs.Endings.{passed_on}
use Rattle.fair_theory.specs.FairPlans.{sets_of_goal}
use Rattle.fair_plan.specs.Boards.{actions_of}
use Rattle.fair_plan.specs.Goals.{IsFairGoalOver}
use Rattle.fair_plan.specs.Places.{win_place}
use Rattle.fair_plan.proofs.Boards.{actions_are, actions_at, done, in_at, vars_at}
use Rattle.fair_plan.proofs.Goals.{win_in}
use Rattle.fair_plan.proofs.PlanSteps.{test_fits, won_ends}
use Rattle.fair_plan.proofs.plan.wins.Goals as goal

pub begin-requires : goal.begin-requires
begin-requires c = let r = c.requires.ready in (r.0, r.1)

pub returns-in_err-begin : goal.returns-in_err-begin
returns-in_err-begin c origin at count =
    passed_on origin.start c.begin.new.enc c.begin.new.board.slots.items _ _ c.begin.result c.from_residual.result _ c.in_err-begin.was (err_from_is_err_and c.from_residual.result c.from_residual.ensures.1) (c.begin.ensures origin at)

pub win_goal-requires-clause-ready : goal.win_goal-requires-clause-ready
win_goal-requires-clause-ready c =
    let r = c.requires.ready in
    let d0 = done r.0 (c.begin.new.enc, c.begin.new.board.slots.items) _ c.begin.result _ c.in_ok-begin.was (c.begin.ensures r.0 r.1) in
    (r.0, d0.0, r.2)

pub win_goal-requires-clause-actions : goal.win_goal-requires-clause-actions
win_goal-requires-clause-actions c =
    let r = c.requires.ready in
    let d0 = done r.0 (c.begin.new.enc, c.begin.new.board.slots.items) _ c.begin.result _ c.in_ok-begin.was (c.begin.ensures r.0 r.1) in
    actions_at r.0 c.args.enc.now c.begin.new.enc c.args.board.now.slots.items c.begin.new.board.slots.items r.1 d0.0.at c.args.actions c.requires.actions

pub win_goal-requires-clause-goal : goal.win_goal-requires-clause-goal
win_goal-requires-clause-goal c =
    let r = c.requires.ready in
    let d0 = done r.0 (c.begin.new.enc, c.begin.new.board.slots.items) _ c.begin.result _ c.in_ok-begin.was (c.begin.ensures r.0 r.1) in
    subst (λ (n : ℕ). IsFairGoalOver n c.args.goal.now) (vars_at r.0 c.args.enc.now c.begin.new.enc c.args.board.now.slots.items c.begin.new.board.slots.items r.1 d0.0.at) c.requires.goal

pub returns-in_err-win_goal : goal.returns-in_err-win_goal
returns-in_err-win_goal c origin at count =
    let d0 = done origin (c.begin.new.enc, c.begin.new.board.slots.items) _ c.begin.result _ c.in_ok-begin.was (c.begin.ensures origin at) in
    passed_on origin.start c.win_goal.new.enc c.win_goal.new.board.slots.items _ _ c.win_goal.result c.from_residual-in_err-win_goal.result _ c.in_err-win_goal.was (err_from_is_err_and c.from_residual-in_err-win_goal.result c.from_residual-in_err-win_goal.ensures.1) (c.win_goal.ensures origin d0.0 count)

pub covers_initial-requires-clause-working : goal.covers_initial-requires-clause-working
covers_initial-requires-clause-working c =
    let r = c.requires.ready in
    let d0 = done r.0 (c.begin.new.enc, c.begin.new.board.slots.items) _ c.begin.result _ c.in_ok-begin.was (c.begin.ensures r.0 r.1) in
    let d1 = done r.0 (c.win_goal.new.enc, c.win_goal.new.board.slots.items) _ c.win_goal.result _ c.in_ok-win_goal.was (c.win_goal.ensures r.0 d0.0 r.2) in
    (r.0.start, d1.0.at)

pub covers_initial-requires-clause-place : goal.covers_initial-requires-clause-place
covers_initial-requires-clause-place c =
    let r = c.requires.ready in
    let d0 = done r.0 (c.begin.new.enc, c.begin.new.board.slots.items) _ c.begin.result _ c.in_ok-begin.was (c.begin.ensures r.0 r.1) in
    let d1 = done r.0 (c.win_goal.new.enc, c.win_goal.new.board.slots.items) _ c.win_goal.result _ c.in_ok-win_goal.was (c.win_goal.ensures r.0 d0.0 r.2) in
    let n : c.args.actions ≡ actions_of r.0 = actions_at r.0 c.args.enc.now c.begin.new.enc c.args.board.now.slots.items c.begin.new.board.slots.items r.1 d0.0.at c.args.actions c.requires.actions ∙ actions_are r.0 (c.begin.new.enc, c.begin.new.board.slots.items) d0.0 in
    let w = win_in r.0 0 (omega arith) in
    in_at r.0 c.win_goal.new.enc c.win_goal.new.board.slots.items d1.0.at c.win_at.result (omega (arith, c.win_at.ensures))

pub returns : goal.returns
returns c origin at count =
    let y : Scene = (c.win_goal.new.enc, c.win_goal.new.board.slots.items) in
    let d0 = done origin (c.begin.new.enc, c.begin.new.board.slots.items) _ c.begin.result _ c.in_ok-begin.was (c.begin.ensures origin at) in
    let d1 = done origin y _ c.win_goal.result _ c.in_ok-win_goal.was (c.win_goal.ensures origin d0.0 count) in
    let n : c.args.actions ≡ actions_of origin = actions_at origin c.args.enc.now c.begin.new.enc c.args.board.now.slots.items c.begin.new.board.slots.items at d0.0.at c.args.actions c.requires.actions ∙ actions_are origin (c.begin.new.enc, c.begin.new.board.slots.items) d0.0 in
    let is : c.win_at.result ≡ win_place (actions_of origin) 0 = omega (arith, c.win_at.ensures) in
    won_ends origin y c.covers_initial.new.enc (sets_of_goal c.args.goal.now) c.win_at.result (win_place (actions_of origin) 0) c.covers_initial.result is d1.1
    (c.covers_initial.ensures.left origin.start d1.0.at (test_fits origin y c.win_at.result)) (c.covers_initial.ensures.answer origin.start d1.0.at)
