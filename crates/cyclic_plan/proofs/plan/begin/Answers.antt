use Rattle.task_core.specs.Tasks.{action_count}
use Rattle.std.proofs.lemmas.Result.{err_from_is_err_and}
use Rattle.std.proofs.Common.{◌≡◌, ◌+◌, arith, length, ◌∙◌}
use Rattle.slot_board.proofs.BoardSlots.{left_with, went, passed, made_at, goal_live}
use Rattle.cyclic_plan.proofs.PlanMade.{begun}
use Rattle.cyclic_plan.proofs.Premises.{goal_fits}
use Rattle.cyclic_plan.proofs.plan.begin.Goals as goal

pub copy-requires-clause-live : goal.copy-requires-clause-live
copy-requires-clause-live c = goal_live c.requires.ready.0 c.args.enc.now c.args.board.now.slots.items c.args.goal c.requires.ready.1.at c.requires.goal

pub whole-requires-clause-working : goal.whole-requires-clause-working
whole-requires-clause-working c =
    let r = c.requires.ready in
    (r.0, (went r.0 c.copy.new.enc c.copy.new.self.slots.items _ c.copy.result _ c.in_ok-copy.was (c.copy.ensures r.0 r.1.at (goal_fits r.0 c.args.enc.now c.args.board.now.slots.items c.args.goal r.1 c.requires.goal))).at)

pub returns : goal.returns
returns c start ready =
    let m = went start c.copy.new.enc c.copy.new.self.slots.items _ c.copy.result _ c.in_ok-copy.was (c.copy.ensures start ready.at (goal_fits start c.args.enc.now c.args.board.now.slots.items c.args.goal ready c.requires.goal)) in
    left_with start c.whole.new.enc c.whole.new.self.slots.items _ _ c.whole.result
    (λ w. begun start c.args.enc.now c.copy.new.enc c.whole.new.enc c.args.board.now.slots.items c.copy.new.self.slots.items c.whole.new.self.slots.items c.args.goal ready c.requires.goal m w)
    (c.whole.ensures start m.at)

pub returns-in_err-copy : goal.returns-in_err-copy
returns-in_err-copy c start ready =
    let p = err_from_is_err_and c.from_residual.result c.from_residual.ensures.1 in
    passed start c.copy.new.enc c.copy.new.self.slots.items _ _ c.copy.result c.from_residual.result _ c.in_err-copy.was p (c.copy.ensures start ready.at (goal_fits start c.args.enc.now c.args.board.now.slots.items c.args.goal ready c.requires.goal))

pub whole-requires-clause-place : goal.whole-requires-clause-place
whole-requires-clause-place c =
    let start = c.requires.ready.0 in
    let at = c.requires.ready.1.at in
    let now = (went start c.copy.new.enc c.copy.new.self.slots.items _ c.copy.result _ c.in_ok-copy.was (c.copy.ensures start at (goal_fits start c.args.enc.now c.args.board.now.slots.items c.args.goal c.requires.ready.1 c.requires.goal))).at in
    let e : length c.copy.new.self.slots.items ≡ 7 + action_count start.task + action_count start.task = now.long ∙ c.requires.ready.1.places in
    let actions : length c.args.enc.now.actions ≡ action_count start.task = (made_at start c.args.enc.now c.args.board.now.slots.items at).actions in
    omega (arith)
