use Rattle.std.proofs.lemmas.Result.{err_from_is_err_and}
use Rattle.std.proofs.Common.{◌≡◌, arith, length}
use Rattle.task_core.specs.Tasks.{action_count}
use Rattle.cyclic_plan.specs.Stages.{none_taken}
use Rattle.slot_board.proofs.BoardSlots.{made_at, same_actions, went, passed}
use Rattle.cyclic_plan.proofs.Followed.{begun_first}
use Rattle.cyclic_plan.proofs.Premises.{copy_goal}
use Rattle.cyclic_plan.proofs.rounds.first_step.Goals as goal

pub grow-requires-clause-ready : goal.grow-requires-clause-ready
grow-requires-clause-ready c =
    let r = c.requires.ready in
    let now = c.copy_of.new.enc in
    let slots = c.copy_of.new.self.slots.items in
    let m = went r.0 now slots _ c.copy_of.result _ c.in_ok-copy_of.was (c.copy_of.ensures r.0 r.3.round.at (copy_goal r.0 c.args.enc.now c.args.board.now.slots.items r.1 none_taken r.3.round 3)) in
    let all : length c.args.enc.now.actions ≡ action_count r.0.task = (made_at r.0 c.args.enc.now c.args.board.now.slots.items r.3.round.at).actions in
    (r.0, r.1, 0, begun_first r.0 c.args.enc.now now c.args.board.now.slots.items slots r.1 r.2 c.args.steps.now.items c.args.spent.now.items r.3 m c.requires.steps (omega (arith, c.requires.long, c.requires.actions)) (λ a within. c.requires.none a (omega (arith, c.requires.actions))))

pub grow-requires-clause-actions : goal.grow-requires-clause-actions
grow-requires-clause-actions c =
    let r = c.requires.ready in
    let now = c.copy_of.new.enc in
    let slots = c.copy_of.new.self.slots.items in
    let m = went r.0 now slots _ c.copy_of.result _ c.in_ok-copy_of.was (c.copy_of.ensures r.0 r.3.round.at (copy_goal r.0 c.args.enc.now c.args.board.now.slots.items r.1 none_taken r.3.round 3)) in
    let e : length now.actions ≡ length c.args.enc.now.actions = same_actions r.0 c.args.enc.now now c.args.board.now.slots.items slots r.3.round.at m.at in
    omega (arith, c.requires.actions)

pub returns : goal.returns
returns c start left near ready =
    let mid = c.copy_of.new.enc in
    let slots = c.copy_of.new.self.slots.items in
    let m = went start mid slots _ c.copy_of.result _ c.in_ok-copy_of.was (c.copy_of.ensures start ready.round.at (copy_goal start c.args.enc.now c.args.board.now.slots.items left none_taken ready.round 3)) in
    let all : length c.args.enc.now.actions ≡ action_count start.task = (made_at start c.args.enc.now c.args.board.now.slots.items ready.round.at).actions in
    c.grow.ensures start left 0 (begun_first start c.args.enc.now mid c.args.board.now.slots.items slots left near c.args.steps.now.items c.args.spent.now.items ready m c.requires.steps (omega (arith, c.requires.long, c.requires.actions)) (λ a within. c.requires.none a (omega (arith, c.requires.actions))))

pub returns-in_err-copy_of : goal.returns-in_err-copy_of
returns-in_err-copy_of c start left near ready =
    let p = err_from_is_err_and c.from_residual.result c.from_residual.ensures.1 in
    passed start c.copy_of.new.enc c.copy_of.new.self.slots.items _ _ c.copy_of.result c.from_residual.result _ c.in_err-copy_of.was p (c.copy_of.ensures start ready.round.at (copy_goal start c.args.enc.now c.args.board.now.slots.items left none_taken ready.round 3))
