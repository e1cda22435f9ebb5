-- A copy of the near states first, then each action.
use Rattle.std.proofs.Common.{◌≡◌, ◌+◌, ◌∙◌, arith, length, subst}
use Rattle.std.proofs.lemmas.Result.{err_from_is_err_and}
use Rattle.slot_board.proofs.BoardSlots.{made_at, passed, same_actions, went}
use Rattle.task_core.specs.Tasks.{action_count}
use Rattle.cyclic_plan.specs.Stages.{none_taken}
use Rattle.cyclic_plan.specs.Steps.{HasGrown}
use Rattle.cyclic_plan.proofs.Followed.{grown_first}
use Rattle.cyclic_plan.proofs.Premises.{copy_near}
use Rattle.cyclic_plan.proofs.rounds.grow.Goals as goal

pub copy_of-requires-clause-working : goal.copy_of-requires-clause-working
copy_of-requires-clause-working c = let r = c.requires.ready in (r.0, r.3.by_near.round.at)

pub copy_of-requires-clause-place : goal.copy_of-requires-clause-place
copy_of-requires-clause-place c =
    let h = c.requires.ready.3.by_near.round in
    let e : length c.args.board.now.slots.items ≡ 7 + action_count c.requires.ready.0.task + action_count c.requires.ready.0.task = h.at.long ∙ h.places in
    omega arith

pub copy_of-requires-clause-from : goal.copy_of-requires-clause-from
copy_of-requires-clause-from c =
    let h = c.requires.ready.3.by_near.round in
    let e : length c.args.board.now.slots.items ≡ 7 + action_count c.requires.ready.0.task + action_count c.requires.ready.0.task = h.at.long ∙ h.places in
    omega arith

pub returns-in_err-copy_of : goal.returns-in_err-copy_of
returns-in_err-copy_of c start left k ready =
    let p = err_from_is_err_and c.from_residual.result c.from_residual.ensures.1 in
    passed start c.copy_of.new.enc c.copy_of.new.self.slots.items _ _ c.copy_of.result c.from_residual.result _ c.in_err-copy_of.was p (c.copy_of.ensures start ready.by_near.round.at (copy_near start c.args.enc.now c.args.board.now.slots.items left none_taken ready.by_near.round 4))

pub loop-a-init : goal.loop-a-init
loop-a-init c start left k ready =
    grown_first start c.args.enc.now c.copy_of.new.enc c.args.board.now.slots.items c.copy_of.new.self.slots.items left k c.args.steps.now.items c.args.spent.now.items ready
    (went start c.copy_of.new.enc c.copy_of.new.self.slots.items _ c.copy_of.result _ c.in_ok-copy_of.was (c.copy_of.ensures start ready.by_near.round.at (copy_near start c.args.enc.now c.args.board.now.slots.items left none_taken ready.by_near.round 4)))

pub grow_by-requires-clause-ready : goal.grow_by-requires-clause-ready
grow_by-requires-clause-ready c = let r = c.requires.ready in (r.0, r.1, r.2, c.loop-a.invariant r.0 r.1 r.2 r.3)

pub grow_by-requires-clause-action : goal.grow_by-requires-clause-action
grow_by-requires-clause-action c =
    let r = c.requires.ready in
    let e : length c.loop-a.enc.actions ≡ length c.args.enc.now.actions = same_actions r.0 c.args.enc.now c.loop-a.enc c.args.board.now.slots.items c.loop-a.board.slots.items r.3.by_near.round.at (c.loop-a.invariant r.0 r.1 r.2 r.3).by_next.by_near.round.at in
    omega (arith, c.requires.actions)

pub grow_by-requires-clause-long : goal.grow_by-requires-clause-long
grow_by-requires-clause-long c =
    let r = c.requires.ready in
    let has = c.loop-a.invariant r.0 r.1 r.2 r.3 in
    let marks : length c.loop-a.spent.items ≡ action_count r.0.task = has.are_spent.long in
    let all : length c.loop-a.enc.actions ≡ action_count r.0.task = (made_at r.0 c.loop-a.enc c.loop-a.board.slots.items has.by_next.by_near.round.at).actions in
    omega arith

pub returns-in_err-grow_by : goal.returns-in_err-grow_by
returns-in_err-grow_by c start left k ready =
    let p = err_from_is_err_and c.from_residual-in_err-grow_by.result c.from_residual-in_err-grow_by.ensures.1 in
    passed start c.grow_by.new.enc c.grow_by.new.board.slots.items _ _ c.grow_by.result c.from_residual-in_err-grow_by.result _ c.in_err-grow_by.was p (c.grow_by.ensures start left k (c.loop-a.invariant start left k ready))

pub loop-a-preserved : goal.loop-a-preserved
loop-a-preserved c start left k ready =
    went start c.grow_by.new.enc c.grow_by.new.board.slots.items _ c.grow_by.result _ c.in_ok-grow_by.was (c.grow_by.ensures start left k (c.loop-a.invariant start left k ready))

pub returns : goal.returns
returns c start left k ready =
    let all : length c.args.enc.now.actions ≡ action_count start.task = (made_at start c.args.enc.now c.args.board.now.slots.items ready.by_near.round.at).actions in
    let e : c.loop-a.a ≡ action_count start.task = omega (arith, c.requires.actions) in
    subst (λ n. HasGrown start c.loop-a.enc c.loop-a.board.slots.items left k n c.loop-a.steps.items c.loop-a.spent.items) e (c.loop-a.invariant start left k ready)
