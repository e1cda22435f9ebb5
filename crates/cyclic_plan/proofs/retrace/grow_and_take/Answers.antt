use Rattle.std.proofs.Common.{◌≡◌, ◌+◌, arith, length, refl, ◌∙◌}
use Rattle.std.proofs.lemmas.Result.{err_from_is_err_and}
use Rattle.task_core.specs.Tasks.{action_count}
use Rattle.plan_theory.specs.Layers.{may_lead}
use Rattle.cyclic_plan.specs.Stages.{kept_system}
use Rattle.slot_board.proofs.BoardSlots.{left_with, passed, same_actions, went}
use Rattle.cyclic_plan.proofs.Premises.{joined_fits}
use Rattle.cyclic_plan.proofs.StageSteps.{next_joined}
use Rattle.cyclic_plan.proofs.retrace.grow_and_take.Goals as goal

pub returns-in_err-hit : goal.returns-in_err-hit
returns-in_err-hit c start left taken near next ready small =
    let p = err_from_is_err_and c.from_residual.result c.from_residual.ensures.1 in
    passed start c.hit.new.enc c.hit.new.board.slots.items _ _ c.hit.result c.from_residual.result _ c.in_err-hit.was p (c.hit.ensures start left taken near next ready)

pub take-requires-clause-ready : goal.take-requires-clause-ready
take-requires-clause-ready c =
    let r = c.requires.ready in (
      r.0,
      r.1,
      r.2,
      r.3,
      r.4,
      (λ v. may_lead (kept_system r.0 r.1) r.3 v c.args.a.0),
      went r.0 c.hit.new.enc c.hit.new.board.slots.items _ c.hit.result _ c.in_ok-hit.was (c.hit.ensures r.0 r.1 r.2 r.3 r.4 r.5),
    )

pub take-requires-clause-actions : goal.take-requires-clause-actions
take-requires-clause-actions c =
    let r = c.requires.ready in
    let h = went r.0 c.hit.new.enc c.hit.new.board.slots.items _ c.hit.result _ c.in_ok-hit.was (c.hit.ensures r.0 r.1 r.2 r.3 r.4 r.5) in
    let e : length c.hit.new.enc.actions ≡ length c.args.enc.now.actions = same_actions r.0 c.args.enc.now c.hit.new.enc c.args.board.now.slots.items c.hit.new.board.slots.items r.5.by_near.round.at h.by_next.by_near.round.at in
    omega (arith, c.requires.actions)

pub take-requires-clause-action : goal.take-requires-clause-action
take-requires-clause-action c =
    let r = c.requires.ready in
    let h = went r.0 c.hit.new.enc c.hit.new.board.slots.items _ c.hit.result _ c.in_ok-hit.was (c.hit.ensures r.0 r.1 r.2 r.3 r.4 r.5) in
    let e : length c.hit.new.enc.actions ≡ length c.args.enc.now.actions = same_actions r.0 c.args.enc.now c.hit.new.enc c.args.board.now.slots.items c.hit.new.board.slots.items r.5.by_near.round.at h.by_next.by_near.round.at in
    omega (arith, c.requires.action)

pub returns-in_err-take : goal.returns-in_err-take
returns-in_err-take c start left taken near next ready small =
    let p = err_from_is_err_and c.from_residual-in_err-take.result c.from_residual-in_err-take.ensures.1 in
    let h = went start c.hit.new.enc c.hit.new.board.slots.items _ c.hit.result _ c.in_ok-hit.was (c.hit.ensures start left taken near next ready) in
    passed start c.take.new.enc c.take.new.board.slots.items _ _ c.take.result c.from_residual-in_err-take.result _ c.in_err-take.was p (c.take.ensures start left taken near next _ h (small.1 refl))

pub combine-requires-clause-working : goal.combine-requires-clause-working
combine-requires-clause-working c =
    let r = c.requires.ready in
    let h = went r.0 c.hit.new.enc c.hit.new.board.slots.items _ c.hit.result _ c.in_ok-hit.was (c.hit.ensures r.0 r.1 r.2 r.3 r.4 r.5) in
    let t = went r.0 c.take.new.enc c.take.new.board.slots.items _ c.take.result _ c.in_ok-take.was (c.take.ensures r.0 r.1 r.2 r.3 r.4 _ h (r.6.1 refl)) in
    (r.0, t.by_next.by_near.round.at)

pub combine-requires-clause-place : goal.combine-requires-clause-place
combine-requires-clause-place c =
    let r = c.requires.ready in
    let h = went r.0 c.hit.new.enc c.hit.new.board.slots.items _ c.hit.result _ c.in_ok-hit.was (c.hit.ensures r.0 r.1 r.2 r.3 r.4 r.5) in
    let t = went r.0 c.take.new.enc c.take.new.board.slots.items _ c.take.result _ c.in_ok-take.was (c.take.ensures r.0 r.1 r.2 r.3 r.4 _ h (r.6.1 refl)) in
    let e : length c.take.new.board.slots.items ≡ 7 + action_count r.0.task + action_count r.0.task = t.by_next.by_near.round.at.long ∙ t.by_next.by_near.round.places in
    omega arith

pub combine-requires-clause-a : goal.combine-requires-clause-a
combine-requires-clause-a c = combine-requires-clause-place c

pub combine-requires-clause-b : goal.combine-requires-clause-b
combine-requires-clause-b c =
    let r = c.requires.ready in
    let h = went r.0 c.hit.new.enc c.hit.new.board.slots.items _ c.hit.result _ c.in_ok-hit.was (c.hit.ensures r.0 r.1 r.2 r.3 r.4 r.5) in
    let t = went r.0 c.take.new.enc c.take.new.board.slots.items _ c.take.result _ c.in_ok-take.was (c.take.ensures r.0 r.1 r.2 r.3 r.4 _ h (r.6.1 refl)) in
    let e : length c.take.new.board.slots.items ≡ 7 + action_count r.0.task + action_count r.0.task = t.by_next.by_near.round.at.long ∙ t.by_next.by_near.round.places in
    omega arith

pub returns : goal.returns
returns c start left taken near next ready small =
    let h = went start c.hit.new.enc c.hit.new.board.slots.items _ c.hit.result _ c.in_ok-hit.was (c.hit.ensures start left taken near next ready) in
    let t = went start c.take.new.enc c.take.new.board.slots.items _ c.take.result _ c.in_ok-take.was (c.take.ensures start left taken near next _ h (small.1 refl)) in
    left_with start c.combine.new.enc c.combine.new.self.slots.items _ _ c.combine.result
    (λ m. next_joined start c.take.new.enc c.combine.new.enc c.take.new.board.slots.items c.combine.new.self.slots.items left _ near next _ t m)
    (c.combine.ensures start t.by_next.by_near.round.at (joined_fits start c.take.new.enc c.take.new.board.slots.items 4 left _ near next _ t small.0))
