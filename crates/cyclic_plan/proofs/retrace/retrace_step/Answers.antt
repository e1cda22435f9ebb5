-- By the kind of the step.
use Rattle.std.proofs.Common.{◌≡◌, ◌+◌, ◌∷◌, ◌∙◌, arith, length, subst, true}
use Rattle.task_core.specs.Tasks.{action_count}
use Rattle.slot_board.proofs.BoardSlots.{left_with, made_at}
use Rattle.cyclic_plan.specs.Stages.{kept_system, taken_by, takers_within}
use Rattle.cyclic_plan.specs.Steps.{HasRetraced, near_at, next_at}
use Rattle.slot_board.specs.declared.steps.Step.{Step}
use Rattle.cyclic_plan.proofs.Followed.{grow_adds, grow_ready, retraced_advance, retraced_grow}
use Rattle.cyclic_plan.proofs.Premises.{copy_next}
use Rattle.cyclic_plan.proofs.retrace.retrace_step.Goals as goal

pub grow_and_take-requires-clause-ready : goal.grow_and_take-requires-clause-ready
grow_and_take-requires-clause-ready c =
    let r = c.requires.ready in
    let sub = kept_system r.0 r.1 in
    let h = subst (λ (step : Step). HasRetraced r.0 c.args.enc.now c.args.board.now.slots.items r.1 r.2 r.3 (step ∷ r.4)) c.in-Grow.is r.5 in (
      r.0,
      r.1,
      taken_by true sub (near_at r.0 r.1 r.2) (takers_within true sub r.2) c.in-Grow.a.0,
      near_at r.0 r.1 r.2,
      next_at r.0 r.1 r.2 c.in-Grow.a.0,
      grow_ready r.0 c.args.enc.now c.args.board.now.slots.items r.1 r.2 r.3 r.4 c.in-Grow.a h,
      grow_adds r.0 c.args.enc.now c.args.board.now.slots.items r.1 r.2 r.3 r.4 c.in-Grow.a h r.6,
    )

pub grow_and_take-requires-clause-action : goal.grow_and_take-requires-clause-action
grow_and_take-requires-clause-action c =
    let r = c.requires.ready in
    let h = subst (λ (step : Step). HasRetraced r.0 c.args.enc.now c.args.board.now.slots.items r.1 r.2 r.3 (step ∷ r.4)) c.in-Grow.is r.5 in
    let all : length c.args.enc.now.actions ≡ action_count r.0.task = (made_at r.0 c.args.enc.now c.args.board.now.slots.items r.5.by_next.by_near.round.at).actions in
    let l = h.follows.1 in
    omega arith

pub returns-in-Grow : goal.returns-in-Grow
returns-in-Grow c start left k n rest ready small =
    let h = subst (λ (step : Step). HasRetraced start c.args.enc.now c.args.board.now.slots.items left k n (step ∷ rest)) c.in-Grow.is ready in
    left_with start c.grow_and_take.new.enc c.grow_and_take.new.board.slots.items _ _ c.grow_and_take.result
    (λ next. retraced_grow start c.grow_and_take.new.enc c.grow_and_take.new.board.slots.items left k c.in-Grow.a.0 rest h.follows.3 next)
    (c.grow_and_take.ensures start left _ _ _ (grow_ready start c.args.enc.now c.args.board.now.slots.items left k n rest c.in-Grow.a h) (grow_adds start c.args.enc.now c.args.board.now.slots.items left k n rest c.in-Grow.a h small))

pub copy_of-requires-clause-working : goal.copy_of-requires-clause-working
copy_of-requires-clause-working c = let r = c.requires.ready in (r.0, r.5.by_next.by_near.round.at)

pub copy_of-requires-clause-place : goal.copy_of-requires-clause-place
copy_of-requires-clause-place c =
    let h = c.requires.ready.5.by_next.by_near.round in
    let e : length c.args.board.now.slots.items ≡ 7 + action_count c.requires.ready.0.task + action_count c.requires.ready.0.task = h.at.long ∙ h.places in
    omega arith

pub copy_of-requires-clause-from : goal.copy_of-requires-clause-from
copy_of-requires-clause-from c =
    let h = c.requires.ready.5.by_next.by_near.round in
    let e : length c.args.board.now.slots.items ≡ 7 + action_count c.requires.ready.0.task + action_count c.requires.ready.0.task = h.at.long ∙ h.places in
    omega arith

pub returns-in-Advance : goal.returns-in-Advance
returns-in-Advance c start left k n rest ready small =
    let h = subst (λ (step : Step). HasRetraced start c.args.enc.now c.args.board.now.slots.items left k n (step ∷ rest)) c.in-Advance.is ready in
    left_with start c.copy_of.new.enc c.copy_of.new.self.slots.items _ _ c.copy_of.result
    (λ m. retraced_advance start c.args.enc.now c.copy_of.new.enc c.args.board.now.slots.items c.copy_of.new.self.slots.items left k n rest h m)
    (c.copy_of.ensures start ready.by_next.by_near.round.at (copy_next start c.args.enc.now c.args.board.now.slots.items _ _ ready.by_next.by_near.round 3))
