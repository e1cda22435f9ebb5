-- By the kind of the step.
use Rattle.std.proofs.Common.{◌≡◌, ◌<◌, ◌∷◌, arith, inl, length, subst}
use Rattle.task_core.specs.Tasks.{action_count}
use Rattle.slot_board.proofs.BoardSlots.{left_with, made_at}
use Rattle.slot_board.specs.declared.steps.Step.{Step}
use Rattle.context_plan.specs.Noted.{HasRetraced}
use Rattle.context_plan.specs.Scenes.{board_of}
use Rattle.context_plan.proofs.RetracedSteps.{grow_fits, grow_ready, next_fits, retraced_advance, retraced_grow}
use Rattle.context_plan.proofs.SceneSteps.{low}
use Rattle.context_plan.proofs.TakerFits.{within_now}
use Rattle.context_plan.proofs.takers.retrace_step.Goals as goal

pub climb_hits-requires-clause-ready : goal.climb_hits-requires-clause-ready
climb_hits-requires-clause-ready c =
    let r = c.requires.ready in
    let h = subst (λ (step : Step). HasRetraced r.0 r.1 r.4.0 (c.args.enc.now, c.args.board.now.slots.items) r.2 c.args.takers r.4.1 r.4.2 (step ∷ r.3)) c.in-Grow.is r.4.3 in
    (r.0, r.4.0, grow_ready r.0 r.1 r.4.0 (c.args.enc.now, c.args.board.now.slots.items) r.2 c.args.takers r.4.1 r.4.2 r.3 c.in-Grow.a h, grow_fits r.0 r.1 r.4.0 (c.args.enc.now, c.args.board.now.slots.items) r.2 c.args.takers r.4.1 r.4.2 _ h r.5)

pub climb_hits-requires-clause-action : goal.climb_hits-requires-clause-action
climb_hits-requires-clause-action c =
    let r = c.requires.ready in
    let h = subst (λ (step : Step). HasRetraced r.0 r.1 r.4.0 (c.args.enc.now, c.args.board.now.slots.items) r.2 c.args.takers r.4.1 r.4.2 (step ∷ r.3)) c.in-Grow.is r.4.3 in
    let e : length c.args.enc.now.actions ≡ action_count r.0.task = (made_at (board_of r.0) c.args.enc.now c.args.board.now.slots.items h.climbs.changed.ready.at).actions in
    let l : c.in-Grow.a.0 < action_count r.0.task = h.follows.1 in
    omega arith

pub returns-in-Grow : goal.returns-in-Grow
returns-in-Grow c start x met rest at fits =
    let h = subst (λ (step : Step). HasRetraced start x at.0 (c.args.enc.now, c.args.board.now.slots.items) met c.args.takers at.1 at.2 (step ∷ rest)) c.in-Grow.is at.3 in
    left_with (board_of start) c.climb_hits.new.enc c.climb_hits.new.board.slots.items _ _ c.climb_hits.result
    (λ climbs. retraced_grow start x at.0 (c.args.enc.now, c.args.board.now.slots.items) (c.climb_hits.new.enc, c.climb_hits.new.board.slots.items) met c.args.takers at.1 at.2 c.in-Grow.a rest h climbs)
    (c.climb_hits.ensures start at.0 (grow_ready start x at.0 (c.args.enc.now, c.args.board.now.slots.items) met c.args.takers at.1 at.2 rest c.in-Grow.a h) (grow_fits start x at.0 (c.args.enc.now, c.args.board.now.slots.items) met c.args.takers at.1 at.2 _ h fits))

pub copy_of-requires-clause-working : goal.copy_of-requires-clause-working
copy_of-requires-clause-working c = let r = c.requires.ready in (board_of r.0, r.4.3.climbs.changed.ready.at)

pub copy_of-requires-clause-place : goal.copy_of-requires-clause-place
copy_of-requires-clause-place c = let r = c.requires.ready in low r.0 (c.args.enc.now, c.args.board.now.slots.items) r.4.3.climbs.changed.ready.at 0 (omega arith)

pub copy_of-requires-clause-from : goal.copy_of-requires-clause-from
copy_of-requires-clause-from c = let r = c.requires.ready in low r.0 (c.args.enc.now, c.args.board.now.slots.items) r.4.3.climbs.changed.ready.at 1 (omega arith)

pub returns-in-Advance : goal.returns-in-Advance
returns-in-Advance c start x met rest at fits =
    let h = subst (λ (step : Step). HasRetraced start x at.0 (c.args.enc.now, c.args.board.now.slots.items) met c.args.takers at.1 at.2 (step ∷ rest)) c.in-Advance.is at.3 in
    let ready = h.climbs.changed.ready.at in
    left_with (board_of start) c.copy_of.new.enc c.copy_of.new.self.slots.items _ _ c.copy_of.result
    (λ m. retraced_advance start x at.0 (c.args.enc.now, c.args.board.now.slots.items) (c.copy_of.new.enc, c.copy_of.new.self.slots.items) met c.args.takers at.1 at.2 rest c.requires.high (within_now start (c.args.enc.now, c.args.board.now.slots.items) c.args.takers ready (omega (arith, c.requires.places))) h m)
    (c.copy_of.ensures (board_of start) ready (inl (next_fits start x at.0 (c.args.enc.now, c.args.board.now.slots.items) met c.args.takers at.1 at.2 rest h fits)))
