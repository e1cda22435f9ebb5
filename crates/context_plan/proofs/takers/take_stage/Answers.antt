use Rattle.std.proofs.Common.{◌≡◌, arith, length, subst, sym}
use Rattle.ctl_syntax.specs.Conditions.{states_of}
use Rattle.task_core.specs.Conditions.{holds}
use Rattle.context_plan.specs.Scenes.{board_of, guarded}
use Rattle.context_plan.specs.Noted.{AreStepsFrom}
use Rattle.task_core.specs.Cubes.{SetOfVectors}
use Rattle.context_plan.proofs.SceneSteps.{guard_put, low, same_length, spare_enough}
use Rattle.context_plan.proofs.TakenSteps.{climbed_after, climbs_moved, high_still}
use Rattle.context_plan.proofs.TakerFits.{within_now}
use Rattle.std.proofs.lemmas.Result.{err_from_is_err_and}
use Rattle.slot_board.proofs.BoardSlots.{went, passed, left_with, same_actions}
use Rattle.context_plan.proofs.takers.take_stage.Goals as goal

pub condition-requires-clause-working : goal.condition-requires-clause-working
condition-requires-clause-working c =
    let start = c.requires.ready.0 in
    let at = c.requires.ready.1 in
    (board_of start, at)

pub condition-requires-clause-place : goal.condition-requires-clause-place
condition-requires-clause-place c =
    let start = c.requires.ready.0 in
    let at = c.requires.ready.1 in
    low start (c.args.enc.now, c.args.board.now.slots.items) at 5 (omega arith)

pub condition-requires-clause-fluents : goal.condition-requires-clause-fluents
condition-requires-clause-fluents c =
    c.requires.guard.names

pub condition-requires-clause-shallow : goal.condition-requires-clause-shallow
condition-requires-clause-shallow c =
    c.requires.guard.shallow

pub returns-in_err-condition : goal.returns-in_err-condition
returns-in_err-condition c start at parts fits follows =
    passed (board_of start) c.condition.new.enc c.condition.new.self.slots.items _ _ c.condition.result c.from_residual.result _ c.in_err-condition.was (err_from_is_err_and c.from_residual.result c.from_residual.ensures.1) (c.condition.ensures (board_of start) at (spare_enough start) parts)

pub climb-requires-clause-ready : goal.climb-requires-clause-ready
climb-requires-clause-ready c =
    let start = c.requires.ready.0 in
    let at = c.requires.ready.1 in
    let parts = c.requires.ready.2 in
    let fits = c.requires.ready.3 in
    let w = went (board_of start) c.condition.new.enc c.condition.new.self.slots.items _ c.condition.result _ c.in_ok-condition.was (c.condition.ensures (board_of start) at (spare_enough start) parts) in
    let held = guard_put start (c.args.enc.now, c.args.board.now.slots.items) (c.condition.new.enc, c.condition.new.self.slots.items) (holds c.args.guard.now) w in
    let climbs = climbs_moved start (states_of c.args.guard.now) (c.args.enc.now, c.args.board.now.slots.items) (c.condition.new.enc, c.condition.new.self.slots.items) c.args.at.met c.args.at.takers (holds c.args.guard.now) c.requires.met c.requires.apart (within_now start (c.args.enc.now, c.args.board.now.slots.items) c.args.at.takers at (omega (arith, c.requires.places))) at w fits in
    let follows = c.requires.ready.4 in
    let followed = subst (λ (f : SetOfVectors). AreStepsFrom (guarded start (states_of c.args.guard.now)) f 0 0 c.args.steps.now) (sym (high_still start (c.args.enc.now, c.args.board.now.slots.items) (c.condition.new.enc, c.condition.new.self.slots.items) (holds c.args.guard.now) at w c.args.at.met c.requires.met (omega (arith, c.requires.apart, c.requires.places)))) follows in
    ((guarded start (states_of c.args.guard.now)), held, climbs, followed)

pub climb-requires-clause-places : goal.climb-requires-clause-places
climb-requires-clause-places c =
    let start = c.requires.ready.0 in
    let at = c.requires.ready.1 in
    let parts = c.requires.ready.2 in
    let w = went (board_of start) c.condition.new.enc c.condition.new.self.slots.items _ c.condition.result _ c.in_ok-condition.was (c.condition.ensures (board_of start) at (spare_enough start) parts) in
    let e : length c.condition.new.self.slots.items ≡ length c.args.board.now.slots.items = same_length start (c.args.enc.now, c.args.board.now.slots.items) (c.condition.new.enc, c.condition.new.self.slots.items) at w.at in let a : length c.condition.new.enc.actions ≡ length c.args.enc.now.actions = same_actions (board_of start) c.args.enc.now c.condition.new.enc c.args.board.now.slots.items c.condition.new.self.slots.items at w.at in omega (arith, c.requires.places)

pub returns : goal.returns
returns c start at parts fits follows =
    let w = went (board_of start) c.condition.new.enc c.condition.new.self.slots.items _ c.condition.result _ c.in_ok-condition.was (c.condition.ensures (board_of start) at (spare_enough start) parts) in
    let held = guard_put start (c.args.enc.now, c.args.board.now.slots.items) (c.condition.new.enc, c.condition.new.self.slots.items) (holds c.args.guard.now) w in
    let climbs = climbs_moved start (states_of c.args.guard.now) (c.args.enc.now, c.args.board.now.slots.items) (c.condition.new.enc, c.condition.new.self.slots.items) c.args.at.met c.args.at.takers (holds c.args.guard.now) c.requires.met c.requires.apart (within_now start (c.args.enc.now, c.args.board.now.slots.items) c.args.at.takers at (omega (arith, c.requires.places))) at w fits in
    let followed = subst (λ (f : SetOfVectors). AreStepsFrom (guarded start (states_of c.args.guard.now)) f 0 0 c.args.steps.now) (sym (high_still start (c.args.enc.now, c.args.board.now.slots.items) (c.condition.new.enc, c.condition.new.self.slots.items) (holds c.args.guard.now) at w c.args.at.met c.requires.met (omega (arith, c.requires.apart, c.requires.places)))) follows in
    left_with (board_of start) c.climb.new.enc c.climb.new.board.slots.items _ _ c.climb.result
    (λ z. climbed_after start (states_of c.args.guard.now) (c.args.enc.now, c.args.board.now.slots.items) (c.condition.new.enc, c.condition.new.self.slots.items) (c.climb.new.enc, c.climb.new.board.slots.items) c.args.at.met c.args.at.takers (holds c.args.guard.now) c.requires.met c.requires.apart (within_now start (c.args.enc.now, c.args.board.now.slots.items) c.args.at.takers at (omega (arith, c.requires.places))) at w z)
    (c.climb.ensures (guarded start (states_of c.args.guard.now)) held climbs followed)
