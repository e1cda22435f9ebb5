use Rattle.ctl_syntax.specs.Conditions.{states_of}
use Rattle.task_core.specs.Conditions.{holds}
use Rattle.context_plan.specs.Scenes.{board_of, guarded}
use Rattle.context_plan.specs.Sizes.{TurnsFit}
use Rattle.context_plan.specs.Steps.{met_by}
use Rattle.context_plan.specs.declared.rounds.Way.TheVariants.{Growing}
use Rattle.context_plan.specs.Noted.{AreStepsFrom}
use Rattle.task_core.specs.Cubes.{SetOfVectors}
use Rattle.context_plan.proofs.SceneSteps.{guard_put, low, same_length, spare_enough}
use Rattle.context_plan.proofs.SizeSteps.{placed_small, turns_fit_first}
use Rattle.context_plan.proofs.WinSteps.{names_still, stage_still, stage_won}
use Rattle.std.proofs.Common.{◌≡◌, arith, inl, length, subst, sym}
use Rattle.std.proofs.lemmas.Result.{err_from_is_err_and}
use Rattle.slot_board.proofs.BoardSlots.{went, same_actions}
use Rattle.slot_board.proofs.Endings.{found_of, passed_on}
use Rattle.context_plan.proofs.wins.win_stage.Goals as goal

pub meet_stage-requires-clause-ready : goal.meet_stage-requires-clause-ready
meet_stage-requires-clause-ready c =
    let start = c.requires.ready.0 in
    let ready = c.requires.ready.1 in
    let fits = c.requires.ready.2 in
    let small = (turns_fit_first Growing (guarded start (states_of c.args.stage.now.guard)) (met_by (c.args.enc.now, c.args.board.now.slots.items) c.args.place c.args.stage.now.target) fits.rounds).itself in
    (start, ready, fits.conditions.target, small)

pub returns-in_err-meet_stage : goal.returns-in_err-meet_stage
returns-in_err-meet_stage c start ready fits =
    let small = (turns_fit_first Growing (guarded start (states_of c.args.stage.now.guard)) (met_by (c.args.enc.now, c.args.board.now.slots.items) c.args.place c.args.stage.now.target) fits.rounds).itself in
    passed_on (board_of start) c.meet_stage.new.enc c.meet_stage.new.board.slots.items _ _ c.meet_stage.result c.from_residual.result _ c.in_err-meet_stage.was (err_from_is_err_and c.from_residual.result c.from_residual.ensures.1) (c.meet_stage.ensures start ready fits.conditions.target small)

pub condition-requires-clause-working : goal.condition-requires-clause-working
condition-requires-clause-working c =
    let start = c.requires.ready.0 in
    let ready = c.requires.ready.1 in
    let fits = c.requires.ready.2 in
    let small = (turns_fit_first Growing (guarded start (states_of c.args.stage.now.guard)) (met_by (c.args.enc.now, c.args.board.now.slots.items) c.args.place c.args.stage.now.target) fits.rounds).itself in
    let m = went (board_of start) c.meet_stage.new.enc c.meet_stage.new.board.slots.items _ c.meet_stage.result _ c.in_ok-meet_stage.was (c.meet_stage.ensures start ready fits.conditions.target small) in
    (board_of start, m.changed.ready.at)

pub condition-requires-clause-place : goal.condition-requires-clause-place
condition-requires-clause-place c =
    let start = c.requires.ready.0 in
    let ready = c.requires.ready.1 in
    let fits = c.requires.ready.2 in
    let small = (turns_fit_first Growing (guarded start (states_of c.args.stage.now.guard)) (met_by (c.args.enc.now, c.args.board.now.slots.items) c.args.place c.args.stage.now.target) fits.rounds).itself in
    let m = went (board_of start) c.meet_stage.new.enc c.meet_stage.new.board.slots.items _ c.meet_stage.result _ c.in_ok-meet_stage.was (c.meet_stage.ensures start ready fits.conditions.target small) in
    low start (c.meet_stage.new.enc, c.meet_stage.new.board.slots.items) m.changed.ready.at 5 (omega arith)

pub condition-requires-clause-fluents : goal.condition-requires-clause-fluents
condition-requires-clause-fluents c =
    let start = c.requires.ready.0 in
    let ready = c.requires.ready.1 in
    let fits = c.requires.ready.2 in
    let small = (turns_fit_first Growing (guarded start (states_of c.args.stage.now.guard)) (met_by (c.args.enc.now, c.args.board.now.slots.items) c.args.place c.args.stage.now.target) fits.rounds).itself in
    let m = went (board_of start) c.meet_stage.new.enc c.meet_stage.new.board.slots.items _ c.meet_stage.result _ c.in_ok-meet_stage.was (c.meet_stage.ensures start ready fits.conditions.target small) in
    names_still start (c.args.enc.now, c.args.board.now.slots.items) (c.meet_stage.new.enc, c.meet_stage.new.board.slots.items) c.args.stage.now.guard ready.at m.changed.ready.at c.requires.guard

pub condition-requires-clause-shallow : goal.condition-requires-clause-shallow
condition-requires-clause-shallow c =
    c.requires.guard.shallow

pub returns-in_err-condition : goal.returns-in_err-condition
returns-in_err-condition c start ready fits =
    let small = (turns_fit_first Growing (guarded start (states_of c.args.stage.now.guard)) (met_by (c.args.enc.now, c.args.board.now.slots.items) c.args.place c.args.stage.now.target) fits.rounds).itself in
    let m = went (board_of start) c.meet_stage.new.enc c.meet_stage.new.board.slots.items _ c.meet_stage.result _ c.in_ok-meet_stage.was (c.meet_stage.ensures start ready fits.conditions.target small) in
    passed_on (board_of start) c.condition.new.enc c.condition.new.self.slots.items _ _ c.condition.result c.from_residual-in_err-condition.result _ c.in_err-condition.was (err_from_is_err_and c.from_residual-in_err-condition.result c.from_residual-in_err-condition.ensures.1) (c.condition.ensures (board_of start) m.changed.ready.at (spare_enough start) fits.conditions.guard)

pub turn_all-requires-clause-ready : goal.turn_all-requires-clause-ready
turn_all-requires-clause-ready c =
    let start = c.requires.ready.0 in
    let ready = c.requires.ready.1 in
    let fits = c.requires.ready.2 in
    let small = (turns_fit_first Growing (guarded start (states_of c.args.stage.now.guard)) (met_by (c.args.enc.now, c.args.board.now.slots.items) c.args.place c.args.stage.now.target) fits.rounds).itself in
    let m = went (board_of start) c.meet_stage.new.enc c.meet_stage.new.board.slots.items _ c.meet_stage.result _ c.in_ok-meet_stage.was (c.meet_stage.ensures start ready fits.conditions.target small) in
    let w = went (board_of start) c.condition.new.enc c.condition.new.self.slots.items _ c.condition.result _ c.in_ok-condition.was (c.condition.ensures (board_of start) m.changed.ready.at (spare_enough start) fits.conditions.guard) in
    let held = guard_put start (c.meet_stage.new.enc, c.meet_stage.new.board.slots.items) (c.condition.new.enc, c.condition.new.self.slots.items) (holds c.args.stage.now.guard) w in
    let here = stage_still start (c.args.enc.now, c.args.board.now.slots.items) (c.meet_stage.new.enc, c.meet_stage.new.board.slots.items) (c.condition.new.enc, c.condition.new.self.slots.items) c.args.place c.args.stage.now c.requires.high c.requires.place ready m w in
    let turns = subst (TurnsFit Growing (guarded start (states_of c.args.stage.now.guard))) (sym here) fits.rounds in
    (guarded start (states_of c.args.stage.now.guard), held, turns)

pub turn_all-requires-clause-actions : goal.turn_all-requires-clause-actions
turn_all-requires-clause-actions c =
    let start = c.requires.ready.0 in
    let ready = c.requires.ready.1 in
    let fits = c.requires.ready.2 in
    let small = (turns_fit_first Growing (guarded start (states_of c.args.stage.now.guard)) (met_by (c.args.enc.now, c.args.board.now.slots.items) c.args.place c.args.stage.now.target) fits.rounds).itself in
    let m = went (board_of start) c.meet_stage.new.enc c.meet_stage.new.board.slots.items _ c.meet_stage.result _ c.in_ok-meet_stage.was (c.meet_stage.ensures start ready fits.conditions.target small) in
    let w = went (board_of start) c.condition.new.enc c.condition.new.self.slots.items _ c.condition.result _ c.in_ok-condition.was (c.condition.ensures (board_of start) m.changed.ready.at (spare_enough start) fits.conditions.guard) in
    let e : length c.condition.new.enc.actions ≡ length c.args.enc.now.actions = same_actions (board_of start) c.args.enc.now c.condition.new.enc c.args.board.now.slots.items c.condition.new.self.slots.items ready.at w.at in omega (arith, c.requires.actions)

pub turn_all-requires-clause-place : goal.turn_all-requires-clause-place
turn_all-requires-clause-place c =
    let start = c.requires.ready.0 in
    let ready = c.requires.ready.1 in
    let fits = c.requires.ready.2 in
    let small = (turns_fit_first Growing (guarded start (states_of c.args.stage.now.guard)) (met_by (c.args.enc.now, c.args.board.now.slots.items) c.args.place c.args.stage.now.target) fits.rounds).itself in
    let m = went (board_of start) c.meet_stage.new.enc c.meet_stage.new.board.slots.items _ c.meet_stage.result _ c.in_ok-meet_stage.was (c.meet_stage.ensures start ready fits.conditions.target small) in
    let w = went (board_of start) c.condition.new.enc c.condition.new.self.slots.items _ c.condition.result _ c.in_ok-condition.was (c.condition.ensures (board_of start) m.changed.ready.at (spare_enough start) fits.conditions.guard) in
    let e : length c.condition.new.self.slots.items ≡ length c.args.board.now.slots.items = same_length start (c.args.enc.now, c.args.board.now.slots.items) (c.condition.new.enc, c.condition.new.self.slots.items) ready.at w.at in omega (arith, c.requires.place)

pub returns-in_err-steps : goal.returns-in_err-steps
returns-in_err-steps c start ready fits =
    let small = (turns_fit_first Growing (guarded start (states_of c.args.stage.now.guard)) (met_by (c.args.enc.now, c.args.board.now.slots.items) c.args.place c.args.stage.now.target) fits.rounds).itself in
    let m = went (board_of start) c.meet_stage.new.enc c.meet_stage.new.board.slots.items _ c.meet_stage.result _ c.in_ok-meet_stage.was (c.meet_stage.ensures start ready fits.conditions.target small) in
    let w = went (board_of start) c.condition.new.enc c.condition.new.self.slots.items _ c.condition.result _ c.in_ok-condition.was (c.condition.ensures (board_of start) m.changed.ready.at (spare_enough start) fits.conditions.guard) in
    let held = guard_put start (c.meet_stage.new.enc, c.meet_stage.new.board.slots.items) (c.condition.new.enc, c.condition.new.self.slots.items) (holds c.args.stage.now.guard) w in
    let here = stage_still start (c.args.enc.now, c.args.board.now.slots.items) (c.meet_stage.new.enc, c.meet_stage.new.board.slots.items) (c.condition.new.enc, c.condition.new.self.slots.items) c.args.place c.args.stage.now c.requires.high c.requires.place ready m w in
    let turns = subst (TurnsFit Growing (guarded start (states_of c.args.stage.now.guard))) (sym here) fits.rounds in
    passed_on (board_of start) c.turn_all.new.enc c.turn_all.new.board.slots.items _ _ c.turn_all.result c.from_residual-in_err-steps.result _ c.in_err-steps.was (err_from_is_err_and c.from_residual-in_err-steps.result c.from_residual-in_err-steps.ensures.1) (c.turn_all.ensures (guarded start (states_of c.args.stage.now.guard)) held turns)

pub copy_of-requires-clause-working : goal.copy_of-requires-clause-working
copy_of-requires-clause-working c =
    let start = c.requires.ready.0 in
    let ready = c.requires.ready.1 in
    let fits = c.requires.ready.2 in
    let small = (turns_fit_first Growing (guarded start (states_of c.args.stage.now.guard)) (met_by (c.args.enc.now, c.args.board.now.slots.items) c.args.place c.args.stage.now.target) fits.rounds).itself in
    let m = went (board_of start) c.meet_stage.new.enc c.meet_stage.new.board.slots.items _ c.meet_stage.result _ c.in_ok-meet_stage.was (c.meet_stage.ensures start ready fits.conditions.target small) in
    let w = went (board_of start) c.condition.new.enc c.condition.new.self.slots.items _ c.condition.result _ c.in_ok-condition.was (c.condition.ensures (board_of start) m.changed.ready.at (spare_enough start) fits.conditions.guard) in
    let held = guard_put start (c.meet_stage.new.enc, c.meet_stage.new.board.slots.items) (c.condition.new.enc, c.condition.new.self.slots.items) (holds c.args.stage.now.guard) w in
    let here = stage_still start (c.args.enc.now, c.args.board.now.slots.items) (c.meet_stage.new.enc, c.meet_stage.new.board.slots.items) (c.condition.new.enc, c.condition.new.self.slots.items) c.args.place c.args.stage.now c.requires.high c.requires.place ready m w in
    let turns = subst (TurnsFit Growing (guarded start (states_of c.args.stage.now.guard))) (sym here) fits.rounds in
    let h = found_of (board_of start) c.turn_all.new.enc c.turn_all.new.board.slots.items _ c.turn_all.result _ c.in_ok-steps.was (c.turn_all.ensures (guarded start (states_of c.args.stage.now.guard)) held turns) in
    (board_of start, h.0.worked.ready.at)

pub copy_of-requires-clause-place : goal.copy_of-requires-clause-place
copy_of-requires-clause-place c =
    let start = c.requires.ready.0 in
    let ready = c.requires.ready.1 in
    let fits = c.requires.ready.2 in
    let small = (turns_fit_first Growing (guarded start (states_of c.args.stage.now.guard)) (met_by (c.args.enc.now, c.args.board.now.slots.items) c.args.place c.args.stage.now.target) fits.rounds).itself in
    let m = went (board_of start) c.meet_stage.new.enc c.meet_stage.new.board.slots.items _ c.meet_stage.result _ c.in_ok-meet_stage.was (c.meet_stage.ensures start ready fits.conditions.target small) in
    let w = went (board_of start) c.condition.new.enc c.condition.new.self.slots.items _ c.condition.result _ c.in_ok-condition.was (c.condition.ensures (board_of start) m.changed.ready.at (spare_enough start) fits.conditions.guard) in
    let held = guard_put start (c.meet_stage.new.enc, c.meet_stage.new.board.slots.items) (c.condition.new.enc, c.condition.new.self.slots.items) (holds c.args.stage.now.guard) w in
    let here = stage_still start (c.args.enc.now, c.args.board.now.slots.items) (c.meet_stage.new.enc, c.meet_stage.new.board.slots.items) (c.condition.new.enc, c.condition.new.self.slots.items) c.args.place c.args.stage.now c.requires.high c.requires.place ready m w in
    let turns = subst (TurnsFit Growing (guarded start (states_of c.args.stage.now.guard))) (sym here) fits.rounds in
    let h = found_of (board_of start) c.turn_all.new.enc c.turn_all.new.board.slots.items _ c.turn_all.result _ c.in_ok-steps.was (c.turn_all.ensures (guarded start (states_of c.args.stage.now.guard)) held turns) in
    let e : length c.turn_all.new.board.slots.items ≡ length c.args.board.now.slots.items = same_length start (c.args.enc.now, c.args.board.now.slots.items) (c.turn_all.new.enc, c.turn_all.new.board.slots.items) ready.at h.0.worked.ready.at in omega (arith, c.requires.place)

pub copy_of-requires-clause-from : goal.copy_of-requires-clause-from
copy_of-requires-clause-from c =
    let start = c.requires.ready.0 in
    let ready = c.requires.ready.1 in
    let fits = c.requires.ready.2 in
    let small = (turns_fit_first Growing (guarded start (states_of c.args.stage.now.guard)) (met_by (c.args.enc.now, c.args.board.now.slots.items) c.args.place c.args.stage.now.target) fits.rounds).itself in
    let m = went (board_of start) c.meet_stage.new.enc c.meet_stage.new.board.slots.items _ c.meet_stage.result _ c.in_ok-meet_stage.was (c.meet_stage.ensures start ready fits.conditions.target small) in
    let w = went (board_of start) c.condition.new.enc c.condition.new.self.slots.items _ c.condition.result _ c.in_ok-condition.was (c.condition.ensures (board_of start) m.changed.ready.at (spare_enough start) fits.conditions.guard) in
    let held = guard_put start (c.meet_stage.new.enc, c.meet_stage.new.board.slots.items) (c.condition.new.enc, c.condition.new.self.slots.items) (holds c.args.stage.now.guard) w in
    let here = stage_still start (c.args.enc.now, c.args.board.now.slots.items) (c.meet_stage.new.enc, c.meet_stage.new.board.slots.items) (c.condition.new.enc, c.condition.new.self.slots.items) c.args.place c.args.stage.now c.requires.high c.requires.place ready m w in
    let turns = subst (TurnsFit Growing (guarded start (states_of c.args.stage.now.guard))) (sym here) fits.rounds in
    let h = found_of (board_of start) c.turn_all.new.enc c.turn_all.new.board.slots.items _ c.turn_all.result _ c.in_ok-steps.was (c.turn_all.ensures (guarded start (states_of c.args.stage.now.guard)) held turns) in
    low start (c.turn_all.new.enc, c.turn_all.new.board.slots.items) h.0.worked.ready.at 0 (omega arith)

pub returns : goal.returns
returns c start ready fits =
    let small = (turns_fit_first Growing (guarded start (states_of c.args.stage.now.guard)) (met_by (c.args.enc.now, c.args.board.now.slots.items) c.args.place c.args.stage.now.target) fits.rounds).itself in
    let m = went (board_of start) c.meet_stage.new.enc c.meet_stage.new.board.slots.items _ c.meet_stage.result _ c.in_ok-meet_stage.was (c.meet_stage.ensures start ready fits.conditions.target small) in
    let w = went (board_of start) c.condition.new.enc c.condition.new.self.slots.items _ c.condition.result _ c.in_ok-condition.was (c.condition.ensures (board_of start) m.changed.ready.at (spare_enough start) fits.conditions.guard) in
    let held = guard_put start (c.meet_stage.new.enc, c.meet_stage.new.board.slots.items) (c.condition.new.enc, c.condition.new.self.slots.items) (holds c.args.stage.now.guard) w in
    let here = stage_still start (c.args.enc.now, c.args.board.now.slots.items) (c.meet_stage.new.enc, c.meet_stage.new.board.slots.items) (c.condition.new.enc, c.condition.new.self.slots.items) c.args.place c.args.stage.now c.requires.high c.requires.place ready m w in
    let turns = subst (TurnsFit Growing (guarded start (states_of c.args.stage.now.guard))) (sym here) fits.rounds in
    let h = found_of (board_of start) c.turn_all.new.enc c.turn_all.new.board.slots.items _ c.turn_all.result _ c.in_ok-steps.was (c.turn_all.ensures (guarded start (states_of c.args.stage.now.guard)) held turns) in
    let z = went (board_of start) c.copy_of.new.enc c.copy_of.new.self.slots.items _ c.copy_of.result _ c.in_ok-copy_of.was (c.copy_of.ensures (board_of start) h.0.worked.ready.at (inl (placed_small start (c.turn_all.new.enc, c.turn_all.new.board.slots.items) h.0.worked.ready.at 0 (low start (c.turn_all.new.enc, c.turn_all.new.board.slots.items) h.0.worked.ready.at 0 (omega arith)) (inl (omega arith))))) in (
      stage_won start (c.args.enc.now, c.args.board.now.slots.items) (c.meet_stage.new.enc, c.meet_stage.new.board.slots.items) (c.condition.new.enc, c.condition.new.self.slots.items) (c.turn_all.new.enc, c.turn_all.new.board.slots.items) (c.copy_of.new.enc, c.copy_of.new.self.slots.items) c.args.place c.args.stage.now c.requires.high c.requires.place ready m w h.0 z,
      subst (λ (f : SetOfVectors). AreStepsFrom (guarded start (states_of c.args.stage.now.guard)) f 0 0 c.in_ok-steps.steps.items) here h.1,
    )

pub returns-in_err-copy_of : goal.returns-in_err-copy_of
returns-in_err-copy_of c start ready fits =
    let small = (turns_fit_first Growing (guarded start (states_of c.args.stage.now.guard)) (met_by (c.args.enc.now, c.args.board.now.slots.items) c.args.place c.args.stage.now.target) fits.rounds).itself in
    let m = went (board_of start) c.meet_stage.new.enc c.meet_stage.new.board.slots.items _ c.meet_stage.result _ c.in_ok-meet_stage.was (c.meet_stage.ensures start ready fits.conditions.target small) in
    let w = went (board_of start) c.condition.new.enc c.condition.new.self.slots.items _ c.condition.result _ c.in_ok-condition.was (c.condition.ensures (board_of start) m.changed.ready.at (spare_enough start) fits.conditions.guard) in
    let held = guard_put start (c.meet_stage.new.enc, c.meet_stage.new.board.slots.items) (c.condition.new.enc, c.condition.new.self.slots.items) (holds c.args.stage.now.guard) w in
    let here = stage_still start (c.args.enc.now, c.args.board.now.slots.items) (c.meet_stage.new.enc, c.meet_stage.new.board.slots.items) (c.condition.new.enc, c.condition.new.self.slots.items) c.args.place c.args.stage.now c.requires.high c.requires.place ready m w in
    let turns = subst (TurnsFit Growing (guarded start (states_of c.args.stage.now.guard))) (sym here) fits.rounds in
    let h = found_of (board_of start) c.turn_all.new.enc c.turn_all.new.board.slots.items _ c.turn_all.result _ c.in_ok-steps.was (c.turn_all.ensures (guarded start (states_of c.args.stage.now.guard)) held turns) in
    passed_on (board_of start) c.copy_of.new.enc c.copy_of.new.self.slots.items _ _ c.copy_of.result c.from_residual-in_err-copy_of.result _ c.in_err-copy_of.was (err_from_is_err_and c.from_residual-in_err-copy_of.result c.from_residual-in_err-copy_of.ensures.1) (c.copy_of.ensures (board_of start) h.0.worked.ready.at (inl (placed_small start (c.turn_all.new.enc, c.turn_all.new.board.slots.items) h.0.worked.ready.at 0 (low start (c.turn_all.new.enc, c.turn_all.new.board.slots.items) h.0.worked.ready.at 0 (omega arith)) (inl (omega arith)))))
