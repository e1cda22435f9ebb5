use Rattle.plan_theory.specs.GuardedSets.{anywhere}
use Rattle.dd_sets.specs.LiveSets.{everything}
use Rattle.context_plan.specs.Scenes.{board_of, guarded}
use Rattle.context_plan.specs.Sizes.{TurnsFit}
use Rattle.context_plan.specs.declared.rounds.Way.TheVariants.{Shrinking}
use Rattle.context_plan.proofs.SceneSteps.{guard_put, low, same_length}
use Rattle.context_plan.proofs.SizeSteps.{placed_small}
use Rattle.context_plan.proofs.WinSteps.{end_won, kept_still}
use Rattle.std.proofs.Common.{◌≡◌, arith, inl, length, subst, sym}
use Rattle.std.proofs.lemmas.Result.{err_from_is_err_and}
use Rattle.slot_board.proofs.BoardSlots.{went, left_with, same_actions}
use Rattle.slot_board.proofs.Endings.{found_of, passed_on}
use Rattle.context_plan.proofs.wins.win_end.Goals as goal

pub returns-in_err-keep_states : goal.returns-in_err-keep_states
returns-in_err-keep_states c start ready fits =
    passed_on (board_of start) c.keep_states.new.enc c.keep_states.new.board.slots.items _ _ c.keep_states.result c.from_residual.result _ c.in_err-keep_states.was (err_from_is_err_and c.from_residual.result c.from_residual.ensures.1) (c.keep_states.ensures start ready fits)

pub whole-requires-clause-working : goal.whole-requires-clause-working
whole-requires-clause-working c =
    let start = c.requires.ready.0 in
    let ready = c.requires.ready.1 in
    let fits = c.requires.ready.2 in
    let m = went (board_of start) c.keep_states.new.enc c.keep_states.new.board.slots.items _ c.keep_states.result _ c.in_ok-keep_states.was (c.keep_states.ensures start ready fits) in
    (board_of start, m.changed.ready.at)

pub whole-requires-clause-place : goal.whole-requires-clause-place
whole-requires-clause-place c =
    let start = c.requires.ready.0 in
    let ready = c.requires.ready.1 in
    let fits = c.requires.ready.2 in
    let m = went (board_of start) c.keep_states.new.enc c.keep_states.new.board.slots.items _ c.keep_states.result _ c.in_ok-keep_states.was (c.keep_states.ensures start ready fits) in
    low start (c.keep_states.new.enc, c.keep_states.new.board.slots.items) m.changed.ready.at 5 (omega arith)

pub returns-in_err-whole : goal.returns-in_err-whole
returns-in_err-whole c start ready fits =
    let m = went (board_of start) c.keep_states.new.enc c.keep_states.new.board.slots.items _ c.keep_states.result _ c.in_ok-keep_states.was (c.keep_states.ensures start ready fits) in
    passed_on (board_of start) c.whole.new.enc c.whole.new.self.slots.items _ _ c.whole.result c.from_residual-in_err-whole.result _ c.in_err-whole.was (err_from_is_err_and c.from_residual-in_err-whole.result c.from_residual-in_err-whole.ensures.1) (c.whole.ensures (board_of start) m.changed.ready.at)

pub turn_all-requires-clause-ready : goal.turn_all-requires-clause-ready
turn_all-requires-clause-ready c =
    let start = c.requires.ready.0 in
    let ready = c.requires.ready.1 in
    let fits = c.requires.ready.2 in
    let m = went (board_of start) c.keep_states.new.enc c.keep_states.new.board.slots.items _ c.keep_states.result _ c.in_ok-keep_states.was (c.keep_states.ensures start ready fits) in
    let w = went (board_of start) c.whole.new.enc c.whole.new.self.slots.items _ c.whole.result _ c.in_ok-whole.was (c.whole.ensures (board_of start) m.changed.ready.at) in
    let held = guard_put start (c.keep_states.new.enc, c.keep_states.new.board.slots.items) (c.whole.new.enc, c.whole.new.self.slots.items) everything w in
    let here = kept_still start (c.args.enc.now, c.args.board.now.slots.items) (c.keep_states.new.enc, c.keep_states.new.board.slots.items) (c.whole.new.enc, c.whole.new.self.slots.items) c.args.place c.args.keep.now c.requires.high c.requires.place ready m w in
    let turns = subst (TurnsFit Shrinking (guarded start anywhere)) (sym here) fits.rounds in
    (guarded start anywhere, held, turns)

pub turn_all-requires-clause-actions : goal.turn_all-requires-clause-actions
turn_all-requires-clause-actions c =
    let start = c.requires.ready.0 in
    let ready = c.requires.ready.1 in
    let fits = c.requires.ready.2 in
    let m = went (board_of start) c.keep_states.new.enc c.keep_states.new.board.slots.items _ c.keep_states.result _ c.in_ok-keep_states.was (c.keep_states.ensures start ready fits) in
    let w = went (board_of start) c.whole.new.enc c.whole.new.self.slots.items _ c.whole.result _ c.in_ok-whole.was (c.whole.ensures (board_of start) m.changed.ready.at) in
    let e : length c.whole.new.enc.actions ≡ length c.args.enc.now.actions = same_actions (board_of start) c.args.enc.now c.whole.new.enc c.args.board.now.slots.items c.whole.new.self.slots.items ready w.at in omega (arith, c.requires.actions)

pub turn_all-requires-clause-place : goal.turn_all-requires-clause-place
turn_all-requires-clause-place c =
    let start = c.requires.ready.0 in
    let ready = c.requires.ready.1 in
    let fits = c.requires.ready.2 in
    let m = went (board_of start) c.keep_states.new.enc c.keep_states.new.board.slots.items _ c.keep_states.result _ c.in_ok-keep_states.was (c.keep_states.ensures start ready fits) in
    let w = went (board_of start) c.whole.new.enc c.whole.new.self.slots.items _ c.whole.result _ c.in_ok-whole.was (c.whole.ensures (board_of start) m.changed.ready.at) in
    let e : length c.whole.new.self.slots.items ≡ length c.args.board.now.slots.items = same_length start (c.args.enc.now, c.args.board.now.slots.items) (c.whole.new.enc, c.whole.new.self.slots.items) ready w.at in omega (arith, c.requires.place)

pub returns-in_err-turn_all : goal.returns-in_err-turn_all
returns-in_err-turn_all c start ready fits =
    let m = went (board_of start) c.keep_states.new.enc c.keep_states.new.board.slots.items _ c.keep_states.result _ c.in_ok-keep_states.was (c.keep_states.ensures start ready fits) in
    let w = went (board_of start) c.whole.new.enc c.whole.new.self.slots.items _ c.whole.result _ c.in_ok-whole.was (c.whole.ensures (board_of start) m.changed.ready.at) in
    let held = guard_put start (c.keep_states.new.enc, c.keep_states.new.board.slots.items) (c.whole.new.enc, c.whole.new.self.slots.items) everything w in
    let here = kept_still start (c.args.enc.now, c.args.board.now.slots.items) (c.keep_states.new.enc, c.keep_states.new.board.slots.items) (c.whole.new.enc, c.whole.new.self.slots.items) c.args.place c.args.keep.now c.requires.high c.requires.place ready m w in
    let turns = subst (TurnsFit Shrinking (guarded start anywhere)) (sym here) fits.rounds in
    passed_on (board_of start) c.turn_all.new.enc c.turn_all.new.board.slots.items _ _ c.turn_all.result c.from_residual-in_err-turn_all.result _ c.in_err-turn_all.was (err_from_is_err_and c.from_residual-in_err-turn_all.result c.from_residual-in_err-turn_all.ensures.1) (c.turn_all.ensures (guarded start anywhere) held turns)

pub copy_of-requires-clause-working : goal.copy_of-requires-clause-working
copy_of-requires-clause-working c =
    let start = c.requires.ready.0 in
    let ready = c.requires.ready.1 in
    let fits = c.requires.ready.2 in
    let m = went (board_of start) c.keep_states.new.enc c.keep_states.new.board.slots.items _ c.keep_states.result _ c.in_ok-keep_states.was (c.keep_states.ensures start ready fits) in
    let w = went (board_of start) c.whole.new.enc c.whole.new.self.slots.items _ c.whole.result _ c.in_ok-whole.was (c.whole.ensures (board_of start) m.changed.ready.at) in
    let held = guard_put start (c.keep_states.new.enc, c.keep_states.new.board.slots.items) (c.whole.new.enc, c.whole.new.self.slots.items) everything w in
    let here = kept_still start (c.args.enc.now, c.args.board.now.slots.items) (c.keep_states.new.enc, c.keep_states.new.board.slots.items) (c.whole.new.enc, c.whole.new.self.slots.items) c.args.place c.args.keep.now c.requires.high c.requires.place ready m w in
    let turns = subst (TurnsFit Shrinking (guarded start anywhere)) (sym here) fits.rounds in
    let h = found_of (board_of start) c.turn_all.new.enc c.turn_all.new.board.slots.items _ c.turn_all.result _ c.in_ok-turn_all.was (c.turn_all.ensures (guarded start anywhere) held turns) in
    (board_of start, h.0.worked.ready.at)

pub copy_of-requires-clause-place : goal.copy_of-requires-clause-place
copy_of-requires-clause-place c =
    let start = c.requires.ready.0 in
    let ready = c.requires.ready.1 in
    let fits = c.requires.ready.2 in
    let m = went (board_of start) c.keep_states.new.enc c.keep_states.new.board.slots.items _ c.keep_states.result _ c.in_ok-keep_states.was (c.keep_states.ensures start ready fits) in
    let w = went (board_of start) c.whole.new.enc c.whole.new.self.slots.items _ c.whole.result _ c.in_ok-whole.was (c.whole.ensures (board_of start) m.changed.ready.at) in
    let held = guard_put start (c.keep_states.new.enc, c.keep_states.new.board.slots.items) (c.whole.new.enc, c.whole.new.self.slots.items) everything w in
    let here = kept_still start (c.args.enc.now, c.args.board.now.slots.items) (c.keep_states.new.enc, c.keep_states.new.board.slots.items) (c.whole.new.enc, c.whole.new.self.slots.items) c.args.place c.args.keep.now c.requires.high c.requires.place ready m w in
    let turns = subst (TurnsFit Shrinking (guarded start anywhere)) (sym here) fits.rounds in
    let h = found_of (board_of start) c.turn_all.new.enc c.turn_all.new.board.slots.items _ c.turn_all.result _ c.in_ok-turn_all.was (c.turn_all.ensures (guarded start anywhere) held turns) in
    let e : length c.turn_all.new.board.slots.items ≡ length c.args.board.now.slots.items = same_length start (c.args.enc.now, c.args.board.now.slots.items) (c.turn_all.new.enc, c.turn_all.new.board.slots.items) ready h.0.worked.ready.at in omega (arith, c.requires.place)

pub copy_of-requires-clause-from : goal.copy_of-requires-clause-from
copy_of-requires-clause-from c =
    let start = c.requires.ready.0 in
    let ready = c.requires.ready.1 in
    let fits = c.requires.ready.2 in
    let m = went (board_of start) c.keep_states.new.enc c.keep_states.new.board.slots.items _ c.keep_states.result _ c.in_ok-keep_states.was (c.keep_states.ensures start ready fits) in
    let w = went (board_of start) c.whole.new.enc c.whole.new.self.slots.items _ c.whole.result _ c.in_ok-whole.was (c.whole.ensures (board_of start) m.changed.ready.at) in
    let held = guard_put start (c.keep_states.new.enc, c.keep_states.new.board.slots.items) (c.whole.new.enc, c.whole.new.self.slots.items) everything w in
    let here = kept_still start (c.args.enc.now, c.args.board.now.slots.items) (c.keep_states.new.enc, c.keep_states.new.board.slots.items) (c.whole.new.enc, c.whole.new.self.slots.items) c.args.place c.args.keep.now c.requires.high c.requires.place ready m w in
    let turns = subst (TurnsFit Shrinking (guarded start anywhere)) (sym here) fits.rounds in
    let h = found_of (board_of start) c.turn_all.new.enc c.turn_all.new.board.slots.items _ c.turn_all.result _ c.in_ok-turn_all.was (c.turn_all.ensures (guarded start anywhere) held turns) in
    low start (c.turn_all.new.enc, c.turn_all.new.board.slots.items) h.0.worked.ready.at 0 (omega arith)

pub returns : goal.returns
returns c start ready fits =
    let m = went (board_of start) c.keep_states.new.enc c.keep_states.new.board.slots.items _ c.keep_states.result _ c.in_ok-keep_states.was (c.keep_states.ensures start ready fits) in
    let w = went (board_of start) c.whole.new.enc c.whole.new.self.slots.items _ c.whole.result _ c.in_ok-whole.was (c.whole.ensures (board_of start) m.changed.ready.at) in
    let held = guard_put start (c.keep_states.new.enc, c.keep_states.new.board.slots.items) (c.whole.new.enc, c.whole.new.self.slots.items) everything w in
    let here = kept_still start (c.args.enc.now, c.args.board.now.slots.items) (c.keep_states.new.enc, c.keep_states.new.board.slots.items) (c.whole.new.enc, c.whole.new.self.slots.items) c.args.place c.args.keep.now c.requires.high c.requires.place ready m w in
    let turns = subst (TurnsFit Shrinking (guarded start anywhere)) (sym here) fits.rounds in
    let h = found_of (board_of start) c.turn_all.new.enc c.turn_all.new.board.slots.items _ c.turn_all.result _ c.in_ok-turn_all.was (c.turn_all.ensures (guarded start anywhere) held turns) in
    left_with (board_of start) c.copy_of.new.enc c.copy_of.new.self.slots.items _ _ c.copy_of.result
    (λ z. end_won start (c.args.enc.now, c.args.board.now.slots.items) (c.keep_states.new.enc, c.keep_states.new.board.slots.items) (c.whole.new.enc, c.whole.new.self.slots.items) (c.turn_all.new.enc, c.turn_all.new.board.slots.items) (c.copy_of.new.enc, c.copy_of.new.self.slots.items) c.args.place c.args.keep.now c.requires.high c.requires.place ready m w h.0 z)
    (c.copy_of.ensures (board_of start) h.0.worked.ready.at (inl (placed_small start (c.turn_all.new.enc, c.turn_all.new.board.slots.items) h.0.worked.ready.at 0 (low start (c.turn_all.new.enc, c.turn_all.new.board.slots.items) h.0.worked.ready.at 0 (omega arith)) (inl (omega arith)))))
