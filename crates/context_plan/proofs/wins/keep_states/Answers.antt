use Rattle.context_plan.proofs.SceneSteps.{low, same_length, spare_enough}
use Rattle.context_plan.proofs.WinFits.{kept_fits, space_fits}
use Rattle.context_plan.proofs.WinSteps.{kept_here, space_holds}
use Rattle.context_plan.specs.Scenes.{board_of}
use Rattle.slot_board.proofs.BoardSlots.{left_with, made_at, passed, went}
use Rattle.std.proofs.Common.{◌≡◌, arith, length}
use Rattle.std.proofs.lemmas.Result.{err_from_is_err_and}
use Rattle.context_plan.proofs.wins.keep_states.Goals as goal

pub condition-requires-clause-working : goal.condition-requires-clause-working
condition-requires-clause-working c = (board_of c.requires.ready.0, c.requires.ready.1)

pub returns-in_err-condition : goal.returns-in_err-condition
returns-in_err-condition c start ready fits =
    let p = err_from_is_err_and c.from_residual.result c.from_residual.ensures.1 in
    passed (board_of start) c.condition.new.enc c.condition.new.self.slots.items _ _ c.condition.result c.from_residual.result _ c.in_err-condition.was p (c.condition.ensures (board_of start) ready (spare_enough start) fits.condition)

pub copy-requires-clause-working : goal.copy-requires-clause-working
copy-requires-clause-working c =
    let start = c.requires.ready.0 in
    let ready = c.requires.ready.1 in
    let fits = c.requires.ready.2 in
    let m = went (board_of start) c.condition.new.enc c.condition.new.self.slots.items _ c.condition.result _ c.in_ok-condition.was (c.condition.ensures (board_of start) ready (spare_enough start) fits.condition) in
    (board_of start, m.at)

pub copy-requires-clause-place : goal.copy-requires-clause-place
copy-requires-clause-place c =
    let start = c.requires.ready.0 in
    let ready = c.requires.ready.1 in
    let fits = c.requires.ready.2 in
    let m = went (board_of start) c.condition.new.enc c.condition.new.self.slots.items _ c.condition.result _ c.in_ok-condition.was (c.condition.ensures (board_of start) ready (spare_enough start) fits.condition) in
    low start (c.condition.new.enc, c.condition.new.self.slots.items) m.at 0 (omega arith)

pub copy-requires-clause-live : goal.copy-requires-clause-live
copy-requires-clause-live c =
    let start = c.requires.ready.0 in
    let ready = c.requires.ready.1 in
    let fits = c.requires.ready.2 in
    let m = went (board_of start) c.condition.new.enc c.condition.new.self.slots.items _ c.condition.result _ c.in_ok-condition.was (c.condition.ensures (board_of start) ready (spare_enough start) fits.condition) in
    (space_holds start.task c.condition.new.enc c.space-space.result (made_at (board_of start) c.condition.new.enc c.condition.new.self.slots.items m.at) c.space-space.ensures).live

pub returns-in_err-copy : goal.returns-in_err-copy
returns-in_err-copy c start ready fits =
    let p = err_from_is_err_and c.from_residual-in_err-copy.result c.from_residual-in_err-copy.ensures.1 in
    let m = went (board_of start) c.condition.new.enc c.condition.new.self.slots.items _ c.condition.result _ c.in_ok-condition.was (c.condition.ensures (board_of start) ready (spare_enough start) fits.condition) in
    passed (board_of start) c.copy.new.enc c.copy.new.self.slots.items _ _ c.copy.result c.from_residual-in_err-copy.result _ c.in_err-copy.was p (c.copy.ensures (board_of start) m.at (space_fits start (c.condition.new.enc, c.condition.new.self.slots.items) c.space-space.result m.at c.space-space.ensures fits.space))

pub combine-requires-clause-working : goal.combine-requires-clause-working
combine-requires-clause-working c =
    let start = c.requires.ready.0 in
    let ready = c.requires.ready.1 in
    let fits = c.requires.ready.2 in
    let m = went (board_of start) c.condition.new.enc c.condition.new.self.slots.items _ c.condition.result _ c.in_ok-condition.was (c.condition.ensures (board_of start) ready (spare_enough start) fits.condition) in
    let k = went (board_of start) c.copy.new.enc c.copy.new.self.slots.items _ c.copy.result _ c.in_ok-copy.was (c.copy.ensures (board_of start) m.at (space_fits start (c.condition.new.enc, c.condition.new.self.slots.items) c.space-space.result m.at c.space-space.ensures fits.space)) in
    (board_of start, k.at)

pub combine-requires-clause-place : goal.combine-requires-clause-place
combine-requires-clause-place c =
    let start = c.requires.ready.0 in
    let ready = c.requires.ready.1 in
    let fits = c.requires.ready.2 in
    let m = went (board_of start) c.condition.new.enc c.condition.new.self.slots.items _ c.condition.result _ c.in_ok-condition.was (c.condition.ensures (board_of start) ready (spare_enough start) fits.condition) in
    let k = went (board_of start) c.copy.new.enc c.copy.new.self.slots.items _ c.copy.result _ c.in_ok-copy.was (c.copy.ensures (board_of start) m.at (space_fits start (c.condition.new.enc, c.condition.new.self.slots.items) c.space-space.result m.at c.space-space.ensures fits.space)) in
    let e : length c.copy.new.self.slots.items ≡ length c.args.board.now.slots.items = same_length start (c.args.enc.now, c.args.board.now.slots.items) (c.copy.new.enc, c.copy.new.self.slots.items) ready k.at in omega (arith, c.requires.place)

pub combine-requires-clause-a : goal.combine-requires-clause-a
combine-requires-clause-a c =
    let start = c.requires.ready.0 in
    let ready = c.requires.ready.1 in
    let fits = c.requires.ready.2 in
    let m = went (board_of start) c.condition.new.enc c.condition.new.self.slots.items _ c.condition.result _ c.in_ok-condition.was (c.condition.ensures (board_of start) ready (spare_enough start) fits.condition) in
    let k = went (board_of start) c.copy.new.enc c.copy.new.self.slots.items _ c.copy.result _ c.in_ok-copy.was (c.copy.ensures (board_of start) m.at (space_fits start (c.condition.new.enc, c.condition.new.self.slots.items) c.space-space.result m.at c.space-space.ensures fits.space)) in
    low start (c.copy.new.enc, c.copy.new.self.slots.items) k.at 0 (omega arith)

pub combine-requires-clause-b : goal.combine-requires-clause-b
combine-requires-clause-b c =
    let start = c.requires.ready.0 in
    let ready = c.requires.ready.1 in
    let fits = c.requires.ready.2 in
    let m = went (board_of start) c.condition.new.enc c.condition.new.self.slots.items _ c.condition.result _ c.in_ok-condition.was (c.condition.ensures (board_of start) ready (spare_enough start) fits.condition) in
    let k = went (board_of start) c.copy.new.enc c.copy.new.self.slots.items _ c.copy.result _ c.in_ok-copy.was (c.copy.ensures (board_of start) m.at (space_fits start (c.condition.new.enc, c.condition.new.self.slots.items) c.space-space.result m.at c.space-space.ensures fits.space)) in
    let e : length c.copy.new.self.slots.items ≡ length c.args.board.now.slots.items = same_length start (c.args.enc.now, c.args.board.now.slots.items) (c.copy.new.enc, c.copy.new.self.slots.items) ready k.at in omega (arith, c.requires.place)

pub returns : goal.returns
returns c start ready fits =
    let m = went (board_of start) c.condition.new.enc c.condition.new.self.slots.items _ c.condition.result _ c.in_ok-condition.was (c.condition.ensures (board_of start) ready (spare_enough start) fits.condition) in
    let k = went (board_of start) c.copy.new.enc c.copy.new.self.slots.items _ c.copy.result _ c.in_ok-copy.was (c.copy.ensures (board_of start) m.at (space_fits start (c.condition.new.enc, c.condition.new.self.slots.items) c.space-space.result m.at c.space-space.ensures fits.space)) in
    left_with (board_of start) c.combine.new.enc c.combine.new.self.slots.items _ _ c.combine.result
    (λ w. kept_here start (c.args.enc.now, c.args.board.now.slots.items) (c.condition.new.enc, c.condition.new.self.slots.items) (c.copy.new.enc, c.copy.new.self.slots.items) (c.combine.new.enc, c.combine.new.self.slots.items) c.args.place c.args.keep.now c.space-space.result c.requires.high c.requires.place ready c.space-space.ensures m k w)
    (c.combine.ensures (board_of start) k.at (kept_fits start (c.args.enc.now, c.args.board.now.slots.items) (c.condition.new.enc, c.condition.new.self.slots.items) (c.copy.new.enc, c.copy.new.self.slots.items) c.args.place c.args.keep.now c.space-space.result c.requires.high c.requires.place ready c.space-space.ensures m k fits))
