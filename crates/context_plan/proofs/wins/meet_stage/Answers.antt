use Rattle.context_plan.specs.Scenes.{board_of}
use Rattle.context_plan.proofs.SceneSteps.{same_length, spare_enough}
use Rattle.context_plan.proofs.WinFits.{met_fits}
use Rattle.context_plan.proofs.WinSteps.{stage_met}
use Rattle.std.proofs.Common.{◌≡◌, arith, length}
use Rattle.std.proofs.lemmas.Result.{err_from_is_err_and}
use Rattle.slot_board.proofs.BoardSlots.{went, passed, left_with}
use Rattle.context_plan.proofs.wins.meet_stage.Goals as goal

pub condition-requires-clause-working : goal.condition-requires-clause-working
condition-requires-clause-working c =
    let start = c.requires.ready.0 in
    let ready = c.requires.ready.1 in
    (board_of start, ready.at)

pub condition-requires-clause-place : goal.condition-requires-clause-place
condition-requires-clause-place c =
    omega (arith, c.requires.place)

pub returns-in_err-condition : goal.returns-in_err-condition
returns-in_err-condition c start ready parts fits =
    passed (board_of start) c.condition.new.enc c.condition.new.self.slots.items _ _ c.condition.result c.from_residual.result _ c.in_err-condition.was (err_from_is_err_and c.from_residual.result c.from_residual.ensures.1) (c.condition.ensures (board_of start) ready.at (spare_enough start) parts)

pub combine-requires-clause-working : goal.combine-requires-clause-working
combine-requires-clause-working c =
    let start = c.requires.ready.0 in
    let ready = c.requires.ready.1 in
    let parts = c.requires.ready.2 in
    let m = went (board_of start) c.condition.new.enc c.condition.new.self.slots.items _ c.condition.result _ c.in_ok-condition.was (c.condition.ensures (board_of start) ready.at (spare_enough start) parts) in
    (board_of start, m.at)

pub combine-requires-clause-place : goal.combine-requires-clause-place
combine-requires-clause-place c =
    let start = c.requires.ready.0 in
    let ready = c.requires.ready.1 in
    let parts = c.requires.ready.2 in
    let m = went (board_of start) c.condition.new.enc c.condition.new.self.slots.items _ c.condition.result _ c.in_ok-condition.was (c.condition.ensures (board_of start) ready.at (spare_enough start) parts) in
    let long = same_length start (c.args.enc.now, c.args.board.now.slots.items) (c.condition.new.enc, c.condition.new.self.slots.items) ready.at m.at in
    let e : length c.condition.new.self.slots.items ≡ length c.args.board.now.slots.items = long in omega (arith, c.requires.place)

pub combine-requires-clause-a : goal.combine-requires-clause-a
combine-requires-clause-a c =
    let start = c.requires.ready.0 in
    let ready = c.requires.ready.1 in
    let parts = c.requires.ready.2 in
    let m = went (board_of start) c.condition.new.enc c.condition.new.self.slots.items _ c.condition.result _ c.in_ok-condition.was (c.condition.ensures (board_of start) ready.at (spare_enough start) parts) in
    let long = same_length start (c.args.enc.now, c.args.board.now.slots.items) (c.condition.new.enc, c.condition.new.self.slots.items) ready.at m.at in
    let e : length c.condition.new.self.slots.items ≡ length c.args.board.now.slots.items = long in omega (arith, c.requires.place)

pub combine-requires-clause-b : goal.combine-requires-clause-b
combine-requires-clause-b c =
    let start = c.requires.ready.0 in
    let ready = c.requires.ready.1 in
    let parts = c.requires.ready.2 in
    let m = went (board_of start) c.condition.new.enc c.condition.new.self.slots.items _ c.condition.result _ c.in_ok-condition.was (c.condition.ensures (board_of start) ready.at (spare_enough start) parts) in
    let long = same_length start (c.args.enc.now, c.args.board.now.slots.items) (c.condition.new.enc, c.condition.new.self.slots.items) ready.at m.at in
    let e : length c.condition.new.self.slots.items ≡ length c.args.board.now.slots.items = long in omega (arith, c.requires.place)

pub returns : goal.returns
returns c start ready parts fits =
    let m = went (board_of start) c.condition.new.enc c.condition.new.self.slots.items _ c.condition.result _ c.in_ok-condition.was (c.condition.ensures (board_of start) ready.at (spare_enough start) parts) in
    left_with (board_of start) c.combine.new.enc c.combine.new.self.slots.items _ _ c.combine.result
    (λ z. stage_met start (c.args.enc.now, c.args.board.now.slots.items) (c.condition.new.enc, c.condition.new.self.slots.items) (c.combine.new.enc, c.combine.new.self.slots.items) c.args.place c.args.target.now c.requires.place ready m z)
    (c.combine.ensures (board_of start) m.at (met_fits start (c.args.enc.now, c.args.board.now.slots.items) (c.condition.new.enc, c.condition.new.self.slots.items) c.args.place c.args.target.now c.requires.place ready m fits))
