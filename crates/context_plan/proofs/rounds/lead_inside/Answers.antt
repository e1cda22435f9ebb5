use Rattle.std.proofs.Common.{arith}
use Rattle.std.proofs.lemmas.Result.{err_from_is_err_and}
use Rattle.slot_board.proofs.BoardSlots.{left_with, passed, went}
use Rattle.context_plan.specs.Scenes.{board_of}
use Rattle.context_plan.proofs.SceneSteps.{led_joined, low}
use Rattle.context_plan.proofs.SizeSteps.{led_fits}
use Rattle.context_plan.proofs.rounds.lead_inside.Goals as goal

pub lead-requires-clause-working : goal.lead-requires-clause-working
lead-requires-clause-working c =
    let start = c.requires.ready.0 in
    let ready = c.requires.ready.1 in
    (board_of start, ready.at)

pub lead-requires-clause-place : goal.lead-requires-clause-place
lead-requires-clause-place c =
    let start = c.requires.ready.0 in
    let ready = c.requires.ready.1 in
    low start (c.args.enc.now, c.args.board.now.slots.items) ready.at 2 (omega arith)

pub lead-requires-clause-into : goal.lead-requires-clause-into
lead-requires-clause-into c =
    let start = c.requires.ready.0 in
    let ready = c.requires.ready.1 in
    low start (c.args.enc.now, c.args.board.now.slots.items) ready.at 0 (omega arith)

pub returns-in_err-lead : goal.returns-in_err-lead
returns-in_err-lead c start ready fits =
    passed (board_of start) c.lead.new.enc c.lead.new.self.slots.items _ _ c.lead.result c.from_residual.result _ c.in_err-lead.was (err_from_is_err_and c.from_residual.result c.from_residual.ensures.1) (c.lead.ensures (board_of start) ready.at fits)

pub combine-requires-clause-working : goal.combine-requires-clause-working
combine-requires-clause-working c =
    let start = c.requires.ready.0 in
    let ready = c.requires.ready.1 in
    let fits = c.requires.ready.2 in
    let m = went (board_of start) c.lead.new.enc c.lead.new.self.slots.items _ c.lead.result _ c.in_ok-lead.was (c.lead.ensures (board_of start) ready.at fits) in
    (board_of start, m.at)

pub combine-requires-clause-place : goal.combine-requires-clause-place
combine-requires-clause-place c =
    let start = c.requires.ready.0 in
    let ready = c.requires.ready.1 in
    let fits = c.requires.ready.2 in
    let m = went (board_of start) c.lead.new.enc c.lead.new.self.slots.items _ c.lead.result _ c.in_ok-lead.was (c.lead.ensures (board_of start) ready.at fits) in
    low start (c.lead.new.enc, c.lead.new.self.slots.items) m.at 2 (omega arith)

pub combine-requires-clause-a : goal.combine-requires-clause-a
combine-requires-clause-a c =
    let start = c.requires.ready.0 in
    let ready = c.requires.ready.1 in
    let fits = c.requires.ready.2 in
    let m = went (board_of start) c.lead.new.enc c.lead.new.self.slots.items _ c.lead.result _ c.in_ok-lead.was (c.lead.ensures (board_of start) ready.at fits) in
    low start (c.lead.new.enc, c.lead.new.self.slots.items) m.at 5 (omega arith)

pub combine-requires-clause-b : goal.combine-requires-clause-b
combine-requires-clause-b c =
    let start = c.requires.ready.0 in
    let ready = c.requires.ready.1 in
    let fits = c.requires.ready.2 in
    let m = went (board_of start) c.lead.new.enc c.lead.new.self.slots.items _ c.lead.result _ c.in_ok-lead.was (c.lead.ensures (board_of start) ready.at fits) in
    low start (c.lead.new.enc, c.lead.new.self.slots.items) m.at 2 (omega arith)

pub returns : goal.returns
returns c start ready fits =
    let m = went (board_of start) c.lead.new.enc c.lead.new.self.slots.items _ c.lead.result _ c.in_ok-lead.was (c.lead.ensures (board_of start) ready.at fits) in
    left_with (board_of start) c.combine.new.enc c.combine.new.self.slots.items _ _ c.combine.result
    (λ z. led_joined start (c.args.enc.now, c.args.board.now.slots.items) (c.lead.new.enc, c.lead.new.self.slots.items) (c.combine.new.enc, c.combine.new.self.slots.items) c.args.a.0 ready.at m z)
    (c.combine.ensures (board_of start) m.at (led_fits start (c.args.enc.now, c.args.board.now.slots.items) (c.lead.new.enc, c.lead.new.self.slots.items) c.args.a.0 ready fits m))
