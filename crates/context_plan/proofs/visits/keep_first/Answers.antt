use Rattle.std.proofs.Common.{◌≡◌, arith, length}
use Rattle.std.proofs.lemmas.Result.{err_from_is_err_and}
use Rattle.slot_board.proofs.BoardSlots.{made_at, same_actions, went}
use Rattle.slot_board.proofs.Endings.{passed_on}
use Rattle.context_plan.specs.Scenes.{board_of}
use Rattle.context_plan.proofs.OverSteps.{visits_over}
use Rattle.context_plan.proofs.SceneSteps.{low}
use Rattle.context_plan.proofs.VisitSteps.{left_first}
use Rattle.context_plan.proofs.WinFits.{space_fits_at}
use Rattle.context_plan.proofs.WinSteps.{space_holds}
use Rattle.context_plan.proofs.visits.keep_first.Goals as goal

pub copy-requires-clause-working : goal.copy-requires-clause-working
copy-requires-clause-working c =
    let start = c.requires.ready.0 in
    let h = c.requires.ready.2 in
    (board_of start, h.at)

pub copy-requires-clause-place : goal.copy-requires-clause-place
copy-requires-clause-place c =
    let start = c.requires.ready.0 in
    let h = c.requires.ready.2 in
    low start (c.args.enc.now, c.args.board.now.slots.items) h.at 8 (omega arith)

pub copy-requires-clause-live : goal.copy-requires-clause-live
copy-requires-clause-live c =
    let start = c.requires.ready.0 in
    let h = c.requires.ready.2 in
    (space_holds start.task c.args.enc.now c.space-space.result (made_at (board_of start) c.args.enc.now c.args.board.now.slots.items h.at) c.space-space.ensures).live

pub returns-in_err-copy : goal.returns-in_err-copy
returns-in_err-copy c start count h fits =
    let fit = space_fits_at start (c.args.enc.now, c.args.board.now.slots.items) 8 c.space-space.result h.at c.space-space.ensures fits.space in
    passed_on (board_of start) c.copy.new.enc c.copy.new.self.slots.items _ _ c.copy.result c.from_residual.result _ c.in_err-copy.was (err_from_is_err_and c.from_residual.result c.from_residual.ensures.1) (c.copy.ensures (board_of start) h.at fit)

pub keep_all-requires-clause-ready : goal.keep_all-requires-clause-ready
keep_all-requires-clause-ready c =
    let start = c.requires.ready.0 in
    let count = c.requires.ready.1 in
    let h = c.requires.ready.2 in
    let fits = c.requires.ready.3 in
    let fit = space_fits_at start (c.args.enc.now, c.args.board.now.slots.items) 8 c.space-space.result h.at c.space-space.ensures fits.space in
    let m = went (board_of start) c.copy.new.enc c.copy.new.self.slots.items _ c.copy.result _ c.in_ok-copy.was (c.copy.ensures (board_of start) h.at fit) in
    let left = left_first start c.args.visits.now (c.args.enc.now, c.args.board.now.slots.items) (c.copy.new.enc, c.copy.new.self.slots.items) c.space-space.result count c.requires.visits.some h fits c.space-space.ensures m in
    (start, 0, left)

pub keep_all-requires-clause-actions : goal.keep_all-requires-clause-actions
keep_all-requires-clause-actions c =
    let start = c.requires.ready.0 in
    let h = c.requires.ready.2 in
    let fits = c.requires.ready.3 in
    let fit = space_fits_at start (c.args.enc.now, c.args.board.now.slots.items) 8 c.space-space.result h.at c.space-space.ensures fits.space in
    let m = went (board_of start) c.copy.new.enc c.copy.new.self.slots.items _ c.copy.result _ c.in_ok-copy.was (c.copy.ensures (board_of start) h.at fit) in
    let e : length c.copy.new.enc.actions ≡ length c.args.enc.now.actions = same_actions (board_of start) c.args.enc.now c.copy.new.enc c.args.board.now.slots.items c.copy.new.self.slots.items h.at m.at in omega (arith, c.requires.actions)

pub keep_all-requires-clause-visits : goal.keep_all-requires-clause-visits
keep_all-requires-clause-visits c =
    let start = c.requires.ready.0 in
    let h = c.requires.ready.2 in
    let fits = c.requires.ready.3 in
    let fit = space_fits_at start (c.args.enc.now, c.args.board.now.slots.items) 8 c.space-space.result h.at c.space-space.ensures fits.space in
    let m = went (board_of start) c.copy.new.enc c.copy.new.self.slots.items _ c.copy.result _ c.in_ok-copy.was (c.copy.ensures (board_of start) h.at fit) in
    visits_over start (c.args.enc.now, c.args.board.now.slots.items) (c.copy.new.enc, c.copy.new.self.slots.items) c.args.visits.now h.at m.at c.requires.visits

pub returns : goal.returns
returns c start count h fits =
    let fit = space_fits_at start (c.args.enc.now, c.args.board.now.slots.items) 8 c.space-space.result h.at c.space-space.ensures fits.space in
    let m = went (board_of start) c.copy.new.enc c.copy.new.self.slots.items _ c.copy.result _ c.in_ok-copy.was (c.copy.ensures (board_of start) h.at fit) in
    let left = left_first start c.args.visits.now (c.args.enc.now, c.args.board.now.slots.items) (c.copy.new.enc, c.copy.new.self.slots.items) c.space-space.result count c.requires.visits.some h fits c.space-space.ensures m in
    c.keep_all.ensures start 0 left
