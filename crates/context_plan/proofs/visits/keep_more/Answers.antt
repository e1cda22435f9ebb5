use Rattle.std.proofs.Common.{◌≡◌, arith, inl, inr, length, suc}
use Rattle.std.proofs.lemmas.Result.{err_from_is_err_and}
use Rattle.slot_board.proofs.BoardSlots.{same_actions, went}
use Rattle.slot_board.proofs.Endings.{passed_on}
use Rattle.context_plan.specs.Scenes.{board_of}
use Rattle.context_plan.proofs.OverSteps.{visits_over}
use Rattle.context_plan.proofs.SizeSteps.{placed_small}
use Rattle.context_plan.proofs.VisitSteps.{left_next, visit_low}
use Rattle.context_plan.proofs.visits.keep_more.Goals as goal

pub copy_of-requires-clause-working : goal.copy_of-requires-clause-working
copy_of-requires-clause-working c =
    let start = c.requires.ready.0 in
    let h = c.requires.ready.2 in
    let at = h.stay.ready.at in
    (board_of start, at)

pub copy_of-requires-clause-place : goal.copy_of-requires-clause-place
copy_of-requires-clause-place c =
    let start = c.requires.ready.0 in
    let h = c.requires.ready.2 in
    let at = h.stay.ready.at in
    visit_low start (c.args.enc.now, c.args.board.now.slots.items) at h.stay.some 8 (omega arith)

pub copy_of-requires-clause-from : goal.copy_of-requires-clause-from
copy_of-requires-clause-from c =
    let start = c.requires.ready.0 in
    let h = c.requires.ready.2 in
    let at = h.stay.ready.at in
    visit_low start (c.args.enc.now, c.args.board.now.slots.items) at h.stay.some 10 (omega arith)

pub returns-in_err-copy_of : goal.returns-in_err-copy_of
returns-in_err-copy_of c start r h =
    let at = h.stay.ready.at in
    let small = placed_small start (c.args.enc.now, c.args.board.now.slots.items) at 10 (visit_low start (c.args.enc.now, c.args.board.now.slots.items) at h.stay.some 10 (omega arith)) (inr (omega arith)) in
    passed_on (board_of start) c.copy_of.new.enc c.copy_of.new.self.slots.items _ _ c.copy_of.result c.from_residual.result _ c.in_err-copy_of.was (err_from_is_err_and c.from_residual.result c.from_residual.ensures.1) (c.copy_of.ensures (board_of start) at (inl small))

pub keep_all-requires-clause-ready : goal.keep_all-requires-clause-ready
keep_all-requires-clause-ready c =
    let start = c.requires.ready.0 in
    let r = c.requires.ready.1 in
    let h = c.requires.ready.2 in
    let at = h.stay.ready.at in
    let small = placed_small start (c.args.enc.now, c.args.board.now.slots.items) at 10 (visit_low start (c.args.enc.now, c.args.board.now.slots.items) at h.stay.some 10 (omega arith)) (inr (omega arith)) in
    let m = went (board_of start) c.copy_of.new.enc c.copy_of.new.self.slots.items _ c.copy_of.result _ c.in_ok-copy_of.was (c.copy_of.ensures (board_of start) at (inl small)) in
    let left = left_next start c.args.visits.now (c.args.enc.now, c.args.board.now.slots.items) (c.copy_of.new.enc, c.copy_of.new.self.slots.items) r h m in
    (start, suc r, left)

pub keep_all-requires-clause-actions : goal.keep_all-requires-clause-actions
keep_all-requires-clause-actions c =
    let start = c.requires.ready.0 in
    let h = c.requires.ready.2 in
    let at = h.stay.ready.at in
    let small = placed_small start (c.args.enc.now, c.args.board.now.slots.items) at 10 (visit_low start (c.args.enc.now, c.args.board.now.slots.items) at h.stay.some 10 (omega arith)) (inr (omega arith)) in
    let m = went (board_of start) c.copy_of.new.enc c.copy_of.new.self.slots.items _ c.copy_of.result _ c.in_ok-copy_of.was (c.copy_of.ensures (board_of start) at (inl small)) in
    let e : length c.copy_of.new.enc.actions ≡ length c.args.enc.now.actions = same_actions (board_of start) c.args.enc.now c.copy_of.new.enc c.args.board.now.slots.items c.copy_of.new.self.slots.items at m.at in omega (arith, c.requires.actions)

pub keep_all-requires-clause-visits : goal.keep_all-requires-clause-visits
keep_all-requires-clause-visits c =
    let start = c.requires.ready.0 in
    let h = c.requires.ready.2 in
    let at = h.stay.ready.at in
    let small = placed_small start (c.args.enc.now, c.args.board.now.slots.items) at 10 (visit_low start (c.args.enc.now, c.args.board.now.slots.items) at h.stay.some 10 (omega arith)) (inr (omega arith)) in
    let m = went (board_of start) c.copy_of.new.enc c.copy_of.new.self.slots.items _ c.copy_of.result _ c.in_ok-copy_of.was (c.copy_of.ensures (board_of start) at (inl small)) in
    visits_over start (c.args.enc.now, c.args.board.now.slots.items) (c.copy_of.new.enc, c.copy_of.new.self.slots.items) c.args.visits.now at m.at c.requires.visits

pub returns : goal.returns
returns c start r h =
    let at = h.stay.ready.at in
    let small = placed_small start (c.args.enc.now, c.args.board.now.slots.items) at 10 (visit_low start (c.args.enc.now, c.args.board.now.slots.items) at h.stay.some 10 (omega arith)) (inr (omega arith)) in
    let m = went (board_of start) c.copy_of.new.enc c.copy_of.new.self.slots.items _ c.copy_of.result _ c.in_ok-copy_of.was (c.copy_of.ensures (board_of start) at (inl small)) in
    let left = left_next start c.args.visits.now (c.args.enc.now, c.args.board.now.slots.items) (c.copy_of.new.enc, c.copy_of.new.self.slots.items) r h m in
    c.keep_all.ensures start (suc r) left
