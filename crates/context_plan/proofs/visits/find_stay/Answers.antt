use Rattle.std.proofs.Common.{◌≡◌, arith, inl, inr, length}
use Rattle.std.proofs.lemmas.Result.{err_from_is_err_and}
use Rattle.slot_board.proofs.BoardSlots.{left_with, passed, same_actions, went}
use Rattle.context_plan.specs.Scenes.{board_of}
use Rattle.context_plan.specs.PatrolSizes.{within_round}
use Rattle.context_plan.proofs.SizeSteps.{placed_small}
use Rattle.context_plan.proofs.VisitSteps.{stay_fits, stay_guarded, stay_made, visit_low}
use Rattle.context_plan.proofs.visits.find_stay.Goals as goal

pub copy_of-requires-clause-working : goal.copy_of-requires-clause-working
copy_of-requires-clause-working c =
    let start = c.requires.ready.0 in
    let h = c.requires.ready.3 in
    (board_of start, h.ready.at)

pub copy_of-requires-clause-place : goal.copy_of-requires-clause-place
copy_of-requires-clause-place c =
    let start = c.requires.ready.0 in
    let h = c.requires.ready.3 in
    visit_low start (c.args.enc.now, c.args.board.now.slots.items) h.ready.at h.some 5 (omega arith)

pub copy_of-requires-clause-from : goal.copy_of-requires-clause-from
copy_of-requires-clause-from c =
    let start = c.requires.ready.0 in
    let h = c.requires.ready.3 in
    visit_low start (c.args.enc.now, c.args.board.now.slots.items) h.ready.at h.some 8 (omega arith)

pub returns-in_err-copy_of : goal.returns-in_err-copy_of
returns-in_err-copy_of c start conds r h =
    let small = placed_small start (c.args.enc.now, c.args.board.now.slots.items) h.ready.at 8 (visit_low start (c.args.enc.now, c.args.board.now.slots.items) h.ready.at h.some 8 (omega arith)) (inr (omega arith)) in
    passed (board_of start) c.copy_of.new.enc c.copy_of.new.self.slots.items _ _ c.copy_of.result c.from_residual.result _ c.in_err-copy_of.was (err_from_is_err_and c.from_residual.result c.from_residual.ensures.1) (c.copy_of.ensures (board_of start) h.ready.at (inl small))

pub turn_once-requires-clause-ready : goal.turn_once-requires-clause-ready
turn_once-requires-clause-ready c =
    let start = c.requires.ready.0 in
    let conds = c.requires.ready.1 in
    let r = c.requires.ready.2 in
    let h = c.requires.ready.3 in
    let small = placed_small start (c.args.enc.now, c.args.board.now.slots.items) h.ready.at 8 (visit_low start (c.args.enc.now, c.args.board.now.slots.items) h.ready.at h.some 8 (omega arith)) (inr (omega arith)) in
    let m = went (board_of start) c.copy_of.new.enc c.copy_of.new.self.slots.items _ c.copy_of.result _ c.in_ok-copy_of.was (c.copy_of.ensures (board_of start) h.ready.at (inl small)) in
    let held = stay_guarded start conds (c.args.enc.now, c.args.board.now.slots.items) (c.copy_of.new.enc, c.copy_of.new.self.slots.items) r h m in
    let fit = stay_fits start conds (c.args.enc.now, c.args.board.now.slots.items) (c.copy_of.new.enc, c.copy_of.new.self.slots.items) r h m in
    ((within_round start conds r), held, fit)

pub turn_once-requires-clause-actions : goal.turn_once-requires-clause-actions
turn_once-requires-clause-actions c =
    let start = c.requires.ready.0 in
    let h = c.requires.ready.3 in
    let small = placed_small start (c.args.enc.now, c.args.board.now.slots.items) h.ready.at 8 (visit_low start (c.args.enc.now, c.args.board.now.slots.items) h.ready.at h.some 8 (omega arith)) (inr (omega arith)) in
    let m = went (board_of start) c.copy_of.new.enc c.copy_of.new.self.slots.items _ c.copy_of.result _ c.in_ok-copy_of.was (c.copy_of.ensures (board_of start) h.ready.at (inl small)) in
    let e : length c.copy_of.new.enc.actions ≡ length c.args.enc.now.actions = same_actions (board_of start) c.args.enc.now c.copy_of.new.enc c.args.board.now.slots.items c.copy_of.new.self.slots.items h.ready.at m.at in omega (arith, c.requires.actions)

pub turn_once-requires-clause-place : goal.turn_once-requires-clause-place
turn_once-requires-clause-place c =
    let start = c.requires.ready.0 in
    let h = c.requires.ready.3 in
    let small = placed_small start (c.args.enc.now, c.args.board.now.slots.items) h.ready.at 8 (visit_low start (c.args.enc.now, c.args.board.now.slots.items) h.ready.at h.some 8 (omega arith)) (inr (omega arith)) in
    let m = went (board_of start) c.copy_of.new.enc c.copy_of.new.self.slots.items _ c.copy_of.result _ c.in_ok-copy_of.was (c.copy_of.ensures (board_of start) h.ready.at (inl small)) in
    visit_low start (c.copy_of.new.enc, c.copy_of.new.self.slots.items) m.at h.some 8 (omega arith)

pub returns-in_err-turn_once : goal.returns-in_err-turn_once
returns-in_err-turn_once c start conds r h =
    let small = placed_small start (c.args.enc.now, c.args.board.now.slots.items) h.ready.at 8 (visit_low start (c.args.enc.now, c.args.board.now.slots.items) h.ready.at h.some 8 (omega arith)) (inr (omega arith)) in
    let m = went (board_of start) c.copy_of.new.enc c.copy_of.new.self.slots.items _ c.copy_of.result _ c.in_ok-copy_of.was (c.copy_of.ensures (board_of start) h.ready.at (inl small)) in
    let held = stay_guarded start conds (c.args.enc.now, c.args.board.now.slots.items) (c.copy_of.new.enc, c.copy_of.new.self.slots.items) r h m in
    let fit = stay_fits start conds (c.args.enc.now, c.args.board.now.slots.items) (c.copy_of.new.enc, c.copy_of.new.self.slots.items) r h m in
    passed (board_of start) c.turn_once.new.enc c.turn_once.new.board.slots.items _ _ c.turn_once.result c.from_residual-in_err-turn_once.result _ c.in_err-turn_once.was (err_from_is_err_and c.from_residual-in_err-turn_once.result c.from_residual-in_err-turn_once.ensures.1) (c.turn_once.ensures (within_round start conds r) held fit)

pub copy_of-requires-2-clause-working : goal.copy_of-requires-2-clause-working
copy_of-requires-2-clause-working c =
    let start = c.requires.ready.0 in
    let conds = c.requires.ready.1 in
    let r = c.requires.ready.2 in
    let h = c.requires.ready.3 in
    let small = placed_small start (c.args.enc.now, c.args.board.now.slots.items) h.ready.at 8 (visit_low start (c.args.enc.now, c.args.board.now.slots.items) h.ready.at h.some 8 (omega arith)) (inr (omega arith)) in
    let m = went (board_of start) c.copy_of.new.enc c.copy_of.new.self.slots.items _ c.copy_of.result _ c.in_ok-copy_of.was (c.copy_of.ensures (board_of start) h.ready.at (inl small)) in
    let held = stay_guarded start conds (c.args.enc.now, c.args.board.now.slots.items) (c.copy_of.new.enc, c.copy_of.new.self.slots.items) r h m in
    let fit = stay_fits start conds (c.args.enc.now, c.args.board.now.slots.items) (c.copy_of.new.enc, c.copy_of.new.self.slots.items) r h m in
    let t = went (board_of start) c.turn_once.new.enc c.turn_once.new.board.slots.items _ c.turn_once.result _ c.in_ok-turn_once.was (c.turn_once.ensures (within_round start conds r) held fit) in
    (board_of start, t.worked.ready.at)

pub copy_of-requires-2-clause-place : goal.copy_of-requires-2-clause-place
copy_of-requires-2-clause-place c =
    let start = c.requires.ready.0 in
    let conds = c.requires.ready.1 in
    let r = c.requires.ready.2 in
    let h = c.requires.ready.3 in
    let small = placed_small start (c.args.enc.now, c.args.board.now.slots.items) h.ready.at 8 (visit_low start (c.args.enc.now, c.args.board.now.slots.items) h.ready.at h.some 8 (omega arith)) (inr (omega arith)) in
    let m = went (board_of start) c.copy_of.new.enc c.copy_of.new.self.slots.items _ c.copy_of.result _ c.in_ok-copy_of.was (c.copy_of.ensures (board_of start) h.ready.at (inl small)) in
    let held = stay_guarded start conds (c.args.enc.now, c.args.board.now.slots.items) (c.copy_of.new.enc, c.copy_of.new.self.slots.items) r h m in
    let fit = stay_fits start conds (c.args.enc.now, c.args.board.now.slots.items) (c.copy_of.new.enc, c.copy_of.new.self.slots.items) r h m in
    let t = went (board_of start) c.turn_once.new.enc c.turn_once.new.board.slots.items _ c.turn_once.result _ c.in_ok-turn_once.was (c.turn_once.ensures (within_round start conds r) held fit) in
    visit_low start (c.turn_once.new.enc, c.turn_once.new.board.slots.items) t.worked.ready.at h.some 9 (omega arith)

pub copy_of-requires-2-clause-from : goal.copy_of-requires-2-clause-from
copy_of-requires-2-clause-from c =
    let start = c.requires.ready.0 in
    let conds = c.requires.ready.1 in
    let r = c.requires.ready.2 in
    let h = c.requires.ready.3 in
    let small = placed_small start (c.args.enc.now, c.args.board.now.slots.items) h.ready.at 8 (visit_low start (c.args.enc.now, c.args.board.now.slots.items) h.ready.at h.some 8 (omega arith)) (inr (omega arith)) in
    let m = went (board_of start) c.copy_of.new.enc c.copy_of.new.self.slots.items _ c.copy_of.result _ c.in_ok-copy_of.was (c.copy_of.ensures (board_of start) h.ready.at (inl small)) in
    let held = stay_guarded start conds (c.args.enc.now, c.args.board.now.slots.items) (c.copy_of.new.enc, c.copy_of.new.self.slots.items) r h m in
    let fit = stay_fits start conds (c.args.enc.now, c.args.board.now.slots.items) (c.copy_of.new.enc, c.copy_of.new.self.slots.items) r h m in
    let t = went (board_of start) c.turn_once.new.enc c.turn_once.new.board.slots.items _ c.turn_once.result _ c.in_ok-turn_once.was (c.turn_once.ensures (within_round start conds r) held fit) in
    visit_low start (c.turn_once.new.enc, c.turn_once.new.board.slots.items) t.worked.ready.at h.some 1 (omega arith)

pub returns : goal.returns
returns c start conds r h =
    let small = placed_small start (c.args.enc.now, c.args.board.now.slots.items) h.ready.at 8 (visit_low start (c.args.enc.now, c.args.board.now.slots.items) h.ready.at h.some 8 (omega arith)) (inr (omega arith)) in
    let m = went (board_of start) c.copy_of.new.enc c.copy_of.new.self.slots.items _ c.copy_of.result _ c.in_ok-copy_of.was (c.copy_of.ensures (board_of start) h.ready.at (inl small)) in
    let held = stay_guarded start conds (c.args.enc.now, c.args.board.now.slots.items) (c.copy_of.new.enc, c.copy_of.new.self.slots.items) r h m in
    let fit = stay_fits start conds (c.args.enc.now, c.args.board.now.slots.items) (c.copy_of.new.enc, c.copy_of.new.self.slots.items) r h m in
    let t = went (board_of start) c.turn_once.new.enc c.turn_once.new.board.slots.items _ c.turn_once.result _ c.in_ok-turn_once.was (c.turn_once.ensures (within_round start conds r) held fit) in
    let next = placed_small start (c.turn_once.new.enc, c.turn_once.new.board.slots.items) t.worked.ready.at 1 (visit_low start (c.turn_once.new.enc, c.turn_once.new.board.slots.items) t.worked.ready.at h.some 1 (omega arith)) (inl (omega arith)) in
    left_with (board_of start) c.copy_of-2.new.enc c.copy_of-2.new.self.slots.items _ _ c.copy_of-2.result
    (λ z. stay_made start conds (c.args.enc.now, c.args.board.now.slots.items) (c.copy_of.new.enc, c.copy_of.new.self.slots.items) r h m (c.turn_once.new.enc, c.turn_once.new.board.slots.items) (c.copy_of-2.new.enc, c.copy_of-2.new.self.slots.items) t z)
    (c.copy_of-2.ensures (board_of start) t.worked.ready.at (inl next))
