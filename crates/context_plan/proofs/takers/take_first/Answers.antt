use Rattle.context_plan.proofs.TakerFits.{high_again, high_small, share_copied, within_now}
use Rattle.context_plan.proofs.SceneSteps.{low, same_length, moved_in}
use Rattle.context_plan.proofs.TakerSteps.{first_taken}
use Rattle.context_plan.specs.Scenes.{board_of}
use Rattle.slot_board.proofs.BoardSlots.{went, passed, left_with, made_at, same_actions}
use Rattle.std.proofs.Common.{◌≡◌, arith, inl, length}
use Rattle.std.proofs.lemmas.Result.{err_from_is_err_and}
use Rattle.task_core.specs.Tasks.{action_count}
use Rattle.context_plan.proofs.takers.take_first.Goals as goal

pub copy_of-requires-clause-working : goal.copy_of-requires-clause-working
copy_of-requires-clause-working c =
    let start = c.requires.ready.0 in
    let ready = c.requires.ready.1 in
    let fits = c.requires.ready.2 in
    (board_of start, ready.at)

pub copy_of-requires-clause-place : goal.copy_of-requires-clause-place
copy_of-requires-clause-place c =
    let start = c.requires.ready.0 in
    let ready = c.requires.ready.1 in
    let fits = c.requires.ready.2 in
    low start (c.args.enc.now, c.args.board.now.slots.items) ready.at 0 (omega arith)

pub copy_of-requires-clause-from : goal.copy_of-requires-clause-from
copy_of-requires-clause-from c =
    let start = c.requires.ready.0 in
    let ready = c.requires.ready.1 in
    let fits = c.requires.ready.2 in
    omega (arith, c.requires.apart.0, c.requires.places)

pub returns-in_err-copy_of : goal.returns-in_err-copy_of
returns-in_err-copy_of c start ready fits =
    let p = err_from_is_err_and c.from_residual.result c.from_residual.ensures.1 in
    passed (board_of start) c.copy_of.new.enc c.copy_of.new.self.slots.items _ _ c.copy_of.result c.from_residual.result _ c.in_err-copy_of.was p (c.copy_of.ensures (board_of start) ready.at (inl (high_small start (c.args.enc.now, c.args.board.now.slots.items) c.args.at.near ready c.requires.near (omega (arith, c.requires.apart.0, c.requires.places)))))

pub copy_of-requires-2-clause-working : goal.copy_of-requires-2-clause-working
copy_of-requires-2-clause-working c =
    let start = c.requires.ready.0 in
    let ready = c.requires.ready.1 in
    let fits = c.requires.ready.2 in
    let d1 = went (board_of start) c.copy_of.new.enc c.copy_of.new.self.slots.items _ c.copy_of.result _ c.in_ok-copy_of.was (c.copy_of.ensures (board_of start) ready.at (inl (high_small start (c.args.enc.now, c.args.board.now.slots.items) c.args.at.near ready c.requires.near (omega (arith, c.requires.apart.0, c.requires.places))))) in
    (board_of start, d1.at)

pub copy_of-requires-2-clause-place : goal.copy_of-requires-2-clause-place
copy_of-requires-2-clause-place c =
    let start = c.requires.ready.0 in
    let ready = c.requires.ready.1 in
    let fits = c.requires.ready.2 in
    let d1 = went (board_of start) c.copy_of.new.enc c.copy_of.new.self.slots.items _ c.copy_of.result _ c.in_ok-copy_of.was (c.copy_of.ensures (board_of start) ready.at (inl (high_small start (c.args.enc.now, c.args.board.now.slots.items) c.args.at.near ready c.requires.near (omega (arith, c.requires.apart.0, c.requires.places))))) in
    low start (c.copy_of.new.enc, c.copy_of.new.self.slots.items) d1.at 3 (omega arith)

pub copy_of-requires-2-clause-from : goal.copy_of-requires-2-clause-from
copy_of-requires-2-clause-from c =
    let start = c.requires.ready.0 in
    let ready = c.requires.ready.1 in
    let fits = c.requires.ready.2 in
    let d1 = went (board_of start) c.copy_of.new.enc c.copy_of.new.self.slots.items _ c.copy_of.result _ c.in_ok-copy_of.was (c.copy_of.ensures (board_of start) ready.at (inl (high_small start (c.args.enc.now, c.args.board.now.slots.items) c.args.at.near ready c.requires.near (omega (arith, c.requires.apart.0, c.requires.places))))) in
    let e : length c.copy_of.new.self.slots.items ≡ length c.args.board.now.slots.items = same_length start (c.args.enc.now, c.args.board.now.slots.items) (c.copy_of.new.enc, c.copy_of.new.self.slots.items) ready.at d1.at in omega (arith, c.requires.places, c.requires.apart.1)

pub returns-in_err-copy_of-2 : goal.returns-in_err-copy_of-2
returns-in_err-copy_of-2 c start ready fits =
    let p = err_from_is_err_and c.from_residual-in_err-copy_of-2.result c.from_residual-in_err-copy_of-2.ensures.1 in
    let d1 = went (board_of start) c.copy_of.new.enc c.copy_of.new.self.slots.items _ c.copy_of.result _ c.in_ok-copy_of.was (c.copy_of.ensures (board_of start) ready.at (inl (high_small start (c.args.enc.now, c.args.board.now.slots.items) c.args.at.near ready c.requires.near (omega (arith, c.requires.apart.0, c.requires.places))))) in
    passed (board_of start) c.copy_of-2.new.enc c.copy_of-2.new.self.slots.items _ _ c.copy_of-2.result c.from_residual-in_err-copy_of-2.result _ c.in_err-copy_of-2.was p (c.copy_of-2.ensures (board_of start) d1.at (inl (high_again start (c.args.enc.now, c.args.board.now.slots.items) (c.copy_of.new.enc, c.copy_of.new.self.slots.items) c.args.at.near c.args.at.rest ready c.requires.rest (omega (arith, c.requires.apart.1, c.requires.places)) d1)))

pub share-requires-clause-ready : goal.share-requires-clause-ready
share-requires-clause-ready c =
    let start = c.requires.ready.0 in
    let ready = c.requires.ready.1 in
    let fits = c.requires.ready.2 in
    let d1 = went (board_of start) c.copy_of.new.enc c.copy_of.new.self.slots.items _ c.copy_of.result _ c.in_ok-copy_of.was (c.copy_of.ensures (board_of start) ready.at (inl (high_small start (c.args.enc.now, c.args.board.now.slots.items) c.args.at.near ready c.requires.near (omega (arith, c.requires.apart.0, c.requires.places))))) in
    let d2 = went (board_of start) c.copy_of-2.new.enc c.copy_of-2.new.self.slots.items _ c.copy_of-2.result _ c.in_ok-copy_of-2.was (c.copy_of-2.ensures (board_of start) d1.at (inl (high_again start (c.args.enc.now, c.args.board.now.slots.items) (c.copy_of.new.enc, c.copy_of.new.self.slots.items) c.args.at.near c.args.at.rest ready c.requires.rest (omega (arith, c.requires.apart.1, c.requires.places)) d1))) in
    (start, moved_in start (c.copy_of.new.enc, c.copy_of.new.self.slots.items) (c.copy_of-2.new.enc, c.copy_of-2.new.self.slots.items) 3 _ (moved_in start (c.args.enc.now, c.args.board.now.slots.items) (c.copy_of.new.enc, c.copy_of.new.self.slots.items) 0 _ ready (λ e. absurd (omega arith)) d1) (λ e. absurd (omega arith)) d2, (share_copied start (c.args.enc.now, c.args.board.now.slots.items) (c.copy_of.new.enc, c.copy_of.new.self.slots.items) (c.copy_of-2.new.enc, c.copy_of-2.new.self.slots.items) c.args.at.near c.args.at.rest c.args.at.takers c.requires.near c.requires.rest c.requires.apart.0 c.requires.apart.1 (within_now start (c.args.enc.now, c.args.board.now.slots.items) c.args.at.takers ready.at (omega (arith, c.requires.places, c.requires.actions))) ready d1 d2 fits))

pub share-requires-clause-actions : goal.share-requires-clause-actions
share-requires-clause-actions c =
    let start = c.requires.ready.0 in
    let ready = c.requires.ready.1 in
    let fits = c.requires.ready.2 in
    let d1 = went (board_of start) c.copy_of.new.enc c.copy_of.new.self.slots.items _ c.copy_of.result _ c.in_ok-copy_of.was (c.copy_of.ensures (board_of start) ready.at (inl (high_small start (c.args.enc.now, c.args.board.now.slots.items) c.args.at.near ready c.requires.near (omega (arith, c.requires.apart.0, c.requires.places))))) in
    let d2 = went (board_of start) c.copy_of-2.new.enc c.copy_of-2.new.self.slots.items _ c.copy_of-2.result _ c.in_ok-copy_of-2.was (c.copy_of-2.ensures (board_of start) d1.at (inl (high_again start (c.args.enc.now, c.args.board.now.slots.items) (c.copy_of.new.enc, c.copy_of.new.self.slots.items) c.args.at.near c.args.at.rest ready c.requires.rest (omega (arith, c.requires.apart.1, c.requires.places)) d1))) in
    let e : length c.copy_of-2.new.enc.actions ≡ length c.args.enc.now.actions = same_actions (board_of start) c.args.enc.now c.copy_of-2.new.enc c.args.board.now.slots.items c.copy_of-2.new.self.slots.items ready.at d2.at in omega (arith, c.requires.actions)

pub share-requires-clause-places : goal.share-requires-clause-places
share-requires-clause-places c =
    let start = c.requires.ready.0 in
    let ready = c.requires.ready.1 in
    let fits = c.requires.ready.2 in
    let d1 = went (board_of start) c.copy_of.new.enc c.copy_of.new.self.slots.items _ c.copy_of.result _ c.in_ok-copy_of.was (c.copy_of.ensures (board_of start) ready.at (inl (high_small start (c.args.enc.now, c.args.board.now.slots.items) c.args.at.near ready c.requires.near (omega (arith, c.requires.apart.0, c.requires.places))))) in
    let d2 = went (board_of start) c.copy_of-2.new.enc c.copy_of-2.new.self.slots.items _ c.copy_of-2.result _ c.in_ok-copy_of-2.was (c.copy_of-2.ensures (board_of start) d1.at (inl (high_again start (c.args.enc.now, c.args.board.now.slots.items) (c.copy_of.new.enc, c.copy_of.new.self.slots.items) c.args.at.near c.args.at.rest ready c.requires.rest (omega (arith, c.requires.apart.1, c.requires.places)) d1))) in
    let e : length c.copy_of-2.new.self.slots.items ≡ length c.args.board.now.slots.items = same_length start (c.args.enc.now, c.args.board.now.slots.items) (c.copy_of-2.new.enc, c.copy_of-2.new.self.slots.items) ready.at d2.at in omega (arith, c.requires.places, c.requires.apart.1)

pub share-requires-clause-high : goal.share-requires-clause-high
share-requires-clause-high c =
    let start = c.requires.ready.0 in
    let ready = c.requires.ready.1 in
    let fits = c.requires.ready.2 in
    let d1 = went (board_of start) c.copy_of.new.enc c.copy_of.new.self.slots.items _ c.copy_of.result _ c.in_ok-copy_of.was (c.copy_of.ensures (board_of start) ready.at (inl (high_small start (c.args.enc.now, c.args.board.now.slots.items) c.args.at.near ready c.requires.near (omega (arith, c.requires.apart.0, c.requires.places))))) in
    let d2 = went (board_of start) c.copy_of-2.new.enc c.copy_of-2.new.self.slots.items _ c.copy_of-2.result _ c.in_ok-copy_of-2.was (c.copy_of-2.ensures (board_of start) d1.at (inl (high_again start (c.args.enc.now, c.args.board.now.slots.items) (c.copy_of.new.enc, c.copy_of.new.self.slots.items) c.args.at.near c.args.at.rest ready c.requires.rest (omega (arith, c.requires.apart.1, c.requires.places)) d1))) in
    omega (arith, c.requires.near, c.requires.apart.0)

pub returns : goal.returns
returns c start ready fits =
    let d1 = went (board_of start) c.copy_of.new.enc c.copy_of.new.self.slots.items _ c.copy_of.result _ c.in_ok-copy_of.was (c.copy_of.ensures (board_of start) ready.at (inl (high_small start (c.args.enc.now, c.args.board.now.slots.items) c.args.at.near ready c.requires.near (omega (arith, c.requires.apart.0, c.requires.places))))) in
    let d2 = went (board_of start) c.copy_of-2.new.enc c.copy_of-2.new.self.slots.items _ c.copy_of-2.result _ c.in_ok-copy_of-2.was (c.copy_of-2.ensures (board_of start) d1.at (inl (high_again start (c.args.enc.now, c.args.board.now.slots.items) (c.copy_of.new.enc, c.copy_of.new.self.slots.items) c.args.at.near c.args.at.rest ready c.requires.rest (omega (arith, c.requires.apart.1, c.requires.places)) d1))) in
    let e : length c.args.enc.now.actions ≡ action_count start.task = (made_at (board_of start) c.args.enc.now c.args.board.now.slots.items ready.at).actions in
    left_with (board_of start) c.share.new.enc c.share.new.board.slots.items _ _ c.share.result
    (λ h. first_taken start (c.args.enc.now, c.args.board.now.slots.items) (c.copy_of.new.enc, c.copy_of.new.self.slots.items) (c.copy_of-2.new.enc, c.copy_of-2.new.self.slots.items) (c.share.new.enc, c.share.new.board.slots.items) c.args.at.near c.args.at.rest c.args.at.takers c.requires.near c.requires.rest c.requires.apart.0 c.requires.apart.1 (omega (arith, c.requires.places, c.requires.actions)) ready d1 d2 h)
    (c.share.ensures start (moved_in start (c.copy_of.new.enc, c.copy_of.new.self.slots.items) (c.copy_of-2.new.enc, c.copy_of-2.new.self.slots.items) 3 _ (moved_in start (c.args.enc.now, c.args.board.now.slots.items) (c.copy_of.new.enc, c.copy_of.new.self.slots.items) 0 _ ready (λ e. absurd (omega arith)) d1) (λ e. absurd (omega arith)) d2) (share_copied start (c.args.enc.now, c.args.board.now.slots.items) (c.copy_of.new.enc, c.copy_of.new.self.slots.items) (c.copy_of-2.new.enc, c.copy_of-2.new.self.slots.items) c.args.at.near c.args.at.rest c.args.at.takers c.requires.near c.requires.rest c.requires.apart.0 c.requires.apart.1 (within_now start (c.args.enc.now, c.args.board.now.slots.items) c.args.at.takers ready.at (omega (arith, c.requires.places, c.requires.actions))) ready d1 d2 fits))
