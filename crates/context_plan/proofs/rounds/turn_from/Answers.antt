use Rattle.context_plan.proofs.SizeSteps.{at_small}
use Rattle.context_plan.specs.Sizes.{RoundFits}
use Rattle.context_plan.specs.Noted.{NotesRound}
use Rattle.context_plan.specs.Steps.{AreSpent}
use Rattle.task_core.specs.Cubes.{SetOfVectors}
use Rattle.context_plan.proofs.RoundSteps.{turned_from}
use Rattle.context_plan.proofs.SceneSteps.{copied_states, low, moved_in}
use Rattle.context_plan.specs.Scenes.{board_of}
use Rattle.slot_board.proofs.BoardSlots.{went, passed, left_with, same_actions}
use Rattle.std.proofs.Common.{◌≡◌, arith, inl, length, subst, sym}
use Rattle.std.proofs.lemmas.Result.{err_from_is_err_and}
use Rattle.context_plan.proofs.rounds.turn_from.Goals as goal

pub copy_of-requires-clause-working : goal.copy_of-requires-clause-working
copy_of-requires-clause-working c =
    let start = c.requires.ready.0 in
    let ready = c.requires.ready.1 in
    let fits = c.requires.ready.2 in
    (board_of start, ready.at)

pub copy_of-requires-clause-place : goal.copy_of-requires-clause-place
copy_of-requires-clause-place c =
    let start = c.requires.ready.0 in
    let ready = c.requires.ready.1 in
    let fits = c.requires.ready.2 in
    low start (c.args.enc.now, c.args.board.now.slots.items) ready.at 0 (omega arith)

pub returns-in_err-copy_of : goal.returns-in_err-copy_of
returns-in_err-copy_of c start ready fits marks =
    let p = err_from_is_err_and c.from_residual.result c.from_residual.ensures.1 in
    passed (board_of start) c.copy_of.new.enc c.copy_of.new.self.slots.items _ _ c.copy_of.result c.from_residual.result _ c.in_err-copy_of.was p (c.copy_of.ensures (board_of start) ready.at (inl (at_small start (c.args.enc.now, c.args.board.now.slots.items) c.args.turning.place fits.itself)))

pub lead_all-requires-clause-ready : goal.lead_all-requires-clause-ready
lead_all-requires-clause-ready c =
    let start = c.requires.ready.0 in
    let ready = c.requires.ready.1 in
    let fits = c.requires.ready.2 in
    let m = went (board_of start) c.copy_of.new.enc c.copy_of.new.self.slots.items _ c.copy_of.result _ c.in_ok-copy_of.was (c.copy_of.ensures (board_of start) ready.at (inl (at_small start (c.args.enc.now, c.args.board.now.slots.items) c.args.turning.place fits.itself))) in
    (start, moved_in start (c.args.enc.now, c.args.board.now.slots.items) (c.copy_of.new.enc, c.copy_of.new.self.slots.items) 0 _ ready (λ e. absurd (omega arith)) m, (subst (RoundFits start) (sym (copied_states start (c.args.enc.now, c.args.board.now.slots.items) (c.copy_of.new.enc, c.copy_of.new.self.slots.items) 0 c.args.turning.place m)) fits), (subst (λ (f : SetOfVectors). AreSpent c.args.turning.way start f c.args.spent.now.items) (sym (copied_states start (c.args.enc.now, c.args.board.now.slots.items) (c.copy_of.new.enc, c.copy_of.new.self.slots.items) 0 c.args.turning.place m)) c.requires.ready.3))

pub lead_all-requires-clause-actions : goal.lead_all-requires-clause-actions
lead_all-requires-clause-actions c =
    let start = c.requires.ready.0 in
    let ready = c.requires.ready.1 in
    let fits = c.requires.ready.2 in
    let m = went (board_of start) c.copy_of.new.enc c.copy_of.new.self.slots.items _ c.copy_of.result _ c.in_ok-copy_of.was (c.copy_of.ensures (board_of start) ready.at (inl (at_small start (c.args.enc.now, c.args.board.now.slots.items) c.args.turning.place fits.itself))) in
    let e : length c.copy_of.new.enc.actions ≡ length c.args.enc.now.actions = same_actions (board_of start) c.args.enc.now c.copy_of.new.enc c.args.board.now.slots.items c.copy_of.new.self.slots.items ready.at m.at in omega (arith, c.requires.actions)

pub returns : goal.returns
returns c start ready fits marks =
    let m = went (board_of start) c.copy_of.new.enc c.copy_of.new.self.slots.items _ c.copy_of.result _ c.in_ok-copy_of.was (c.copy_of.ensures (board_of start) ready.at (inl (at_small start (c.args.enc.now, c.args.board.now.slots.items) c.args.turning.place fits.itself))) in
    left_with (board_of start) c.lead_all.new.enc c.lead_all.new.board.slots.items _ _ c.lead_all.result
    (λ t. (turned_from c.args.turning.way start (c.args.enc.now, c.args.board.now.slots.items) (c.copy_of.new.enc, c.copy_of.new.self.slots.items) (c.lead_all.new.enc, c.lead_all.new.board.slots.items) c.args.turning.place ready m t.0, t.1, subst (λ (f : SetOfVectors). NotesRound c.args.turning.way start f c.args.steps.now.items c.lead_all.new.steps.items) (copied_states start (c.args.enc.now, c.args.board.now.slots.items) (c.copy_of.new.enc, c.copy_of.new.self.slots.items) 0 c.args.turning.place m) t.2))
    (c.lead_all.ensures start (moved_in start (c.args.enc.now, c.args.board.now.slots.items) (c.copy_of.new.enc, c.copy_of.new.self.slots.items) 0 _ ready (λ e. absurd (omega arith)) m) (subst (RoundFits start) (sym (copied_states start (c.args.enc.now, c.args.board.now.slots.items) (c.copy_of.new.enc, c.copy_of.new.self.slots.items) 0 c.args.turning.place m)) fits) (subst (λ (f : SetOfVectors). AreSpent c.args.turning.way start f c.args.spent.now.items) (sym (copied_states start (c.args.enc.now, c.args.board.now.slots.items) (c.copy_of.new.enc, c.copy_of.new.self.slots.items) 0 c.args.turning.place m)) marks))
