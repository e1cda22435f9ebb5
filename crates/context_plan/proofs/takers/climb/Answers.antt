-- Where the stage is met first, then step by step.
use Rattle.std.proofs.Common.{◌≡◌, ◌+◌, arith, drop, inl, length, subst, sym}
use Rattle.std.proofs.lemmas.List.{drop_all, drop_more}
use Rattle.std.proofs.lemmas.Result.{err_from_is_err_and}
use Rattle.slot_board.specs.Board.{Fits}
use Rattle.slot_board.specs.declared.steps.Step.TheVariants.{Grow}
use Rattle.slot_board.proofs.BoardSlots.{passed, same_actions, went}
use Rattle.context_plan.specs.Noted.{RetracedOn}
use Rattle.context_plan.specs.Scenes.{board_of}
use Rattle.context_plan.proofs.RetracedSteps.{retraced_all, retraced_first}
use Rattle.context_plan.proofs.SceneSteps.{low, same_length}
use Rattle.context_plan.proofs.SizeSteps.{at_small, climb_first}
use Rattle.context_plan.proofs.TakerFits.{within_now}
use Rattle.context_plan.proofs.takers.climb.Goals as goal

pub copy_of-requires-clause-working : goal.copy_of-requires-clause-working
copy_of-requires-clause-working c = (board_of c.requires.ready.0, c.requires.ready.1.at)

pub copy_of-requires-clause-place : goal.copy_of-requires-clause-place
copy_of-requires-clause-place c = low c.requires.ready.0 (c.args.enc.now, c.args.board.now.slots.items) c.requires.ready.1.at 0 (omega arith)

pub copy_of-requires-clause-from : goal.copy_of-requires-clause-from
copy_of-requires-clause-from c = omega (arith, c.requires.apart, c.requires.places)

pub returns-in_err-copy_of : goal.returns-in_err-copy_of
returns-in_err-copy_of c start ready fits follows =
    let small = at_small start (c.args.enc.now, c.args.board.now.slots.items) c.args.met (climb_first start _ _ fits).round.itself in
    passed (board_of start) c.copy_of.new.enc c.copy_of.new.self.slots.items _ _ c.copy_of.result c.from_residual.result _ c.in_err-copy_of.was (err_from_is_err_and c.from_residual.result c.from_residual.ensures.1) (c.copy_of.ensures (board_of start) ready.at (inl small))

pub copy_of-requires-2-clause-working : goal.copy_of-requires-2-clause-working
copy_of-requires-2-clause-working c =
    let start = c.requires.ready.0 in
    let ready = c.requires.ready.1 in
    let fits = c.requires.ready.2 in
    let small = at_small start (c.args.enc.now, c.args.board.now.slots.items) c.args.met (climb_first start _ _ fits).round.itself in
    let m = went (board_of start) c.copy_of.new.enc c.copy_of.new.self.slots.items _ c.copy_of.result _ c.in_ok-copy_of.was (c.copy_of.ensures (board_of start) ready.at (inl small)) in
    (board_of start, m.at)

pub copy_of-requires-2-clause-place : goal.copy_of-requires-2-clause-place
copy_of-requires-2-clause-place c =
    let start = c.requires.ready.0 in
    let ready = c.requires.ready.1 in
    let fits = c.requires.ready.2 in
    let small = at_small start (c.args.enc.now, c.args.board.now.slots.items) c.args.met (climb_first start _ _ fits).round.itself in
    let m = went (board_of start) c.copy_of.new.enc c.copy_of.new.self.slots.items _ c.copy_of.result _ c.in_ok-copy_of.was (c.copy_of.ensures (board_of start) ready.at (inl small)) in
    low start (c.copy_of.new.enc, c.copy_of.new.self.slots.items) m.at 1 (omega arith)

pub copy_of-requires-2-clause-from : goal.copy_of-requires-2-clause-from
copy_of-requires-2-clause-from c =
    let start = c.requires.ready.0 in
    let ready = c.requires.ready.1 in
    let fits = c.requires.ready.2 in
    let small = at_small start (c.args.enc.now, c.args.board.now.slots.items) c.args.met (climb_first start _ _ fits).round.itself in
    let m = went (board_of start) c.copy_of.new.enc c.copy_of.new.self.slots.items _ c.copy_of.result _ c.in_ok-copy_of.was (c.copy_of.ensures (board_of start) ready.at (inl small)) in
    low start (c.copy_of.new.enc, c.copy_of.new.self.slots.items) m.at 0 (omega arith)

pub returns-in_err-copy_of-2 : goal.returns-in_err-copy_of-2
returns-in_err-copy_of-2 c start ready fits follows =
    let small = at_small start (c.args.enc.now, c.args.board.now.slots.items) c.args.met (climb_first start _ _ fits).round.itself in
    let m = went (board_of start) c.copy_of.new.enc c.copy_of.new.self.slots.items _ c.copy_of.result _ c.in_ok-copy_of.was (c.copy_of.ensures (board_of start) ready.at (inl small)) in
    let again = subst (Fits (board_of start) 1) (sym m.here) (inl small) in
    passed (board_of start) c.copy_of-2.new.enc c.copy_of-2.new.self.slots.items _ _ c.copy_of-2.result c.from_residual-in_err-copy_of-2.result _ c.in_err-copy_of-2.was (err_from_is_err_and c.from_residual-in_err-copy_of-2.result c.from_residual-in_err-copy_of-2.ensures.1) (c.copy_of-2.ensures (board_of start) m.at again)

pub loop-step-init : goal.loop-step-init
loop-step-init c start ready fits follows =
    let small = at_small start (c.args.enc.now, c.args.board.now.slots.items) c.args.met (climb_first start _ _ fits).round.itself in
    let m = went (board_of start) c.copy_of.new.enc c.copy_of.new.self.slots.items _ c.copy_of.result _ c.in_ok-copy_of.was (c.copy_of.ensures (board_of start) ready.at (inl small)) in
    let again = subst (Fits (board_of start) 1) (sym m.here) (inl small) in
    let w = went (board_of start) c.copy_of-2.new.enc c.copy_of-2.new.self.slots.items _ c.copy_of-2.result _ c.in_ok-copy_of-2.was (c.copy_of-2.ensures (board_of start) m.at again) in
    retraced_first start (c.args.enc.now, c.args.board.now.slots.items) (c.copy_of.new.enc, c.copy_of.new.self.slots.items) (c.copy_of-2.new.enc, c.copy_of-2.new.self.slots.items) c.args.met c.args.takers c.args.steps.now (omega (arith, c.requires.met, c.requires.apart)) (within_now start (c.args.enc.now, c.args.board.now.slots.items) c.args.takers ready.at (omega (arith, c.requires.places))) ready m w follows

pub retrace_step-requires-clause-ready : goal.retrace_step-requires-clause-ready
retrace_step-requires-clause-ready c =
    let start = c.requires.ready.0 in
    let ready = c.requires.ready.1 in
    let fits = c.requires.ready.2 in
    let follows = c.requires.ready.3 in
    let more = drop_more c.args.steps.now c.loop-step.step-index (Grow (record { 0 = 0 })) c.loop-step-test.true in
    let at = subst (RetracedOn start (c.args.enc.now, c.args.board.now.slots.items) (c.loop-step.enc, c.loop-step.board.slots.items) c.args.met c.args.takers) more (c.loop-step.invariant start ready fits follows) in
    (start, (c.args.enc.now, c.args.board.now.slots.items), c.args.met, drop (c.loop-step.step-index + 1) c.args.steps.now, at, fits)

pub retrace_step-requires-clause-places : goal.retrace_step-requires-clause-places
retrace_step-requires-clause-places c =
    let start = c.requires.ready.0 in
    let ready = c.requires.ready.1 in
    let fits = c.requires.ready.2 in
    let follows = c.requires.ready.3 in
    let now = (c.loop-step.invariant start ready fits follows).3.climbs.changed.ready.at in
    let e : length c.loop-step.enc.actions ≡ length c.args.enc.now.actions = same_actions (board_of start) c.args.enc.now c.loop-step.enc c.args.board.now.slots.items c.loop-step.board.slots.items ready.at now in
    let l : length c.loop-step.board.slots.items ≡ length c.args.board.now.slots.items = same_length start (c.args.enc.now, c.args.board.now.slots.items) (c.loop-step.enc, c.loop-step.board.slots.items) ready.at now in
    omega (arith, c.requires.places)

pub retrace_step-requires-clause-high : goal.retrace_step-requires-clause-high
retrace_step-requires-clause-high c = omega (arith, c.requires.met, c.requires.apart)

pub returns-in_err-retrace_step : goal.returns-in_err-retrace_step
returns-in_err-retrace_step c start ready fits follows =
    let more = drop_more c.args.steps.now c.loop-step.step-index (Grow (record { 0 = 0 })) c.loop-step-test.true in
    let at = subst (RetracedOn start (c.args.enc.now, c.args.board.now.slots.items) (c.loop-step.enc, c.loop-step.board.slots.items) c.args.met c.args.takers) more (c.loop-step.invariant start ready fits follows) in
    passed (board_of start) c.retrace_step.new.enc c.retrace_step.new.board.slots.items _ _ c.retrace_step.result c.from_residual-in_err-retrace_step.result _ c.in_err-retrace_step.was (err_from_is_err_and c.from_residual-in_err-retrace_step.result c.from_residual-in_err-retrace_step.ensures.1) (c.retrace_step.ensures start (c.args.enc.now, c.args.board.now.slots.items) c.args.met (drop (c.loop-step.step-index + 1) c.args.steps.now) at fits)

pub loop-step-preserved : goal.loop-step-preserved
loop-step-preserved c start ready fits follows =
    let more = drop_more c.args.steps.now c.loop-step.step-index (Grow (record { 0 = 0 })) c.loop-step-test.true in
    let at = subst (RetracedOn start (c.args.enc.now, c.args.board.now.slots.items) (c.loop-step.enc, c.loop-step.board.slots.items) c.args.met c.args.takers) more (c.loop-step.invariant start ready fits follows) in
    went (board_of start) c.retrace_step.new.enc c.retrace_step.new.board.slots.items _ c.retrace_step.result _ c.in_ok-retrace_step.was (c.retrace_step.ensures start (c.args.enc.now, c.args.board.now.slots.items) c.args.met (drop (c.loop-step.step-index + 1) c.args.steps.now) at fits)

pub returns : goal.returns
returns c start ready fits follows =
    retraced_all start (c.args.enc.now, c.args.board.now.slots.items) (c.loop-step.enc, c.loop-step.board.slots.items) c.args.met c.args.takers
    (subst (RetracedOn start (c.args.enc.now, c.args.board.now.slots.items) (c.loop-step.enc, c.loop-step.board.slots.items) c.args.met c.args.takers) (drop_all c.loop-step.step-index c.args.steps.now (omega (arith, c.loop-step-test.false))) (c.loop-step.invariant start ready fits follows))
