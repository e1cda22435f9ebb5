use Rattle.std.proofs.Common.{arith}
use Rattle.std.proofs.lemmas.Result.{err_from_is_err_and}
use Rattle.slot_board.specs.Board.{set_at}
use Rattle.slot_board.proofs.BoardSlots.{went}
use Rattle.slot_board.proofs.Endings.{passed_on}
use Rattle.judge_sets.proofs.ReadSteps.{states_can, states_made, states_told}
use Rattle.judge_sets.proofs.StepFacts.{place_in, shown, slot_in}
use Rattle.judge_sets.proofs.reading.counts.Goals as goal

pub make_all-requires : goal.make_all-requires
make_all-requires c =
    let r = c.requires in
    let enc = c.args.enc.now in
    let slots = c.args.board.now.slots.items in
    (r.0.start, set_at enc.sets slots, shown r.0 enc slots r.3.read.there, states_can r.0 r.1 r.2 r.4 c.space-states.result enc slots r.3 c.space-states.ensures)

pub returns-in_err-make_all : goal.returns-in_err-make_all
returns-in_err-make_all c scene before rule has next =
    let enc = c.args.enc.now in
    let slots = c.args.board.now.slots.items in
    passed_on scene.start c.make_all.new.enc c.make_all.new.board.slots.items _ _ c.make_all.result c.from_residual.result _ c.in_err-make_all.was (err_from_is_err_and c.from_residual.result c.from_residual.ensures.1)
    (c.make_all.ensures scene.start (set_at enc.sets slots) (shown scene enc slots has.read.there) (states_can scene before rule next c.space-states.result enc slots has c.space-states.ensures))

pub is_none_left-requires-clause-working : goal.is_none_left-requires-clause-working
is_none_left-requires-clause-working c =
    let r = c.requires in
    let enc = c.args.enc.now in
    let slots = c.args.board.now.slots.items in
    let done = went r.0.start c.make_all.new.enc c.make_all.new.board.slots.items _ c.make_all.result _ c.in_ok-make_all.was (c.make_all.ensures r.0.start (set_at enc.sets slots) (shown r.0 enc slots r.3.read.there) (states_can r.0 r.1 r.2 r.4 c.space-states.result enc slots r.3 c.space-states.ensures)) in
    (r.0.start, done.at)

pub is_none_left-requires-clause-place : goal.is_none_left-requires-clause-place
is_none_left-requires-clause-place c =
    let r = c.requires in
    let enc = c.args.enc.now in
    let slots = c.args.board.now.slots.items in
    let done = went r.0.start c.make_all.new.enc c.make_all.new.board.slots.items _ c.make_all.result _ c.in_ok-make_all.was (c.make_all.ensures r.0.start (set_at enc.sets slots) (shown r.0 enc slots r.3.read.there) (states_can r.0 r.1 r.2 r.4 c.space-states.result enc slots r.3 c.space-states.ensures)) in
    slot_in r.0 c.make_all.new.enc c.make_all.new.board.slots.items (record { at = done.at; sound = done.sound }) 3 (place_in r.0 3 (omega arith))

pub returns : goal.returns
returns c scene before rule has next =
    let enc = c.args.enc.now in
    let slots = c.args.board.now.slots.items in
    let done = went scene.start c.make_all.new.enc c.make_all.new.board.slots.items _ c.make_all.result _ c.in_ok-make_all.was (c.make_all.ensures scene.start (set_at enc.sets slots) (shown scene enc slots has.read.there) (states_can scene before rule next c.space-states.result enc slots has c.space-states.ensures)) in (
      states_made scene before rule next c.space-states.result enc slots has c.space-states.ensures c.make_all.new.enc c.make_all.new.board.slots.items done,
      states_told scene before rule next c.space-states.result enc slots has c.space-states.ensures c.make_all.new.enc c.make_all.new.board.slots.items done c.is_none_left.result c.is_none_left.ensures,
    )
