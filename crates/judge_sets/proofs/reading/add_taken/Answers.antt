use Rattle.std.proofs.Common.{arith}
use Rattle.std.proofs.lemmas.Result.{err_from_is_err_and}
use Rattle.slot_board.specs.Board.{set_at}
use Rattle.slot_board.proofs.BoardSlots.{left_with, passed, went}
use Rattle.board_steps.proofs.StepLemmas.{shows_moved}
use Rattle.judge_sets.proofs.ReadSteps.{taken_can, taken_made}
use Rattle.judge_sets.proofs.StepFacts.{place_in, shown, slot_in}
use Rattle.judge_sets.proofs.reading.add_taken.Goals as goal

pub look_at_new-requires-clause-working : goal.look_at_new-requires-clause-working
look_at_new-requires-clause-working c = let r = c.requires in (r.0.start, r.3.there.at)

pub look_at_new-requires-clause-place : goal.look_at_new-requires-clause-place
look_at_new-requires-clause-place c =
    let r = c.requires in
    slot_in r.0 c.args.enc.now c.args.board.now.slots.items r.3.there 3 (place_in r.0 3 (omega arith))

pub returns-in_err-look_at_new : goal.returns-in_err-look_at_new
returns-in_err-look_at_new c scene before rule has next same =
    let enc = c.args.enc.now in
    let slots = c.args.board.now.slots.items in
    passed scene.start c.look_at_new.new.enc c.look_at_new.new.board.slots.items _ _ c.look_at_new.result c.from_residual.result _ c.in_err-look_at_new.was (err_from_is_err_and c.from_residual.result c.from_residual.ensures.1)
    (c.look_at_new.ensures scene.start has.there.at (taken_can scene before rule c.args.a.0 c.taken_at-taken.result next same c.taken_at-taken.ensures enc slots has).0.3)

pub make_all-requires : goal.make_all-requires
make_all-requires c =
    let r = c.requires in
    let enc = c.args.enc.now in
    let slots = c.args.board.now.slots.items in
    let moved = went r.0.start c.look_at_new.new.enc c.look_at_new.new.board.slots.items _ c.look_at_new.result _ c.in_ok-look_at_new.was (c.look_at_new.ensures r.0.start r.3.there.at (taken_can r.0 r.1 r.2 c.args.a.0 c.taken_at-taken.result r.4 r.5 c.taken_at-taken.ensures enc slots r.3).0.3) in (
      r.0.start,
      _,
      shows_moved r.0.start enc c.look_at_new.new.enc slots c.look_at_new.new.board.slots.items (set_at enc.sets slots) 3 _ (shown r.0 enc slots r.3.there) moved,
      (taken_can r.0 r.1 r.2 c.args.a.0 c.taken_at-taken.result r.4 r.5 c.taken_at-taken.ensures enc slots r.3).1,
    )

pub returns : goal.returns
returns c scene before rule has next same =
    let enc = c.args.enc.now in
    let slots = c.args.board.now.slots.items in
    let moved = went scene.start c.look_at_new.new.enc c.look_at_new.new.board.slots.items _ c.look_at_new.result _ c.in_ok-look_at_new.was (c.look_at_new.ensures scene.start has.there.at (taken_can scene before rule c.args.a.0 c.taken_at-taken.result next same c.taken_at-taken.ensures enc slots has).0.3) in
    left_with scene.start c.make_all.new.enc c.make_all.new.board.slots.items _ _ c.make_all.result
    (λ shows. taken_made scene before rule c.args.a.0 c.taken_at-taken.result next same c.taken_at-taken.ensures enc slots has c.make_all.new.enc c.make_all.new.board.slots.items shows)
    (c.make_all.ensures scene.start _ (shows_moved scene.start enc c.look_at_new.new.enc slots c.look_at_new.new.board.slots.items (set_at enc.sets slots) 3 _ (shown scene enc slots has.there) moved) (taken_can scene before rule c.args.a.0 c.taken_at-taken.result next same c.taken_at-taken.ensures enc slots has).1)
