use Rattle.std.proofs.Common.{◌+◌, arith}
use Rattle.std.proofs.lemmas.Result.{err_from_is_err_and}
use Rattle.slot_board.proofs.BoardSlots.{passed}
use Rattle.fair_plan.proofs.Boards.{place_still, places_still, actions_same, done, in_start, leaves_with, low}
use Rattle.fair_plan.proofs.takers.take_end.Goals as goal

pub make-requires : goal.make-requires
make-requires c =
    let r = c.requires.ready in
    (r.0, r.1, (low r.0 6 (omega arith), ((low r.0 7 (omega arith), in_start r.0 (c.args.enc.now, c.args.board.now.slots.items) r.1 c.args.win c.requires.place), tt)))

pub returns-in_err-make : goal.returns-in_err-make
returns-in_err-make c origin there =
    passed origin.start c.make.new.enc c.make.new.board.slots.items _ _ c.make.result c.from_residual.result _ c.in_err-make.was (err_from_is_err_and c.from_residual.result c.from_residual.ensures.1)
    (c.make.ensures origin there (low origin 6 (omega arith), ((low origin 7 (omega arith), in_start origin (c.args.enc.now, c.args.board.now.slots.items) there c.args.win c.requires.place), tt)))

pub pair_within-requires-clause-ready : goal.pair_within-requires-clause-ready
pair_within-requires-clause-ready c =
    let r = c.requires.ready in
    let d0 = done r.0 (c.make.new.enc, c.make.new.board.slots.items) _ c.make.result _ c.in_ok-make.was (c.make.ensures r.0 r.1 (low r.0 6 (omega arith), ((low r.0 7 (omega arith), in_start r.0 (c.args.enc.now, c.args.board.now.slots.items) r.1 c.args.win c.requires.place), tt))) in
    (r.0, d0.0)

pub pair_within-requires-clause-actions : goal.pair_within-requires-clause-actions
pair_within-requires-clause-actions c =
    let r = c.requires.ready in
    let d0 = done r.0 (c.make.new.enc, c.make.new.board.slots.items) _ c.make.result _ c.in_ok-make.was (c.make.ensures r.0 r.1 (low r.0 6 (omega arith), ((low r.0 7 (omega arith), in_start r.0 (c.args.enc.now, c.args.board.now.slots.items) r.1 c.args.win c.requires.place), tt))) in
    actions_same r.0 (c.args.enc.now, c.args.board.now.slots.items) (c.make.new.enc, c.make.new.board.slots.items) r.1 d0.0 c.args.actions c.requires.actions

pub pair_within-requires-clause-place : goal.pair_within-requires-clause-place
pair_within-requires-clause-place c =
    let r = c.requires.ready in
    let d0 = done r.0 (c.make.new.enc, c.make.new.board.slots.items) _ c.make.result _ c.in_ok-make.was (c.make.ensures r.0 r.1 (low r.0 6 (omega arith), ((low r.0 7 (omega arith), in_start r.0 (c.args.enc.now, c.args.board.now.slots.items) r.1 c.args.win c.requires.place), tt))) in
    place_still r.0 (c.args.enc.now, c.args.board.now.slots.items) (c.make.new.enc, c.make.new.board.slots.items) r.1 d0.0 (c.args.win) c.requires.place

pub returns-in_err-pair_within : goal.returns-in_err-pair_within
returns-in_err-pair_within c origin there =
    let d0 = done origin (c.make.new.enc, c.make.new.board.slots.items) _ c.make.result _ c.in_ok-make.was (c.make.ensures origin there (low origin 6 (omega arith), ((low origin 7 (omega arith), in_start origin (c.args.enc.now, c.args.board.now.slots.items) there c.args.win c.requires.place), tt))) in
    passed origin.start c.pair_within.new.enc c.pair_within.new.board.slots.items _ _ c.pair_within.result c.from_residual-in_err-pair_within.result _ c.in_err-pair_within.was (err_from_is_err_and c.from_residual-in_err-pair_within.result c.from_residual-in_err-pair_within.ensures.1)
    (c.pair_within.ensures origin d0.0)

pub share-requires-clause-ready : goal.share-requires-clause-ready
share-requires-clause-ready c =
    let r = c.requires.ready in
    let d0 = done r.0 (c.make.new.enc, c.make.new.board.slots.items) _ c.make.result _ c.in_ok-make.was (c.make.ensures r.0 r.1 (low r.0 6 (omega arith), ((low r.0 7 (omega arith), in_start r.0 (c.args.enc.now, c.args.board.now.slots.items) r.1 c.args.win c.requires.place), tt))) in
    let d1 = done r.0 (c.pair_within.new.enc, c.pair_within.new.board.slots.items) _ c.pair_within.result _ c.in_ok-pair_within.was (c.pair_within.ensures r.0 d0.0) in
    (r.0, d1.0)

pub share-requires-clause-actions : goal.share-requires-clause-actions
share-requires-clause-actions c =
    let r = c.requires.ready in
    let d0 = done r.0 (c.make.new.enc, c.make.new.board.slots.items) _ c.make.result _ c.in_ok-make.was (c.make.ensures r.0 r.1 (low r.0 6 (omega arith), ((low r.0 7 (omega arith), in_start r.0 (c.args.enc.now, c.args.board.now.slots.items) r.1 c.args.win c.requires.place), tt))) in
    let d1 = done r.0 (c.pair_within.new.enc, c.pair_within.new.board.slots.items) _ c.pair_within.result _ c.in_ok-pair_within.was (c.pair_within.ensures r.0 d0.0) in
    actions_same r.0 (c.args.enc.now, c.args.board.now.slots.items) (c.pair_within.new.enc, c.pair_within.new.board.slots.items) r.1 d1.0 c.args.actions c.requires.actions

pub share-requires-clause-places : goal.share-requires-clause-places
share-requires-clause-places c =
    let r = c.requires.ready in
    let d0 = done r.0 (c.make.new.enc, c.make.new.board.slots.items) _ c.make.result _ c.in_ok-make.was (c.make.ensures r.0 r.1 (low r.0 6 (omega arith), ((low r.0 7 (omega arith), in_start r.0 (c.args.enc.now, c.args.board.now.slots.items) r.1 c.args.win c.requires.place), tt))) in
    let d1 = done r.0 (c.pair_within.new.enc, c.pair_within.new.board.slots.items) _ c.pair_within.result _ c.in_ok-pair_within.was (c.pair_within.ensures r.0 d0.0) in
    places_still r.0 (c.args.enc.now, c.args.board.now.slots.items) (c.pair_within.new.enc, c.pair_within.new.board.slots.items) r.1 d1.0 (c.args.takers + c.args.actions) c.requires.places

pub returns : goal.returns
returns c origin there =
    let d0 = done origin (c.make.new.enc, c.make.new.board.slots.items) _ c.make.result _ c.in_ok-make.was (c.make.ensures origin there (low origin 6 (omega arith), ((low origin 7 (omega arith), in_start origin (c.args.enc.now, c.args.board.now.slots.items) there c.args.win c.requires.place), tt))) in
    let d1 = done origin (c.pair_within.new.enc, c.pair_within.new.board.slots.items) _ c.pair_within.result _ c.in_ok-pair_within.was (c.pair_within.ensures origin d0.0) in
    leaves_with origin (c.share.new.enc, c.share.new.board.slots.items) _ _ c.share.result (λ now after. tt)
    (c.share.ensures origin d1.0)
