use Rattle.std.proofs.Common.{◌+◌, arith}
use Rattle.std.proofs.lemmas.Result.{err_from_is_err_and}
use Rattle.slot_board.proofs.BoardSlots.{passed}
use Rattle.fair_plan.proofs.Boards.{place_still, places_still, actions_same, done, in_start, leaves_with, low}
use Rattle.fair_plan.proofs.takers.take_visit.Goals as goal

pub make-requires : goal.make-requires
make-requires c =
    let r = c.requires.ready in
    (r.0, r.1, ((low r.0 7 (omega arith), in_start r.0 (c.args.enc.now, c.args.board.now.slots.items) r.1 c.args.met c.requires.met), tt))

pub returns-in_err-make : goal.returns-in_err-make
returns-in_err-make c origin there =
    passed origin.start c.make.new.enc c.make.new.board.slots.items _ _ c.make.result c.from_residual.result _ c.in_err-make.was (err_from_is_err_and c.from_residual.result c.from_residual.ensures.1)
    (c.make.ensures origin there ((low origin 7 (omega arith), in_start origin (c.args.enc.now, c.args.board.now.slots.items) there c.args.met c.requires.met), tt))

pub share-requires-clause-ready : goal.share-requires-clause-ready
share-requires-clause-ready c =
    let r = c.requires.ready in
    let d0 = done r.0 (c.make.new.enc, c.make.new.board.slots.items) _ c.make.result _ c.in_ok-make.was (c.make.ensures r.0 r.1 ((low r.0 7 (omega arith), in_start r.0 (c.args.enc.now, c.args.board.now.slots.items) r.1 c.args.met c.requires.met), tt)) in
    (r.0, d0.0)

pub share-requires-clause-actions : goal.share-requires-clause-actions
share-requires-clause-actions c =
    let r = c.requires.ready in
    let d0 = done r.0 (c.make.new.enc, c.make.new.board.slots.items) _ c.make.result _ c.in_ok-make.was (c.make.ensures r.0 r.1 ((low r.0 7 (omega arith), in_start r.0 (c.args.enc.now, c.args.board.now.slots.items) r.1 c.args.met c.requires.met), tt)) in
    actions_same r.0 (c.args.enc.now, c.args.board.now.slots.items) (c.make.new.enc, c.make.new.board.slots.items) r.1 d0.0 c.args.actions c.requires.actions

pub share-requires-clause-places : goal.share-requires-clause-places
share-requires-clause-places c =
    let r = c.requires.ready in
    let d0 = done r.0 (c.make.new.enc, c.make.new.board.slots.items) _ c.make.result _ c.in_ok-make.was (c.make.ensures r.0 r.1 ((low r.0 7 (omega arith), in_start r.0 (c.args.enc.now, c.args.board.now.slots.items) r.1 c.args.met c.requires.met), tt)) in
    places_still r.0 (c.args.enc.now, c.args.board.now.slots.items) (c.make.new.enc, c.make.new.board.slots.items) r.1 d0.0 (c.args.takers + c.args.actions) c.requires.places

pub returns-in_err-share : goal.returns-in_err-share
returns-in_err-share c origin there =
    let d0 = done origin (c.make.new.enc, c.make.new.board.slots.items) _ c.make.result _ c.in_ok-make.was (c.make.ensures origin there ((low origin 7 (omega arith), in_start origin (c.args.enc.now, c.args.board.now.slots.items) there c.args.met c.requires.met), tt)) in
    passed origin.start c.share.new.enc c.share.new.board.slots.items _ _ c.share.result c.from_residual-in_err-share.result _ c.in_err-share.was (err_from_is_err_and c.from_residual-in_err-share.result c.from_residual-in_err-share.ensures.1)
    (c.share.ensures origin d0.0)

pub climb-requires-clause-ready : goal.climb-requires-clause-ready
climb-requires-clause-ready c =
    let r = c.requires.ready in
    let d0 = done r.0 (c.make.new.enc, c.make.new.board.slots.items) _ c.make.result _ c.in_ok-make.was (c.make.ensures r.0 r.1 ((low r.0 7 (omega arith), in_start r.0 (c.args.enc.now, c.args.board.now.slots.items) r.1 c.args.met c.requires.met), tt)) in
    let d1 = done r.0 (c.share.new.enc, c.share.new.board.slots.items) _ c.share.result _ c.in_ok-share.was (c.share.ensures r.0 d0.0) in
    (r.0, d1.0)

pub climb-requires-clause-actions : goal.climb-requires-clause-actions
climb-requires-clause-actions c =
    let r = c.requires.ready in
    let d0 = done r.0 (c.make.new.enc, c.make.new.board.slots.items) _ c.make.result _ c.in_ok-make.was (c.make.ensures r.0 r.1 ((low r.0 7 (omega arith), in_start r.0 (c.args.enc.now, c.args.board.now.slots.items) r.1 c.args.met c.requires.met), tt)) in
    let d1 = done r.0 (c.share.new.enc, c.share.new.board.slots.items) _ c.share.result _ c.in_ok-share.was (c.share.ensures r.0 d0.0) in
    actions_same r.0 (c.args.enc.now, c.args.board.now.slots.items) (c.share.new.enc, c.share.new.board.slots.items) r.1 d1.0 c.args.actions c.requires.actions

pub climb-requires-clause-places : goal.climb-requires-clause-places
climb-requires-clause-places c =
    let r = c.requires.ready in
    let d0 = done r.0 (c.make.new.enc, c.make.new.board.slots.items) _ c.make.result _ c.in_ok-make.was (c.make.ensures r.0 r.1 ((low r.0 7 (omega arith), in_start r.0 (c.args.enc.now, c.args.board.now.slots.items) r.1 c.args.met c.requires.met), tt)) in
    let d1 = done r.0 (c.share.new.enc, c.share.new.board.slots.items) _ c.share.result _ c.in_ok-share.was (c.share.ensures r.0 d0.0) in
    places_still r.0 (c.args.enc.now, c.args.board.now.slots.items) (c.share.new.enc, c.share.new.board.slots.items) r.1 d1.0 (c.args.takers + c.args.actions) c.requires.places

pub climb-requires-clause-target : goal.climb-requires-clause-target
climb-requires-clause-target c =
    let r = c.requires.ready in
    let d0 = done r.0 (c.make.new.enc, c.make.new.board.slots.items) _ c.make.result _ c.in_ok-make.was (c.make.ensures r.0 r.1 ((low r.0 7 (omega arith), in_start r.0 (c.args.enc.now, c.args.board.now.slots.items) r.1 c.args.met c.requires.met), tt)) in
    let d1 = done r.0 (c.share.new.enc, c.share.new.board.slots.items) _ c.share.result _ c.in_ok-share.was (c.share.ensures r.0 d0.0) in
    place_still r.0 (c.args.enc.now, c.args.board.now.slots.items) (c.share.new.enc, c.share.new.board.slots.items) r.1 d1.0 (c.args.met) c.requires.met

pub returns : goal.returns
returns c origin there =
    let d0 = done origin (c.make.new.enc, c.make.new.board.slots.items) _ c.make.result _ c.in_ok-make.was (c.make.ensures origin there ((low origin 7 (omega arith), in_start origin (c.args.enc.now, c.args.board.now.slots.items) there c.args.met c.requires.met), tt)) in
    let d1 = done origin (c.share.new.enc, c.share.new.board.slots.items) _ c.share.result _ c.in_ok-share.was (c.share.ensures origin d0.0) in
    leaves_with origin (c.climb.new.enc, c.climb.new.board.slots.items) _ _ c.climb.result (λ now after. tt)
    (c.climb.ensures origin d1.0)
