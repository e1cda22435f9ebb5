use Rattle.std.proofs.Common.{◌+◌, arith}
use Rattle.std.proofs.lemmas.Result.{err_from_is_err_and}
use Rattle.slot_board.proofs.BoardSlots.{passed}
use Rattle.fair_plan.proofs.Boards.{place_still, places_still, actions_same, done, leaves_with, low_in}
use Rattle.fair_plan.proofs.takers.take_stage.Goals as goal

pub put_condition-requires-clause-place : goal.put_condition-requires-clause-place
put_condition-requires-clause-place c =
    let r = c.requires.ready in
    low_in r.0 c.args.enc.now c.args.board.now.slots.items r.1.at 6 (omega arith)

pub put_condition-requires-clause-cond : goal.put_condition-requires-clause-cond
put_condition-requires-clause-cond c =
    let r = c.requires.ready in
    c.requires.stage.guard

pub returns-in_err-put_condition : goal.returns-in_err-put_condition
returns-in_err-put_condition c origin there =
    passed origin.start c.put_condition.new.enc c.put_condition.new.board.slots.items _ _ c.put_condition.result c.from_residual.result _ c.in_err-put_condition.was (err_from_is_err_and c.from_residual.result c.from_residual.ensures.1)
    (c.put_condition.ensures origin there)

pub pair_within-requires-clause-ready : goal.pair_within-requires-clause-ready
pair_within-requires-clause-ready c =
    let r = c.requires.ready in
    let d0 = done r.0 (c.put_condition.new.enc, c.put_condition.new.board.slots.items) _ c.put_condition.result _ c.in_ok-put_condition.was (c.put_condition.ensures r.0 r.1) in
    (r.0, d0.0)

pub pair_within-requires-clause-actions : goal.pair_within-requires-clause-actions
pair_within-requires-clause-actions c =
    let r = c.requires.ready in
    let d0 = done r.0 (c.put_condition.new.enc, c.put_condition.new.board.slots.items) _ c.put_condition.result _ c.in_ok-put_condition.was (c.put_condition.ensures r.0 r.1) in
    actions_same r.0 (c.args.enc.now, c.args.board.now.slots.items) (c.put_condition.new.enc, c.put_condition.new.board.slots.items) r.1 d0.0 c.args.actions c.requires.actions

pub pair_within-requires-clause-place : goal.pair_within-requires-clause-place
pair_within-requires-clause-place c =
    let r = c.requires.ready in
    let d0 = done r.0 (c.put_condition.new.enc, c.put_condition.new.board.slots.items) _ c.put_condition.result _ c.in_ok-put_condition.was (c.put_condition.ensures r.0 r.1) in
    place_still r.0 (c.args.enc.now, c.args.board.now.slots.items) (c.put_condition.new.enc, c.put_condition.new.board.slots.items) r.1 d0.0 c.args.at.win c.requires.win

pub returns-in_err-pair_within : goal.returns-in_err-pair_within
returns-in_err-pair_within c origin there =
    let d0 = done origin (c.put_condition.new.enc, c.put_condition.new.board.slots.items) _ c.put_condition.result _ c.in_ok-put_condition.was (c.put_condition.ensures origin there) in
    passed origin.start c.pair_within.new.enc c.pair_within.new.board.slots.items _ _ c.pair_within.result c.from_residual-in_err-pair_within.result _ c.in_err-pair_within.was (err_from_is_err_and c.from_residual-in_err-pair_within.result c.from_residual-in_err-pair_within.ensures.1)
    (c.pair_within.ensures origin d0.0)

pub climb-requires-clause-ready : goal.climb-requires-clause-ready
climb-requires-clause-ready c =
    let r = c.requires.ready in
    let d0 = done r.0 (c.put_condition.new.enc, c.put_condition.new.board.slots.items) _ c.put_condition.result _ c.in_ok-put_condition.was (c.put_condition.ensures r.0 r.1) in
    let d1 = done r.0 (c.pair_within.new.enc, c.pair_within.new.board.slots.items) _ c.pair_within.result _ c.in_ok-pair_within.was (c.pair_within.ensures r.0 d0.0) in
    (r.0, d1.0)

pub climb-requires-clause-actions : goal.climb-requires-clause-actions
climb-requires-clause-actions c =
    let r = c.requires.ready in
    let d0 = done r.0 (c.put_condition.new.enc, c.put_condition.new.board.slots.items) _ c.put_condition.result _ c.in_ok-put_condition.was (c.put_condition.ensures r.0 r.1) in
    let d1 = done r.0 (c.pair_within.new.enc, c.pair_within.new.board.slots.items) _ c.pair_within.result _ c.in_ok-pair_within.was (c.pair_within.ensures r.0 d0.0) in
    actions_same r.0 (c.args.enc.now, c.args.board.now.slots.items) (c.pair_within.new.enc, c.pair_within.new.board.slots.items) r.1 d1.0 c.args.actions c.requires.actions

pub climb-requires-clause-places : goal.climb-requires-clause-places
climb-requires-clause-places c =
    let r = c.requires.ready in
    let d0 = done r.0 (c.put_condition.new.enc, c.put_condition.new.board.slots.items) _ c.put_condition.result _ c.in_ok-put_condition.was (c.put_condition.ensures r.0 r.1) in
    let d1 = done r.0 (c.pair_within.new.enc, c.pair_within.new.board.slots.items) _ c.pair_within.result _ c.in_ok-pair_within.was (c.pair_within.ensures r.0 d0.0) in
    places_still r.0 (c.args.enc.now, c.args.board.now.slots.items) (c.pair_within.new.enc, c.pair_within.new.board.slots.items) r.1 d1.0 (c.args.at.takers + c.args.actions) c.requires.places

pub climb-requires-clause-target : goal.climb-requires-clause-target
climb-requires-clause-target c =
    let r = c.requires.ready in
    let d0 = done r.0 (c.put_condition.new.enc, c.put_condition.new.board.slots.items) _ c.put_condition.result _ c.in_ok-put_condition.was (c.put_condition.ensures r.0 r.1) in
    let d1 = done r.0 (c.pair_within.new.enc, c.pair_within.new.board.slots.items) _ c.pair_within.result _ c.in_ok-pair_within.was (c.pair_within.ensures r.0 d0.0) in
    place_still r.0 (c.args.enc.now, c.args.board.now.slots.items) (c.pair_within.new.enc, c.pair_within.new.board.slots.items) r.1 d1.0 c.args.at.met c.requires.met

pub returns : goal.returns
returns c origin there =
    let d0 = done origin (c.put_condition.new.enc, c.put_condition.new.board.slots.items) _ c.put_condition.result _ c.in_ok-put_condition.was (c.put_condition.ensures origin there) in
    let d1 = done origin (c.pair_within.new.enc, c.pair_within.new.board.slots.items) _ c.pair_within.result _ c.in_ok-pair_within.was (c.pair_within.ensures origin d0.0) in
    leaves_with origin (c.climb.new.enc, c.climb.new.board.slots.items) _ _ c.climb.result (λ now after. tt)
    (c.climb.ensures origin d1.0)
