use Rattle.std.proofs.Common.{◌+◌, arith, length}
use Rattle.std.proofs.lemmas.Result.{err_from_is_err_and}
use Rattle.slot_board.specs.Board.{Scene}
use Rattle.slot_board.proofs.Endings.{found_of, passed_on}
use Rattle.fair_plan.proofs.Boards.{action_still, actions_are, leaves_with, places_still}
use Rattle.fair_plan.proofs.Growth.{climbs_after, climbs_not}
use Rattle.fair_plan.proofs.takers.climb_by.Goals as goal

pub returns-in_err-has_rest : goal.returns-in_err-has_rest
returns-in_err-has_rest c origin there =
    passed_on origin.start c.has_rest.new.enc c.has_rest.new.board.slots.items _ _ c.has_rest.result c.from_residual.result _ c.in_err-has_rest.was (err_from_is_err_and c.from_residual.result c.from_residual.ensures.1) (c.has_rest.ensures origin there)

pub returns-then-not-branch : goal.returns-then-not-branch
returns-then-not-branch c origin there =
    let x : Scene = (c.args.enc.now, c.args.board.now.slots.items) in
    let y : Scene = (c.has_rest.new.enc, c.has_rest.new.board.slots.items) in
    let rest = found_of origin.start c.has_rest.new.enc c.has_rest.new.board.slots.items _ c.has_rest.result _ c.in_ok-has_rest.was (c.has_rest.ensures origin there) in
    (rest.there, climbs_not origin x y c.args.a.0 _ rest)

pub climb_hits-requires-clause-ready : goal.climb_hits-requires-clause-ready
climb_hits-requires-clause-ready c =
    let r = c.requires.ready in
    let rest = found_of r.0.start c.has_rest.new.enc c.has_rest.new.board.slots.items _ c.has_rest.result _ c.in_ok-has_rest.was (c.has_rest.ensures r.0 r.1) in
    (r.0, rest.there)

pub climb_hits-requires-clause-action : goal.climb_hits-requires-clause-action
climb_hits-requires-clause-action c =
    let r = c.requires.ready in
    let rest = found_of r.0.start c.has_rest.new.enc c.has_rest.new.board.slots.items _ c.has_rest.result _ c.in_ok-has_rest.was (c.has_rest.ensures r.0 r.1) in
    action_still r.0 (c.args.enc.now, c.args.board.now.slots.items) (c.has_rest.new.enc, c.has_rest.new.board.slots.items) r.1 rest.there c.args.a.0 c.requires.action

pub climb_hits-requires-clause-places : goal.climb_hits-requires-clause-places
climb_hits-requires-clause-places c =
    let r = c.requires.ready in
    let x : Scene = (c.args.enc.now, c.args.board.now.slots.items) in
    let y : Scene = (c.has_rest.new.enc, c.has_rest.new.board.slots.items) in
    let rest = found_of r.0.start c.has_rest.new.enc c.has_rest.new.board.slots.items _ c.has_rest.result _ c.in_ok-has_rest.was (c.has_rest.ensures r.0 r.1) in
    let few = places_still r.0 x y r.1 rest.there (c.args.takers + length c.args.enc.now.actions) c.requires.places in
    let e = actions_are r.0 x r.1 in
    let f = actions_are r.0 y rest.there in
    omega (arith, few, e, f)

pub returns : goal.returns
returns c origin there =
    let x : Scene = (c.args.enc.now, c.args.board.now.slots.items) in
    let y : Scene = (c.has_rest.new.enc, c.has_rest.new.board.slots.items) in
    let z : Scene = (c.climb_hits.new.enc, c.climb_hits.new.board.slots.items) in
    let rest = found_of origin.start c.has_rest.new.enc c.has_rest.new.board.slots.items _ c.has_rest.result _ c.in_ok-has_rest.was (c.has_rest.ensures origin there) in
    leaves_with origin z _ _ c.climb_hits.result (λ now climbs. climbs_after origin x y z c.args.a.0 _ rest climbs) (c.climb_hits.ensures origin rest.there)
