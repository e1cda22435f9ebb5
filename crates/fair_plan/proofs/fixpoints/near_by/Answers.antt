use Rattle.std.proofs.lemmas.Result.{err_from_is_err_and}
use Rattle.slot_board.specs.Board.{Scene}
use Rattle.slot_board.proofs.Endings.{found_of, passed_on}
use Rattle.fair_plan.proofs.Boards.{action_in, action_still, leaves_with}
use Rattle.fair_plan.proofs.Growth.{adds_after, adds_none}
use Rattle.fair_plan.proofs.fixpoints.near_by.Goals as goal

pub returns-in_err-has_rest : goal.returns-in_err-has_rest
returns-in_err-has_rest c origin there =
    passed_on origin.start c.has_rest.new.enc c.has_rest.new.board.slots.items _ _ c.has_rest.result c.from_residual.result _ c.in_err-has_rest.was (err_from_is_err_and c.from_residual.result c.from_residual.ensures.1) (c.has_rest.ensures origin there)

pub returns-then-not-branch : goal.returns-then-not-branch
returns-then-not-branch c origin there =
    let x : Scene = (c.args.enc.now, c.args.board.now.slots.items) in
    let y : Scene = (c.has_rest.new.enc, c.has_rest.new.board.slots.items) in
    let rest = found_of origin.start c.has_rest.new.enc c.has_rest.new.board.slots.items _ c.has_rest.result _ c.in_ok-has_rest.was (c.has_rest.ensures origin there) in
    (rest.there, adds_none origin x y c.args.a.0 _ rest (let f = c.if-not-branch.true in cc))

pub near_hits-requires-clause-ready : goal.near_hits-requires-clause-ready
near_hits-requires-clause-ready c =
    let r = c.requires.ready in
    let rest = found_of r.0.start c.has_rest.new.enc c.has_rest.new.board.slots.items _ c.has_rest.result _ c.in_ok-has_rest.was (c.has_rest.ensures r.0 r.1) in
    (r.0, rest.there)

pub near_hits-requires-clause-action : goal.near_hits-requires-clause-action
near_hits-requires-clause-action c =
    let r = c.requires.ready in
    let rest = found_of r.0.start c.has_rest.new.enc c.has_rest.new.board.slots.items _ c.has_rest.result _ c.in_ok-has_rest.was (c.has_rest.ensures r.0 r.1) in
    action_still r.0 (c.args.enc.now, c.args.board.now.slots.items) (c.has_rest.new.enc, c.has_rest.new.board.slots.items) r.1 rest.there c.args.a.0 c.requires.action

pub returns : goal.returns
returns c origin there =
    let x : Scene = (c.args.enc.now, c.args.board.now.slots.items) in
    let y : Scene = (c.has_rest.new.enc, c.has_rest.new.board.slots.items) in
    let z : Scene = (c.near_hits.new.enc, c.near_hits.new.board.slots.items) in
    let below = action_in origin x there c.args.a.0 c.requires.action in
    let rest = found_of origin.start c.has_rest.new.enc c.has_rest.new.board.slots.items _ c.has_rest.result _ c.in_ok-has_rest.was (c.has_rest.ensures origin there) in
    leaves_with origin z _ _ c.near_hits.result (λ now adds. adds_after origin x y z c.args.a.0 _ below rest adds) (c.near_hits.ensures origin rest.there)
