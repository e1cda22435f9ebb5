use Rattle.std.proofs.Common.{◌≡◌, arith, length}
use Rattle.std.proofs.lemmas.Result.{err_from_is_err_and}
use Rattle.slot_board.specs.Board.{Scene}
use Rattle.slot_board.proofs.BoardSlots.{passed}
use Rattle.fair_plan.specs.Boards.{actions_of}
use Rattle.fair_plan.proofs.Boards.{actions_are, done}
use Rattle.fair_plan.proofs.Growth.{pairs_all, pairs_more, pairs_none}
use Rattle.fair_plan.proofs.fixpoints.pair_all.Goals as goal

pub loop-a-init : goal.loop-a-init
loop-a-init c origin there = (there, pairs_none origin (c.args.enc.now, c.args.board.now.slots.items))

pub pair_one-requires-clause-ready : goal.pair_one-requires-clause-ready
pair_one-requires-clause-ready c = let r = c.requires.ready in (r.0, (c.loop-a.invariant r.0 r.1).0)

pub pair_one-requires-clause-action : goal.pair_one-requires-clause-action
pair_one-requires-clause-action c =
    let r = c.requires.ready in
    let e : length c.args.enc.now.actions ≡ actions_of r.0 = actions_are r.0 (c.args.enc.now, c.args.board.now.slots.items) r.1 in
    let f : length c.loop-a.enc.actions ≡ actions_of r.0 = actions_are r.0 (c.loop-a.enc, c.loop-a.board.slots.items) (c.loop-a.invariant r.0 r.1).0 in
    omega (arith, c.requires.actions)

pub returns-in_err-pair_one : goal.returns-in_err-pair_one
returns-in_err-pair_one c origin there =
    passed origin.start c.pair_one.new.enc c.pair_one.new.board.slots.items _ _ c.pair_one.result c.from_residual.result _ c.in_err-pair_one.was (err_from_is_err_and c.from_residual.result c.from_residual.ensures.1)
    (c.pair_one.ensures origin (c.loop-a.invariant origin there).0)

pub loop-a-preserved : goal.loop-a-preserved
loop-a-preserved c origin there =
    let x : Scene = (c.args.enc.now, c.args.board.now.slots.items) in
    let y : Scene = (c.loop-a.enc, c.loop-a.board.slots.items) in
    let z : Scene = (c.pair_one.new.enc, c.pair_one.new.board.slots.items) in
    let k = c.loop-a.invariant origin there in
    let e : length c.args.enc.now.actions ≡ actions_of origin = actions_are origin x there in
    let more = done origin z _ c.pair_one.result _ c.in_ok-pair_one.was (c.pair_one.ensures origin k.0) in
    (more.0, pairs_more origin x y z c.loop-a.a (omega (arith, c.requires.actions)) k.1 more.1)

pub returns : goal.returns
returns c origin there =
    let x : Scene = (c.args.enc.now, c.args.board.now.slots.items) in
    let y : Scene = (c.loop-a.enc, c.loop-a.board.slots.items) in
    let e : length c.args.enc.now.actions ≡ actions_of origin = actions_are origin x there in
    let k = c.loop-a.invariant origin there in
    (k.0, pairs_all origin x y c.loop-a.a (omega (arith, c.requires.actions)) k.1)
