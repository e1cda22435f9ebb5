use Rattle.std.proofs.Common.{◌+◌, arith}
use Rattle.std.proofs.lemmas.Result.{err_from_is_err_and}
use Rattle.slot_board.specs.Board.{Scene}
use Rattle.slot_board.proofs.BoardSlots.{passed}
use Rattle.fair_plan.proofs.Boards.{actions_same, done, low, places_still}
use Rattle.fair_plan.proofs.Growth.{climbs_more, climbs_none}
use Rattle.fair_plan.proofs.takers.climb_once.Goals as goal

pub make-requires : goal.make-requires
make-requires c = let r = c.requires.ready in (r.0, r.1, ((low r.0 1 (omega arith), low r.0 2 (omega arith)), tt))

pub returns-in_err-make : goal.returns-in_err-make
returns-in_err-make c origin there =
    passed origin.start c.make.new.enc c.make.new.board.slots.items _ _ c.make.result c.from_residual.result _ c.in_err-make.was (err_from_is_err_and c.from_residual.result c.from_residual.ensures.1)
    (c.make.ensures origin there ((low origin 1 (omega arith), low origin 2 (omega arith)), tt))

pub loop-a-init : goal.loop-a-init
loop-a-init c origin there =
    let x : Scene = (c.args.enc.now, c.args.board.now.slots.items) in
    let y : Scene = (c.make.new.enc, c.make.new.board.slots.items) in
    let first = done origin y _ c.make.result _ c.in_ok-make.was (c.make.ensures origin there ((low origin 1 (omega arith), low origin 2 (omega arith)), tt)) in
    (first.0, climbs_none origin x y first.1)

pub climb_by-requires-clause-ready : goal.climb_by-requires-clause-ready
climb_by-requires-clause-ready c = let r = c.requires.ready in (r.0, (c.loop-a.invariant r.0 r.1).0)

pub climb_by-requires-clause-action : goal.climb_by-requires-clause-action
climb_by-requires-clause-action c =
    let r = c.requires.ready in
    let e = actions_same r.0 (c.args.enc.now, c.args.board.now.slots.items) (c.loop-a.enc, c.loop-a.board.slots.items) r.1 (c.loop-a.invariant r.0 r.1).0 c.args.actions c.requires.actions in
    omega (arith, e)

pub climb_by-requires-clause-places : goal.climb_by-requires-clause-places
climb_by-requires-clause-places c =
    let r = c.requires.ready in
    let e = actions_same r.0 (c.args.enc.now, c.args.board.now.slots.items) (c.loop-a.enc, c.loop-a.board.slots.items) r.1 (c.loop-a.invariant r.0 r.1).0 c.args.actions c.requires.actions in
    let few = places_still r.0 (c.args.enc.now, c.args.board.now.slots.items) (c.loop-a.enc, c.loop-a.board.slots.items) r.1 (c.loop-a.invariant r.0 r.1).0 (c.args.takers + c.args.actions) c.requires.places in
    omega (arith, e, few)

pub returns-in_err-climb_by : goal.returns-in_err-climb_by
returns-in_err-climb_by c origin there =
    passed origin.start c.climb_by.new.enc c.climb_by.new.board.slots.items _ _ c.climb_by.result c.from_residual-in_err-climb_by.result _ c.in_err-climb_by.was (err_from_is_err_and c.from_residual-in_err-climb_by.result c.from_residual-in_err-climb_by.ensures.1)
    (c.climb_by.ensures origin (c.loop-a.invariant origin there).0)

pub loop-a-preserved : goal.loop-a-preserved
loop-a-preserved c origin there =
    let x : Scene = (c.args.enc.now, c.args.board.now.slots.items) in
    let y : Scene = (c.loop-a.enc, c.loop-a.board.slots.items) in
    let z : Scene = (c.climb_by.new.enc, c.climb_by.new.board.slots.items) in
    let k = c.loop-a.invariant origin there in
    let more = done origin z _ c.climb_by.result _ c.in_ok-climb_by.was (c.climb_by.ensures origin k.0) in
    (more.0, climbs_more x y z k.1 more.1)

pub returns : goal.returns
returns c origin there = let k = c.loop-a.invariant origin there in k
