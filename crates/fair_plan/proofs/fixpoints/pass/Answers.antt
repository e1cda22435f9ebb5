use Rattle.std.proofs.Common.{◌≡◌, arith, length}
use Rattle.std.proofs.lemmas.Result.{err_from_is_err_and}
use Rattle.slot_board.specs.Board.{Scene}
use Rattle.slot_board.proofs.BoardSlots.{passed}
use Rattle.fair_plan.specs.Boards.{actions_of}
use Rattle.fair_plan.proofs.Boards.{actions_are, done, low}
use Rattle.fair_plan.proofs.Growth.{pass_all, pass_begun, pass_more}
use Rattle.fair_plan.proofs.fixpoints.pass.Goals as goal

pub make-requires : goal.make-requires
make-requires c = let r = c.requires.ready in (r.0, r.1, ((low r.0 1 (omega arith), low r.0 2 (omega arith)), tt))

pub returns-in_err-make : goal.returns-in_err-make
returns-in_err-make c origin there =
    passed origin.start c.make.new.enc c.make.new.board.slots.items _ _ c.make.result c.from_residual.result _ c.in_err-make.was (err_from_is_err_and c.from_residual.result c.from_residual.ensures.1)
    (c.make.ensures origin there ((low origin 1 (omega arith), low origin 2 (omega arith)), tt))

pub loop-a-init : goal.loop-a-init
loop-a-init c origin there =
    let x : Scene = (c.args.enc.now, c.args.board.now.slots.items) in
    let y : Scene = (c.make.new.enc, c.make.new.board.slots.items) in
    let first = done origin y _ c.make.result _ c.in_ok-make.was (c.make.ensures origin there ((low origin 1 (omega arith), low origin 2 (omega arith)), tt)) in
    (first.0, pass_begun origin x y first.1)

pub near_by-requires-clause-ready : goal.near_by-requires-clause-ready
near_by-requires-clause-ready c = let r = c.requires.ready in (r.0, (c.loop-a.invariant r.0 r.1).0)

pub near_by-requires-clause-action : goal.near_by-requires-clause-action
near_by-requires-clause-action c =
    let r = c.requires.ready in
    let e : length c.args.enc.now.actions ≡ actions_of r.0 = actions_are r.0 (c.args.enc.now, c.args.board.now.slots.items) r.1 in
    let f : length c.loop-a.enc.actions ≡ actions_of r.0 = actions_are r.0 (c.loop-a.enc, c.loop-a.board.slots.items) (c.loop-a.invariant r.0 r.1).0 in
    omega (arith, c.requires.actions)

pub returns-in_err-near_by : goal.returns-in_err-near_by
returns-in_err-near_by c origin there =
    passed origin.start c.near_by.new.enc c.near_by.new.board.slots.items _ _ c.near_by.result c.from_residual-in_err-near_by.result _ c.in_err-near_by.was (err_from_is_err_and c.from_residual-in_err-near_by.result c.from_residual-in_err-near_by.ensures.1)
    (c.near_by.ensures origin (c.loop-a.invariant origin there).0)

pub loop-a-preserved : goal.loop-a-preserved
loop-a-preserved c origin there =
    let x : Scene = (c.args.enc.now, c.args.board.now.slots.items) in
    let y : Scene = (c.loop-a.enc, c.loop-a.board.slots.items) in
    let z : Scene = (c.near_by.new.enc, c.near_by.new.board.slots.items) in
    let k = c.loop-a.invariant origin there in
    let e : length c.args.enc.now.actions ≡ actions_of origin = actions_are origin x there in
    let more = done origin z _ c.near_by.result _ c.in_ok-near_by.was (c.near_by.ensures origin k.0) in
    (more.0, pass_more origin x y z c.loop-a.a (omega (arith, c.requires.actions)) k.0 k.1 more.1)

pub returns : goal.returns
returns c origin there =
    let x : Scene = (c.args.enc.now, c.args.board.now.slots.items) in
    let y : Scene = (c.loop-a.enc, c.loop-a.board.slots.items) in
    let e : length c.args.enc.now.actions ≡ actions_of origin = actions_are origin x there in
    let k = c.loop-a.invariant origin there in
    (k.0, pass_all origin x y c.loop-a.a (omega (arith, c.requires.actions)) k.1)
