use Rattle.std.proofs.Common.{◌≡◌, ◌+◌, arith, length}
use Rattle.std.proofs.lemmas.Result.{err_from_is_err_and}
use Rattle.slot_board.specs.Board.{Scene}
use Rattle.slot_board.proofs.BoardSlots.{passed}
use Rattle.fair_plan.specs.Boards.{actions_of}
use Rattle.fair_plan.proofs.Boards.{actions_are, done, in_at, le_start}
use Rattle.fair_plan.proofs.Rounds.{comes_all, comes_more, comes_none}
use Rattle.fair_plan.proofs.fixpoints.come_to_all.Goals as goal

pub loop-i-init : goal.loop-i-init
loop-i-init c origin there = (there, λ asked has. comes_none origin asked c.args.first (c.args.enc.now, c.args.board.now.slots.items))

pub come_to-requires-clause-ready : goal.come_to-requires-clause-ready
come_to-requires-clause-ready c = let r = c.requires.ready in (r.0, (c.loop-i.invariant r.0 r.1).0)

pub come_to-requires-clause-actions : goal.come_to-requires-clause-actions
come_to-requires-clause-actions c =
    let r = c.requires.ready in
    let e : length c.args.enc.now.actions ≡ actions_of r.0 = actions_are r.0 (c.args.enc.now, c.args.board.now.slots.items) r.1 in
    let f : length c.loop-i.enc.actions ≡ actions_of r.0 = actions_are r.0 (c.loop-i.enc, c.loop-i.board.slots.items) (c.loop-i.invariant r.0 r.1).0 in
    omega (arith, c.requires.actions)

pub come_to-requires-clause-target : goal.come_to-requires-clause-target
come_to-requires-clause-target c =
    let r = c.requires.ready in
    let few = le_start r.0 (c.args.enc.now, c.args.board.now.slots.items) r.1 (c.args.first + c.args.count) c.requires.targets in
    in_at r.0 c.loop-i.enc c.loop-i.board.slots.items (c.loop-i.invariant r.0 r.1).0.at (c.args.first + c.loop-i.i) (omega arith)

pub returns-in_err-come_to : goal.returns-in_err-come_to
returns-in_err-come_to c origin asked there has =
    passed origin.start c.come_to.new.enc c.come_to.new.board.slots.items _ _ c.come_to.result c.from_residual.result _ c.in_err-come_to.was (err_from_is_err_and c.from_residual.result c.from_residual.ensures.1)
    (c.come_to.ensures origin (c.loop-i.invariant origin there).0)

pub loop-i-preserved : goal.loop-i-preserved
loop-i-preserved c origin there =
    let x : Scene = (c.args.enc.now, c.args.board.now.slots.items) in
    let y : Scene = (c.loop-i.enc, c.loop-i.board.slots.items) in
    let z : Scene = (c.come_to.new.enc, c.come_to.new.board.slots.items) in
    let k = c.loop-i.invariant origin there in
    let few = le_start origin x there (c.args.first + c.args.count) c.requires.targets in
    let more = done origin z _ c.come_to.result _ c.in_ok-come_to.was (c.come_to.ensures origin k.0) in
    (more.0, λ asked has. comes_more origin asked c.args.first c.args.count x y z c.loop-i.i (omega arith) c.requires.high few has (k.1 asked has) more.1)

pub returns : goal.returns
returns c origin asked there has =
    let x : Scene = (c.args.enc.now, c.args.board.now.slots.items) in
    let y : Scene = (c.loop-i.enc, c.loop-i.board.slots.items) in
    let k = c.loop-i.invariant origin there in
    (k.0, comes_all origin asked c.args.first c.args.count c.loop-i.i x y (omega arith) (k.1 asked has))
