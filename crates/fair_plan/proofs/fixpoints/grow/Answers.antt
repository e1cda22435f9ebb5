use Rattle.std.proofs.Common.{◌≡◌, arith, length}
use Rattle.std.proofs.lemmas.Result.{err_from_is_err_and}
use Rattle.slot_board.specs.Board.{Scene}
use Rattle.slot_board.proofs.BoardSlots.{passed, same_fluents}
use Rattle.fair_plan.specs.Boards.{actions_of}
use Rattle.fair_plan.proofs.Boards.{actions_are, done, low_in}
use Rattle.fair_plan.proofs.Growth.{grown_all, grown_first, grown_less, grown_more}
use Rattle.fair_plan.proofs.fixpoints.grow.Goals as goal

pub returns-in_err-pass : goal.returns-in_err-pass
returns-in_err-pass c origin there =
    passed origin.start c.pass.new.enc c.pass.new.board.slots.items _ _ c.pass.result c.from_residual.result _ c.in_err-pass.was (err_from_is_err_and c.from_residual.result c.from_residual.ensures.1) (c.pass.ensures origin there)

pub loop-enc-init : goal.loop-enc-init
loop-enc-init c origin there =
    let x : Scene = (c.args.enc.now, c.args.board.now.slots.items) in
    let y : Scene = (c.pass.new.enc, c.pass.new.board.slots.items) in
    let first = done origin y _ c.pass.result _ c.in_ok-pass.was (c.pass.ensures origin there) in
    (first.0, grown_first origin x y first.1)

pub is_same-requires-clause-working : goal.is_same-requires-clause-working
is_same-requires-clause-working c = let r = c.requires.ready in (r.0.start, (c.loop-enc.invariant r.0 r.1).0.at)

pub is_same-requires-clause-a : goal.is_same-requires-clause-a
is_same-requires-clause-a c = let r = c.requires.ready in low_in r.0 c.loop-enc.enc c.loop-enc.board.slots.items (c.loop-enc.invariant r.0 r.1).0.at 1 (omega arith)

pub is_same-requires-clause-b : goal.is_same-requires-clause-b
is_same-requires-clause-b c = let r = c.requires.ready in low_in r.0 c.loop-enc.enc c.loop-enc.board.slots.items (c.loop-enc.invariant r.0 r.1).0.at 2 (omega arith)

pub pass-requires-in-loop-enc-clause-ready : goal.pass-requires-in-loop-enc-clause-ready
pass-requires-in-loop-enc-clause-ready c = let r = c.requires.ready in (r.0, (c.loop-enc.invariant r.0 r.1).0)

pub pass-requires-in-loop-enc-clause-actions : goal.pass-requires-in-loop-enc-clause-actions
pass-requires-in-loop-enc-clause-actions c =
    let r = c.requires.ready in
    let e : length c.args.enc.now.actions ≡ actions_of r.0 = actions_are r.0 (c.args.enc.now, c.args.board.now.slots.items) r.1 in
    let f : length c.loop-enc.enc.actions ≡ actions_of r.0 = actions_are r.0 (c.loop-enc.enc, c.loop-enc.board.slots.items) (c.loop-enc.invariant r.0 r.1).0 in
    omega (arith, c.requires.actions)

pub returns-in_err-pass-2 : goal.returns-in_err-pass-2
returns-in_err-pass-2 c origin there =
    passed origin.start c.pass-in-loop-enc.new.enc c.pass-in-loop-enc.new.board.slots.items _ _ c.pass-in-loop-enc.result c.from_residual-in_err-pass-2.result _ c.in_err-pass-2.was (err_from_is_err_and c.from_residual-in_err-pass-2.result c.from_residual-in_err-pass-2.ensures.1)
    (c.pass-in-loop-enc.ensures origin (c.loop-enc.invariant origin there).0)

pub loop-enc-smaller : goal.loop-enc-smaller
loop-enc-smaller c =
    let r = c.requires.ready in
    let x : Scene = (c.args.enc.now, c.args.board.now.slots.items) in
    let y : Scene = (c.loop-enc.enc, c.loop-enc.board.slots.items) in
    let z : Scene = (c.pass-in-loop-enc.new.enc, c.pass-in-loop-enc.new.board.slots.items) in
    let k = c.loop-enc.invariant r.0 r.1 in
    let more = done r.0 z _ c.pass-in-loop-enc.result _ c.in_ok-pass-2.was (c.pass-in-loop-enc.ensures r.0 k.0) in
    grown_less r.0 y z c.args.enc.now.fluents (same_fluents r.0.start c.args.enc.now c.args.board.now.slots.items r.1.at) k.0
    (λ same. let e = c.is_same.ensures.1 same in let f = c.loop-enc-test.true in cc) k.1.last more.1.before

pub loop-enc-preserved : goal.loop-enc-preserved
loop-enc-preserved c origin there =
    let x : Scene = (c.args.enc.now, c.args.board.now.slots.items) in
    let y : Scene = (c.loop-enc.enc, c.loop-enc.board.slots.items) in
    let z : Scene = (c.pass-in-loop-enc.new.enc, c.pass-in-loop-enc.new.board.slots.items) in
    let k = c.loop-enc.invariant origin there in
    let more = done origin z _ c.pass-in-loop-enc.result _ c.in_ok-pass-2.was (c.pass-in-loop-enc.ensures origin k.0) in
    (more.0, grown_more origin x y z k.1 more.1)

pub returns : goal.returns
returns c origin there =
    let x : Scene = (c.args.enc.now, c.args.board.now.slots.items) in
    let y : Scene = (c.loop-enc.enc, c.loop-enc.board.slots.items) in
    let k = c.loop-enc.invariant origin there in
    (k.0, grown_all origin x y k.1 (c.is_same.ensures.0 (let f = c.loop-enc-test.false in cc)))
