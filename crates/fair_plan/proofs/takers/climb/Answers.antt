use Rattle.std.proofs.Common.{◌+◌, ◌<◌, ℕ, [], ◌∷◌, arith, length}
use Rattle.std.proofs.lemmas.Result.{err_from_is_err_and}
use Rattle.slot_board.specs.Board.{Scene}
use Rattle.slot_board.proofs.BoardSlots.{passed, same_fluents}
use Rattle.board_steps.specs.declared.steps.Step.TheVariants.{Copy}
use Rattle.fair_plan.specs.Boards.{AreStepsOf, Origin, IsThere}
use Rattle.fair_plan.proofs.Boards.{actions_same, done, in_start, low, low_in, places_still}
use Rattle.fair_plan.proofs.Growth.{climbs_last, grown_less}
use Rattle.fair_plan.proofs.takers.climb.Goals as goal

can : (origin : Origin) (x : Scene) → IsThere origin x → (k : ℕ) → k < length x.1 → AreStepsOf origin (Copy 2 k ∷ [])
can origin x there k l = ((low origin 2 (omega arith), in_start origin x there k l), tt)

pub make-requires : goal.make-requires
make-requires c = let r = c.requires.ready in (r.0, r.1, can r.0 (c.args.enc.now, c.args.board.now.slots.items) r.1 c.args.target c.requires.target)

pub returns-in_err-make : goal.returns-in_err-make
returns-in_err-make c origin there =
    passed origin.start c.make.new.enc c.make.new.board.slots.items _ _ c.make.result c.from_residual.result _ c.in_err-make.was (err_from_is_err_and c.from_residual.result c.from_residual.ensures.1)
    (c.make.ensures origin there (can origin (c.args.enc.now, c.args.board.now.slots.items) there c.args.target c.requires.target))

pub climb_once-requires-clause-ready : goal.climb_once-requires-clause-ready
climb_once-requires-clause-ready c =
    let r = c.requires.ready in
    let first = done r.0 (c.make.new.enc, c.make.new.board.slots.items) _ c.make.result _ c.in_ok-make.was (c.make.ensures r.0 r.1 (can r.0 (c.args.enc.now, c.args.board.now.slots.items) r.1 c.args.target c.requires.target)) in
    (r.0, first.0)

pub climb_once-requires-clause-actions : goal.climb_once-requires-clause-actions
climb_once-requires-clause-actions c =
    let r = c.requires.ready in
    let x : Scene = (c.args.enc.now, c.args.board.now.slots.items) in
    let m : Scene = (c.make.new.enc, c.make.new.board.slots.items) in
    let first = done r.0 m _ c.make.result _ c.in_ok-make.was (c.make.ensures r.0 r.1 (can r.0 x r.1 c.args.target c.requires.target)) in
    actions_same r.0 x m r.1 first.0 c.args.actions c.requires.actions

pub climb_once-requires-clause-places : goal.climb_once-requires-clause-places
climb_once-requires-clause-places c =
    let r = c.requires.ready in
    let x : Scene = (c.args.enc.now, c.args.board.now.slots.items) in
    let m : Scene = (c.make.new.enc, c.make.new.board.slots.items) in
    let first = done r.0 m _ c.make.result _ c.in_ok-make.was (c.make.ensures r.0 r.1 (can r.0 x r.1 c.args.target c.requires.target)) in
    places_still r.0 x m r.1 first.0 (c.args.takers + c.args.actions) c.requires.places

pub returns-in_err-climb_once : goal.returns-in_err-climb_once
returns-in_err-climb_once c origin there =
    let first = done origin (c.make.new.enc, c.make.new.board.slots.items) _ c.make.result _ c.in_ok-make.was (c.make.ensures origin there (can origin (c.args.enc.now, c.args.board.now.slots.items) there c.args.target c.requires.target)) in
    passed origin.start c.climb_once.new.enc c.climb_once.new.board.slots.items _ _ c.climb_once.result c.from_residual-in_err-climb_once.result _ c.in_err-climb_once.was (err_from_is_err_and c.from_residual-in_err-climb_once.result c.from_residual-in_err-climb_once.ensures.1)
    (c.climb_once.ensures origin first.0)

pub loop-enc-init : goal.loop-enc-init
loop-enc-init c origin there =
    let m : Scene = (c.make.new.enc, c.make.new.board.slots.items) in
    let y : Scene = (c.climb_once.new.enc, c.climb_once.new.board.slots.items) in
    let first = done origin m _ c.make.result _ c.in_ok-make.was (c.make.ensures origin there (can origin (c.args.enc.now, c.args.board.now.slots.items) there c.args.target c.requires.target)) in
    let more = done origin y _ c.climb_once.result _ c.in_ok-climb_once.was (c.climb_once.ensures origin first.0) in
    (more.0, climbs_last m y more.1)

pub is_same-requires-clause-working : goal.is_same-requires-clause-working
is_same-requires-clause-working c = let r = c.requires.ready in (r.0.start, (c.loop-enc.invariant r.0 r.1).0.at)

pub is_same-requires-clause-a : goal.is_same-requires-clause-a
is_same-requires-clause-a c = let r = c.requires.ready in low_in r.0 c.loop-enc.enc c.loop-enc.board.slots.items (c.loop-enc.invariant r.0 r.1).0.at 1 (omega arith)

pub is_same-requires-clause-b : goal.is_same-requires-clause-b
is_same-requires-clause-b c = let r = c.requires.ready in low_in r.0 c.loop-enc.enc c.loop-enc.board.slots.items (c.loop-enc.invariant r.0 r.1).0.at 2 (omega arith)

pub climb_once-requires-in-loop-enc-clause-ready : goal.climb_once-requires-in-loop-enc-clause-ready
climb_once-requires-in-loop-enc-clause-ready c = let r = c.requires.ready in (r.0, (c.loop-enc.invariant r.0 r.1).0)

pub climb_once-requires-in-loop-enc-clause-actions : goal.climb_once-requires-in-loop-enc-clause-actions
climb_once-requires-in-loop-enc-clause-actions c =
    let r = c.requires.ready in
    actions_same r.0 (c.args.enc.now, c.args.board.now.slots.items) (c.loop-enc.enc, c.loop-enc.board.slots.items) r.1 (c.loop-enc.invariant r.0 r.1).0 c.args.actions c.requires.actions

pub climb_once-requires-in-loop-enc-clause-places : goal.climb_once-requires-in-loop-enc-clause-places
climb_once-requires-in-loop-enc-clause-places c =
    let r = c.requires.ready in
    places_still r.0 (c.args.enc.now, c.args.board.now.slots.items) (c.loop-enc.enc, c.loop-enc.board.slots.items) r.1 (c.loop-enc.invariant r.0 r.1).0 (c.args.takers + c.args.actions) c.requires.places

pub returns-in_err-climb_once-2 : goal.returns-in_err-climb_once-2
returns-in_err-climb_once-2 c origin there =
    passed origin.start c.climb_once-in-loop-enc.new.enc c.climb_once-in-loop-enc.new.board.slots.items _ _ c.climb_once-in-loop-enc.result c.from_residual-in_err-climb_once-2.result _ c.in_err-climb_once-2.was (err_from_is_err_and c.from_residual-in_err-climb_once-2.result c.from_residual-in_err-climb_once-2.ensures.1)
    (c.climb_once-in-loop-enc.ensures origin (c.loop-enc.invariant origin there).0)

pub loop-enc-smaller : goal.loop-enc-smaller
loop-enc-smaller c =
    let r = c.requires.ready in
    let y : Scene = (c.loop-enc.enc, c.loop-enc.board.slots.items) in
    let z : Scene = (c.climb_once-in-loop-enc.new.enc, c.climb_once-in-loop-enc.new.board.slots.items) in
    let k = c.loop-enc.invariant r.0 r.1 in
    let more = done r.0 z _ c.climb_once-in-loop-enc.result _ c.in_ok-climb_once-2.was (c.climb_once-in-loop-enc.ensures r.0 k.0) in
    grown_less r.0 y z c.args.enc.now.fluents (same_fluents r.0.start c.args.enc.now c.args.board.now.slots.items r.1.at) k.0
    (λ same. let e = c.is_same.ensures.1 same in let f = c.loop-enc-test.true in cc) k.1 more.1.before

pub loop-enc-preserved : goal.loop-enc-preserved
loop-enc-preserved c origin there =
    let y : Scene = (c.loop-enc.enc, c.loop-enc.board.slots.items) in
    let z : Scene = (c.climb_once-in-loop-enc.new.enc, c.climb_once-in-loop-enc.new.board.slots.items) in
    let k = c.loop-enc.invariant origin there in
    let more = done origin z _ c.climb_once-in-loop-enc.result _ c.in_ok-climb_once-2.was (c.climb_once-in-loop-enc.ensures origin k.0) in
    (more.0, climbs_last y z more.1)

pub returns : goal.returns
returns c origin there = ((c.loop-enc.invariant origin there).0, tt)
