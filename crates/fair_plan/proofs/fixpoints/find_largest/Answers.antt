use Rattle.std.proofs.Common.{◌≡◌, ◌+◌, arith, length}
use Rattle.std.proofs.lemmas.Result.{err_from_is_err_and}
use Rattle.slot_board.specs.Board.{Scene}
use Rattle.slot_board.proofs.BoardSlots.{passed, same_fluents}
use Rattle.fair_plan.specs.Boards.{actions_of}
use Rattle.fair_plan.proofs.Boards.{actions_are, done, le_length, le_start, low_in}
use Rattle.fair_plan.proofs.Rounds.{begun_on, is_largest, rounds_less}
use Rattle.fair_plan.proofs.fixpoints.find_largest.Goals as goal

pub keep_round-requires-clause-ready : goal.keep_round-requires-clause-ready
keep_round-requires-clause-ready c = let r = c.requires.ready in (r.0, r.2)

pub returns-in_err-keep_round : goal.returns-in_err-keep_round
returns-in_err-keep_round c origin asked there begins =
    passed origin.start c.keep_round.new.enc c.keep_round.new.board.slots.items _ _ c.keep_round.result c.from_residual.result _ c.in_err-keep_round.was (err_from_is_err_and c.from_residual.result c.from_residual.ensures.1)
    (c.keep_round.ensures origin asked there begins.staying begins.long (begun_on origin asked c.args.wanted.stays c.args.wanted.first c.args.wanted.count (c.args.enc.now, c.args.board.now.slots.items) begins))

pub loop-wanted-init : goal.loop-wanted-init
loop-wanted-init c origin asked there begins =
    let y : Scene = (c.keep_round.new.enc, c.keep_round.new.board.slots.items) in
    let first = done origin y _ c.keep_round.result _ c.in_ok-keep_round.was
    (c.keep_round.ensures origin asked there begins.staying begins.long (begun_on origin asked c.args.wanted.stays c.args.wanted.first c.args.wanted.count (c.args.enc.now, c.args.board.now.slots.items) begins)) in
    (first.0, first.1.1)

pub is_same-requires-clause-working : goal.is_same-requires-clause-working
is_same-requires-clause-working c = let r = c.requires.ready in (r.0.start, (c.loop-wanted.invariant r.0 r.1 r.2 r.3).0.at)

pub is_same-requires-clause-a : goal.is_same-requires-clause-a
is_same-requires-clause-a c = let r = c.requires.ready in low_in r.0 c.loop-wanted.enc c.loop-wanted.board.slots.items (c.loop-wanted.invariant r.0 r.1 r.2 r.3).0.at 5 (omega arith)

pub is_same-requires-clause-b : goal.is_same-requires-clause-b
is_same-requires-clause-b c = let r = c.requires.ready in low_in r.0 c.loop-wanted.enc c.loop-wanted.board.slots.items (c.loop-wanted.invariant r.0 r.1 r.2 r.3).0.at 4 (omega arith)

pub keep_round-requires-in-loop-wanted-clause-ready : goal.keep_round-requires-in-loop-wanted-clause-ready
keep_round-requires-in-loop-wanted-clause-ready c = let r = c.requires.ready in (r.0, (c.loop-wanted.invariant r.0 r.1 r.2 r.3).0)

pub keep_round-requires-in-loop-wanted-clause-actions : goal.keep_round-requires-in-loop-wanted-clause-actions
keep_round-requires-in-loop-wanted-clause-actions c =
    let r = c.requires.ready in
    let e : length c.args.enc.now.actions ≡ actions_of r.0 = actions_are r.0 (c.args.enc.now, c.args.board.now.slots.items) r.2 in
    let f : length c.loop-wanted.enc.actions ≡ actions_of r.0 = actions_are r.0 (c.loop-wanted.enc, c.loop-wanted.board.slots.items) (c.loop-wanted.invariant r.0 r.1 r.2 r.3).0 in
    omega (arith, c.requires.actions)

pub keep_round-requires-in-loop-wanted-clause-targets : goal.keep_round-requires-in-loop-wanted-clause-targets
keep_round-requires-in-loop-wanted-clause-targets c =
    let r = c.requires.ready in
    le_length r.0 (c.loop-wanted.enc, c.loop-wanted.board.slots.items) (c.loop-wanted.invariant r.0 r.1 r.2 r.3).0 (c.args.wanted.first + c.args.wanted.count) (le_start r.0 (c.args.enc.now, c.args.board.now.slots.items) r.2 (c.args.wanted.first + c.args.wanted.count) c.requires.targets)

pub returns-in_err-keep_round-2 : goal.returns-in_err-keep_round-2
returns-in_err-keep_round-2 c origin asked there begins =
    let k = c.loop-wanted.invariant origin asked there begins in
    passed origin.start c.keep_round-in-loop-wanted.new.enc c.keep_round-in-loop-wanted.new.board.slots.items _ _ c.keep_round-in-loop-wanted.result c.from_residual-in_err-keep_round-2.result _ c.in_err-keep_round-2.was (err_from_is_err_and c.from_residual-in_err-keep_round-2.result c.from_residual-in_err-keep_round-2.ensures.1)
    (c.keep_round-in-loop-wanted.ensures origin asked k.0 begins.staying begins.long k.1.on)

pub loop-wanted-smaller : goal.loop-wanted-smaller
loop-wanted-smaller c =
    let r = c.requires.ready in
    let y : Scene = (c.loop-wanted.enc, c.loop-wanted.board.slots.items) in
    let z : Scene = (c.keep_round-in-loop-wanted.new.enc, c.keep_round-in-loop-wanted.new.board.slots.items) in
    let k = c.loop-wanted.invariant r.0 r.1 r.2 r.3 in
    let more = done r.0 z _ c.keep_round-in-loop-wanted.result _ c.in_ok-keep_round-2.was (c.keep_round-in-loop-wanted.ensures r.0 r.1 k.0 r.3.staying r.3.long k.1.on) in
    rounds_less r.0 y z c.args.enc.now.fluents (same_fluents r.0.start c.args.enc.now c.args.board.now.slots.items r.2.at) k.0
    (λ same. let e = c.is_same.ensures.1 same in let f = c.loop-wanted-test.true in cc) k.1.part more.1.0

pub loop-wanted-preserved : goal.loop-wanted-preserved
loop-wanted-preserved c origin asked there begins =
    let z : Scene = (c.keep_round-in-loop-wanted.new.enc, c.keep_round-in-loop-wanted.new.board.slots.items) in
    let k = c.loop-wanted.invariant origin asked there begins in
    let more = done origin z _ c.keep_round-in-loop-wanted.result _ c.in_ok-keep_round-2.was (c.keep_round-in-loop-wanted.ensures origin asked k.0 begins.staying begins.long k.1.on) in
    (more.0, more.1.1)

pub returns : goal.returns
returns c origin asked there begins =
    let k = c.loop-wanted.invariant origin asked there begins in
    (k.0, is_largest origin asked c.args.wanted.first (c.loop-wanted.enc, c.loop-wanted.board.slots.items) k.1 (c.is_same.ensures.0 (let f = c.loop-wanted-test.false in cc)))
