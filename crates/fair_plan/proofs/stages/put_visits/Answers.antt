use Rattle.std.proofs.Common.{◌+◌, ◌<◌, arith, length}
use Rattle.std.proofs.lemmas.Result.{err_from_is_err_and}
use Rattle.slot_board.specs.Board.{Scene}
use Rattle.slot_board.proofs.BoardSlots.{passed}
use Rattle.fair_plan.proofs.Boards.{done, in_at, le_start}
use Rattle.fair_plan.proofs.Goals.{visit_cond, visits_all, visits_more, visits_none}
use Rattle.fair_plan.proofs.stages.put_visits.Goals as goal

pub loop-i-init : goal.loop-i-init
loop-i-init c origin there = (there, visits_none origin c.args.visits.now c.args.first (c.args.enc.now, c.args.board.now.slots.items))

pub put_condition-requires-clause-ready : goal.put_condition-requires-clause-ready
put_condition-requires-clause-ready c = let r = c.requires.ready in (r.0, (c.loop-i.invariant r.0 r.1).0)

pub put_condition-requires-clause-place : goal.put_condition-requires-clause-place
put_condition-requires-clause-place c =
    let r = c.requires.ready in
    let few = le_start r.0 (c.args.enc.now, c.args.board.now.slots.items) r.1 (c.args.first + length c.args.visits.now) c.requires.places in
    in_at r.0 c.loop-i.enc c.loop-i.board.slots.items (c.loop-i.invariant r.0 r.1).0.at (c.args.first + c.loop-i.i) (omega arith)

pub put_condition-requires-clause-cond : goal.put_condition-requires-clause-cond
put_condition-requires-clause-cond c =
    let r = c.requires.ready in
    visit_cond r.0 (c.args.enc.now, c.args.board.now.slots.items) (c.loop-i.enc, c.loop-i.board.slots.items) c.args.visits.now c.index-visits-i.result c.loop-i.i (let l : c.loop-i.i < length c.args.visits.now = omega arith in l) c.index-visits-i.is r.1 (c.loop-i.invariant r.0 r.1).0 c.requires.visits

pub returns-in_err-put_condition : goal.returns-in_err-put_condition
returns-in_err-put_condition c origin there =
    passed origin.start c.put_condition.new.enc c.put_condition.new.board.slots.items _ _ c.put_condition.result c.from_residual.result _ c.in_err-put_condition.was (err_from_is_err_and c.from_residual.result c.from_residual.ensures.1)
    (c.put_condition.ensures origin (c.loop-i.invariant origin there).0)

pub loop-i-preserved : goal.loop-i-preserved
loop-i-preserved c origin there =
    let x : Scene = (c.args.enc.now, c.args.board.now.slots.items) in
    let y : Scene = (c.loop-i.enc, c.loop-i.board.slots.items) in
    let z : Scene = (c.put_condition.new.enc, c.put_condition.new.board.slots.items) in
    let k = c.loop-i.invariant origin there in
    let less : c.loop-i.i < length c.args.visits.now = omega arith in
    let few = le_start origin x there (c.args.first + length c.args.visits.now) c.requires.places in
    let more = done origin z _ c.put_condition.result _ c.in_ok-put_condition.was (c.put_condition.ensures origin k.0) in
    (more.0, visits_more origin c.args.visits.now c.index-visits-i.result c.args.first y z c.loop-i.i less few c.index-visits-i.is k.1 more.1)

pub returns : goal.returns
returns c origin there =
    let k = c.loop-i.invariant origin there in
    (k.0, visits_all origin c.args.visits.now c.args.first (c.loop-i.enc, c.loop-i.board.slots.items) c.loop-i.i (omega arith) k.1)
