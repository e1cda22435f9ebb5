use Rattle.std.proofs.Common.{arith}
use Rattle.std.proofs.lemmas.Result.{err_from_is_err_and}
use Rattle.slot_board.specs.Board.{Scene}
use Rattle.slot_board.proofs.BoardSlots.{passed}
use Rattle.fair_plan.proofs.Boards.{done, in_at, in_start, leaves_with, low_in}
use Rattle.fair_plan.proofs.Goals.{aim_can, aims_at, cond_still}
use Rattle.fair_plan.proofs.stages.aim_at.Goals as goal

pub put_condition-requires-clause-place : goal.put_condition-requires-clause-place
put_condition-requires-clause-place c = let r = c.requires.ready in low_in r.0 c.args.enc.now c.args.board.now.slots.items r.1.at 6 (omega arith)

pub put_condition-requires-clause-cond : goal.put_condition-requires-clause-cond
put_condition-requires-clause-cond c = c.requires.stage.guard

pub returns-in_err-put_condition : goal.returns-in_err-put_condition
returns-in_err-put_condition c origin there =
    passed origin.start c.put_condition.new.enc c.put_condition.new.board.slots.items _ _ c.put_condition.result c.from_residual.result _ c.in_err-put_condition.was (err_from_is_err_and c.from_residual.result c.from_residual.ensures.1) (c.put_condition.ensures origin there)

pub put_condition-requires-2-clause-ready : goal.put_condition-requires-2-clause-ready
put_condition-requires-2-clause-ready c =
    let r = c.requires.ready in
    let put = done r.0 (c.put_condition.new.enc, c.put_condition.new.board.slots.items) _ c.put_condition.result _ c.in_ok-put_condition.was (c.put_condition.ensures r.0 r.1) in
    (r.0, put.0)

pub put_condition-requires-2-clause-place : goal.put_condition-requires-2-clause-place
put_condition-requires-2-clause-place c =
    let r = c.requires.ready in
    let put = done r.0 (c.put_condition.new.enc, c.put_condition.new.board.slots.items) _ c.put_condition.result _ c.in_ok-put_condition.was (c.put_condition.ensures r.0 r.1) in
    in_at r.0 c.put_condition.new.enc c.put_condition.new.board.slots.items put.0.at c.args.at.met (in_start r.0 (c.args.enc.now, c.args.board.now.slots.items) r.1 c.args.at.met c.requires.place)

pub put_condition-requires-2-clause-cond : goal.put_condition-requires-2-clause-cond
put_condition-requires-2-clause-cond c =
    let r = c.requires.ready in
    let put = done r.0 (c.put_condition.new.enc, c.put_condition.new.board.slots.items) _ c.put_condition.result _ c.in_ok-put_condition.was (c.put_condition.ensures r.0 r.1) in
    cond_still r.0 (c.args.enc.now, c.args.board.now.slots.items) (c.put_condition.new.enc, c.put_condition.new.board.slots.items) c.args.stage.now.target r.1 put.0 c.requires.stage.target

pub returns-in_err-put_condition-2 : goal.returns-in_err-put_condition-2
returns-in_err-put_condition-2 c origin there =
    let put = done origin (c.put_condition.new.enc, c.put_condition.new.board.slots.items) _ c.put_condition.result _ c.in_ok-put_condition.was (c.put_condition.ensures origin there) in
    passed origin.start c.put_condition-2.new.enc c.put_condition-2.new.board.slots.items _ _ c.put_condition-2.result c.from_residual-in_err-put_condition-2.result _ c.in_err-put_condition-2.was (err_from_is_err_and c.from_residual-in_err-put_condition-2.result c.from_residual-in_err-put_condition-2.ensures.1) (c.put_condition-2.ensures origin put.0)

pub make-requires : goal.make-requires
make-requires c =
    let r = c.requires.ready in
    let put = done r.0 (c.put_condition.new.enc, c.put_condition.new.board.slots.items) _ c.put_condition.result _ c.in_ok-put_condition.was (c.put_condition.ensures r.0 r.1) in
    let more = done r.0 (c.put_condition-2.new.enc, c.put_condition-2.new.board.slots.items) _ c.put_condition-2.result _ c.in_ok-put_condition-2.was (c.put_condition-2.ensures r.0 put.0) in
    (r.0, more.0, aim_can r.0 c.args.at.met c.args.at.next (in_start r.0 (c.args.enc.now, c.args.board.now.slots.items) r.1 c.args.at.met c.requires.place) c.requires.later)

pub returns : goal.returns
returns c origin there =
    let x : Scene = (c.args.enc.now, c.args.board.now.slots.items) in
    let m : Scene = (c.put_condition.new.enc, c.put_condition.new.board.slots.items) in
    let n : Scene = (c.put_condition-2.new.enc, c.put_condition-2.new.board.slots.items) in
    let y : Scene = (c.make.new.enc, c.make.new.board.slots.items) in
    let within = in_start origin x there c.args.at.met c.requires.place in
    let put = done origin m _ c.put_condition.result _ c.in_ok-put_condition.was (c.put_condition.ensures origin there) in
    let more = done origin n _ c.put_condition-2.result _ c.in_ok-put_condition-2.was (c.put_condition-2.ensures origin put.0) in
    leaves_with origin y _ _ c.make.result (λ now after. aims_at origin x m n y c.args.stage.now c.args.at.next c.args.at.met within c.requires.later c.requires.high put.1 more.1 after)
    (c.make.ensures origin more.0 (aim_can origin c.args.at.met c.args.at.next within c.requires.later))
