use Rattle.std.proofs.Common.{arith}
use Rattle.std.proofs.lemmas.Result.{err_from_is_err_and}
use Rattle.slot_board.proofs.BoardSlots.{passed}
use Rattle.fair_plan.proofs.Boards.{actions_same, done, in_start, leaves_with, low}
use Rattle.fair_plan.proofs.takers.pair_within.Goals as goal

pub make-requires : goal.make-requires
make-requires c =
    let r = c.requires.ready in
    (r.0, r.1, ((low r.0 4 (omega arith), in_start r.0 (c.args.enc.now, c.args.board.now.slots.items) r.1 c.args.win c.requires.place), tt))

pub returns-in_err-make : goal.returns-in_err-make
returns-in_err-make c origin there =
    passed origin.start c.make.new.enc c.make.new.board.slots.items _ _ c.make.result c.from_residual.result _ c.in_err-make.was (err_from_is_err_and c.from_residual.result c.from_residual.ensures.1)
    (c.make.ensures origin there ((low origin 4 (omega arith), in_start origin (c.args.enc.now, c.args.board.now.slots.items) there c.args.win c.requires.place), tt))

pub pair_all-requires-clause-ready : goal.pair_all-requires-clause-ready
pair_all-requires-clause-ready c =
    let r = c.requires.ready in
    let d0 = done r.0 (c.make.new.enc, c.make.new.board.slots.items) _ c.make.result _ c.in_ok-make.was (c.make.ensures r.0 r.1 ((low r.0 4 (omega arith), in_start r.0 (c.args.enc.now, c.args.board.now.slots.items) r.1 c.args.win c.requires.place), tt)) in
    (r.0, d0.0)

pub pair_all-requires-clause-actions : goal.pair_all-requires-clause-actions
pair_all-requires-clause-actions c =
    let r = c.requires.ready in
    let d0 = done r.0 (c.make.new.enc, c.make.new.board.slots.items) _ c.make.result _ c.in_ok-make.was (c.make.ensures r.0 r.1 ((low r.0 4 (omega arith), in_start r.0 (c.args.enc.now, c.args.board.now.slots.items) r.1 c.args.win c.requires.place), tt)) in
    actions_same r.0 (c.args.enc.now, c.args.board.now.slots.items) (c.make.new.enc, c.make.new.board.slots.items) r.1 d0.0 c.args.actions c.requires.actions

pub returns : goal.returns
returns c origin there =
    let d0 = done origin (c.make.new.enc, c.make.new.board.slots.items) _ c.make.result _ c.in_ok-make.was (c.make.ensures origin there ((low origin 4 (omega arith), in_start origin (c.args.enc.now, c.args.board.now.slots.items) there c.args.win c.requires.place), tt)) in
    leaves_with origin (c.pair_all.new.enc, c.pair_all.new.board.slots.items) _ _ c.pair_all.result (λ now after. tt)
    (c.pair_all.ensures origin d0.0)
