use Rattle.std.proofs.Common.{◌≡◌, ◌+◌, arith, length}
use Rattle.std.proofs.lemmas.Result.{err_from_is_err_and}
use Rattle.slot_board.specs.Board.{Scene}
use Rattle.slot_board.proofs.BoardSlots.{passed}
use Rattle.fair_plan.specs.Boards.{actions_of}
use Rattle.ctl_syntax.specs.Conditions.{states_of}
use Rattle.fair_theory.specs.FairSets.{end_asks}
use Rattle.fair_plan.proofs.Boards.{actions_are, done, in_start, le_length, leaves_with, low_in}
use Rattle.fair_plan.proofs.Goals.{end_begins, end_won, kept_can, whole_can}
use Rattle.fair_plan.proofs.stages.win_end.Goals as goal

pub put_condition-requires-clause-place : goal.put_condition-requires-clause-place
put_condition-requires-clause-place c = let r = c.requires.ready in low_in r.0 c.args.enc.now c.args.board.now.slots.items r.1.at 5 (omega arith)

pub returns-in_err-put_condition : goal.returns-in_err-put_condition
returns-in_err-put_condition c origin there =
    passed origin.start c.put_condition.new.enc c.put_condition.new.board.slots.items _ _ c.put_condition.result c.from_residual.result _ c.in_err-put_condition.was (err_from_is_err_and c.from_residual.result c.from_residual.ensures.1) (c.put_condition.ensures origin there)

pub make-requires : goal.make-requires
make-requires c =
    let r = c.requires.ready in
    let put = done r.0 (c.put_condition.new.enc, c.put_condition.new.board.slots.items) _ c.put_condition.result _ c.in_ok-put_condition.was (c.put_condition.ensures r.0 r.1) in
    (r.0, put.0, whole_can r.0)

pub returns-in_err-make : goal.returns-in_err-make
returns-in_err-make c origin there =
    let put = done origin (c.put_condition.new.enc, c.put_condition.new.board.slots.items) _ c.put_condition.result _ c.in_ok-put_condition.was (c.put_condition.ensures origin there) in
    passed origin.start c.make.new.enc c.make.new.board.slots.items _ _ c.make.result c.from_residual-in_err-make.result _ c.in_err-make.was (err_from_is_err_and c.from_residual-in_err-make.result c.from_residual-in_err-make.ensures.1) (c.make.ensures origin put.0 (whole_can origin))

pub find_largest-requires-clause-ready : goal.find_largest-requires-clause-ready
find_largest-requires-clause-ready c =
    let r = c.requires.ready in
    let x : Scene = (c.args.enc.now, c.args.board.now.slots.items) in
    let m : Scene = (c.put_condition.new.enc, c.put_condition.new.board.slots.items) in
    let n : Scene = (c.make.new.enc, c.make.new.board.slots.items) in
    let put = done r.0 m _ c.put_condition.result _ c.in_ok-put_condition.was (c.put_condition.ensures r.0 r.1) in
    let whole = done r.0 n _ c.make.result _ c.in_ok-make.was (c.make.ensures r.0 put.0 (whole_can r.0)) in
    (r.0, end_asks (states_of c.args.keep.now), whole.0, end_begins r.0 x m n c.args.keep.now c.args.win put.1 whole.1)

pub find_largest-requires-clause-actions : goal.find_largest-requires-clause-actions
find_largest-requires-clause-actions c =
    let r = c.requires.ready in
    let x : Scene = (c.args.enc.now, c.args.board.now.slots.items) in
    let m : Scene = (c.put_condition.new.enc, c.put_condition.new.board.slots.items) in
    let n : Scene = (c.make.new.enc, c.make.new.board.slots.items) in
    let put = done r.0 m _ c.put_condition.result _ c.in_ok-put_condition.was (c.put_condition.ensures r.0 r.1) in
    let whole = done r.0 n _ c.make.result _ c.in_ok-make.was (c.make.ensures r.0 put.0 (whole_can r.0)) in
    let e : length c.args.enc.now.actions ≡ actions_of r.0 = actions_are r.0 x r.1 in
    let f : length c.make.new.enc.actions ≡ actions_of r.0 = actions_are r.0 n whole.0 in
    omega (arith, c.requires.actions)

pub find_largest-requires-clause-targets : goal.find_largest-requires-clause-targets
find_largest-requires-clause-targets c =
    let r = c.requires.ready in
    let m : Scene = (c.put_condition.new.enc, c.put_condition.new.board.slots.items) in
    let n : Scene = (c.make.new.enc, c.make.new.board.slots.items) in
    let put = done r.0 m _ c.put_condition.result _ c.in_ok-put_condition.was (c.put_condition.ensures r.0 r.1) in
    let whole = done r.0 n _ c.make.result _ c.in_ok-make.was (c.make.ensures r.0 put.0 (whole_can r.0)) in
    let within = in_start r.0 (c.args.enc.now, c.args.board.now.slots.items) r.1 c.args.win c.requires.place in
    le_length r.0 n whole.0 (c.args.win + 0) (omega arith)

pub returns-in_err-find_largest : goal.returns-in_err-find_largest
returns-in_err-find_largest c origin there =
    let x : Scene = (c.args.enc.now, c.args.board.now.slots.items) in
    let m : Scene = (c.put_condition.new.enc, c.put_condition.new.board.slots.items) in
    let n : Scene = (c.make.new.enc, c.make.new.board.slots.items) in
    let put = done origin m _ c.put_condition.result _ c.in_ok-put_condition.was (c.put_condition.ensures origin there) in
    let whole = done origin n _ c.make.result _ c.in_ok-make.was (c.make.ensures origin put.0 (whole_can origin)) in
    passed origin.start c.find_largest.new.enc c.find_largest.new.board.slots.items _ _ c.find_largest.result c.from_residual-in_err-find_largest.result _ c.in_err-find_largest.was (err_from_is_err_and c.from_residual-in_err-find_largest.result c.from_residual-in_err-find_largest.ensures.1)
    (c.find_largest.ensures origin (end_asks (states_of c.args.keep.now)) whole.0 (end_begins origin x m n c.args.keep.now c.args.win put.1 whole.1))

pub make-requires-2 : goal.make-requires-2
make-requires-2 c =
    let r = c.requires.ready in
    let x : Scene = (c.args.enc.now, c.args.board.now.slots.items) in
    let m : Scene = (c.put_condition.new.enc, c.put_condition.new.board.slots.items) in
    let n : Scene = (c.make.new.enc, c.make.new.board.slots.items) in
    let put = done r.0 m _ c.put_condition.result _ c.in_ok-put_condition.was (c.put_condition.ensures r.0 r.1) in
    let whole = done r.0 n _ c.make.result _ c.in_ok-make.was (c.make.ensures r.0 put.0 (whole_can r.0)) in
    let found = done r.0 (c.find_largest.new.enc, c.find_largest.new.board.slots.items) _ c.find_largest.result _ c.in_ok-find_largest.was
    (c.find_largest.ensures r.0 (end_asks (states_of c.args.keep.now)) whole.0 (end_begins r.0 x m n c.args.keep.now c.args.win put.1 whole.1)) in
    (r.0, found.0, kept_can r.0 c.args.win (in_start r.0 x r.1 c.args.win c.requires.place))

pub returns : goal.returns
returns c origin there =
    let x : Scene = (c.args.enc.now, c.args.board.now.slots.items) in
    let m : Scene = (c.put_condition.new.enc, c.put_condition.new.board.slots.items) in
    let n : Scene = (c.make.new.enc, c.make.new.board.slots.items) in
    let p : Scene = (c.find_largest.new.enc, c.find_largest.new.board.slots.items) in
    let y : Scene = (c.make-2.new.enc, c.make-2.new.board.slots.items) in
    let within = in_start origin x there c.args.win c.requires.place in
    let put = done origin m _ c.put_condition.result _ c.in_ok-put_condition.was (c.put_condition.ensures origin there) in
    let whole = done origin n _ c.make.result _ c.in_ok-make.was (c.make.ensures origin put.0 (whole_can origin)) in
    let found = done origin p _ c.find_largest.result _ c.in_ok-find_largest.was
    (c.find_largest.ensures origin (end_asks (states_of c.args.keep.now)) whole.0 (end_begins origin x m n c.args.keep.now c.args.win put.1 whole.1)) in
    leaves_with origin y _ _ c.make-2.result (λ now after. end_won origin p y c.args.keep.now c.args.win within found.1 after)
    (c.make-2.ensures origin found.0 (kept_can origin c.args.win within))
