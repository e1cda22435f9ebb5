use Rattle.std.proofs.Common.{◌≡◌, [], ◌∷◌, arith, length}
use Rattle.board_steps.specs.declared.steps.Step.TheVariants.{Copy}
use Rattle.std.proofs.lemmas.Result.{err_from_is_err_and}
use Rattle.slot_board.specs.Board.{Scene}
use Rattle.slot_board.proofs.BoardSlots.{passed}
use Rattle.fair_plan.specs.Boards.{AreStepsOf, actions_of}
use Rattle.fair_plan.proofs.Boards.{actions_are, done, in_start, leaves_with, low}
use Rattle.fair_plan.proofs.Rounds.{aimed}
use Rattle.fair_plan.proofs.fixpoints.come_to.Goals as goal

pub make-requires : goal.make-requires
make-requires c =
    let r = c.requires.ready in
    (r.0, r.1, ((low r.0 2 (omega arith), in_start r.0 (c.args.enc.now, c.args.board.now.slots.items) r.1 c.args.target c.requires.target), tt))

pub returns-in_err-make : goal.returns-in_err-make
returns-in_err-make c origin there =
    let can : AreStepsOf origin (Copy 2 c.args.target ∷ []) = ((low origin 2 (omega arith), in_start origin (c.args.enc.now, c.args.board.now.slots.items) there c.args.target c.requires.target), tt) in
    passed origin.start c.make.new.enc c.make.new.board.slots.items _ _ c.make.result c.from_residual.result _ c.in_err-make.was (err_from_is_err_and c.from_residual.result c.from_residual.ensures.1)
    (c.make.ensures origin there can)

pub grow-requires-clause-ready : goal.grow-requires-clause-ready
grow-requires-clause-ready c =
    let r = c.requires.ready in
    let can : AreStepsOf r.0 (Copy 2 c.args.target ∷ []) = ((low r.0 2 (omega arith), in_start r.0 (c.args.enc.now, c.args.board.now.slots.items) r.1 c.args.target c.requires.target), tt) in
    let first = done r.0 (c.make.new.enc, c.make.new.board.slots.items) _ c.make.result _ c.in_ok-make.was (c.make.ensures r.0 r.1 can) in
    (r.0, first.0)

pub grow-requires-clause-actions : goal.grow-requires-clause-actions
grow-requires-clause-actions c =
    let r = c.requires.ready in
    let can : AreStepsOf r.0 (Copy 2 c.args.target ∷ []) = ((low r.0 2 (omega arith), in_start r.0 (c.args.enc.now, c.args.board.now.slots.items) r.1 c.args.target c.requires.target), tt) in
    let first = done r.0 (c.make.new.enc, c.make.new.board.slots.items) _ c.make.result _ c.in_ok-make.was (c.make.ensures r.0 r.1 can) in
    let e : length c.args.enc.now.actions ≡ actions_of r.0 = actions_are r.0 (c.args.enc.now, c.args.board.now.slots.items) r.1 in
    let f : length c.make.new.enc.actions ≡ actions_of r.0 = actions_are r.0 (c.make.new.enc, c.make.new.board.slots.items) first.0 in
    omega (arith, c.requires.actions)

pub returns-in_err-grow : goal.returns-in_err-grow
returns-in_err-grow c origin there =
    let can : AreStepsOf origin (Copy 2 c.args.target ∷ []) = ((low origin 2 (omega arith), in_start origin (c.args.enc.now, c.args.board.now.slots.items) there c.args.target c.requires.target), tt) in
    let first = done origin (c.make.new.enc, c.make.new.board.slots.items) _ c.make.result _ c.in_ok-make.was (c.make.ensures origin there can) in
    passed origin.start c.grow.new.enc c.grow.new.board.slots.items _ _ c.grow.result c.from_residual-in_err-grow.result _ c.in_err-grow.was (err_from_is_err_and c.from_residual-in_err-grow.result c.from_residual-in_err-grow.ensures.1)
    (c.grow.ensures origin first.0)

pub make-requires-2 : goal.make-requires-2
make-requires-2 c =
    let r = c.requires.ready in
    let can : AreStepsOf r.0 (Copy 2 c.args.target ∷ []) = ((low r.0 2 (omega arith), in_start r.0 (c.args.enc.now, c.args.board.now.slots.items) r.1 c.args.target c.requires.target), tt) in
    let first = done r.0 (c.make.new.enc, c.make.new.board.slots.items) _ c.make.result _ c.in_ok-make.was (c.make.ensures r.0 r.1 can) in
    let grown = done r.0 (c.grow.new.enc, c.grow.new.board.slots.items) _ c.grow.result _ c.in_ok-grow.was (c.grow.ensures r.0 first.0) in
    (r.0, grown.0, ((low r.0 _ (omega arith), low r.0 _ (omega arith), low r.0 _ (omega arith)), tt))

pub returns : goal.returns
returns c origin there =
    let x : Scene = (c.args.enc.now, c.args.board.now.slots.items) in
    let m : Scene = (c.make.new.enc, c.make.new.board.slots.items) in
    let n : Scene = (c.grow.new.enc, c.grow.new.board.slots.items) in
    let y : Scene = (c.make-2.new.enc, c.make-2.new.board.slots.items) in
    let within = in_start origin x there c.args.target c.requires.target in
    let first = done origin m _ c.make.result _ c.in_ok-make.was (c.make.ensures origin there ((low origin 2 (omega arith), within), tt)) in
    let grown = done origin n _ c.grow.result _ c.in_ok-grow.was (c.grow.ensures origin first.0) in
    leaves_with origin y _ _ c.make-2.result (λ now last. aimed origin x m n y c.args.target within first.1 grown.1 last)
    (c.make-2.ensures origin grown.0 ((low origin _ (omega arith), low origin _ (omega arith), low origin _ (omega arith)), tt))
