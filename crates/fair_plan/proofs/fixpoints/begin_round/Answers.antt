use Rattle.std.proofs.Common.{◌≡◌, arith, length}
use Rattle.std.proofs.lemmas.Result.{err_from_is_err_and}
use Rattle.slot_board.proofs.BoardSlots.{passed}
use Rattle.slot_board.specs.Board.{Scene}
use Rattle.slot_board.specs.declared.board.Operation.TheVariants.{Minus}
use Rattle.board_steps.specs.declared.steps.Step.TheVariants.{Combine, Copy}
use Rattle.std.proofs.Common.{[], ◌∷◌}
use Rattle.fair_plan.specs.Boards.{AreStepsOf, Origin, actions_of}
use Rattle.fair_plan.proofs.Boards.{actions_are, done, leaves_with, low}
use Rattle.fair_plan.proofs.Rounds.{round_begun}
use Rattle.fair_plan.proofs.fixpoints.begin_round.Goals as goal

can : (origin : Origin) → AreStepsOf origin (Copy 4 5 ∷ Combine 3 Minus 4 4 ∷ [])
can origin = ((low origin 4 (omega arith), low origin 5 (omega arith)), ((low origin 3 (omega arith), low origin 4 (omega arith), low origin 4 (omega arith)), tt))

pub make-requires : goal.make-requires
make-requires c = let r = c.requires.ready in (r.0, r.1, can r.0)

pub returns-in_err-make : goal.returns-in_err-make
returns-in_err-make c origin there =
    passed origin.start c.make.new.enc c.make.new.board.slots.items _ _ c.make.result c.from_residual.result _ c.in_err-make.was (err_from_is_err_and c.from_residual.result c.from_residual.ensures.1)
    (c.make.ensures origin there (can origin))

pub pair_all-requires-clause-ready : goal.pair_all-requires-clause-ready
pair_all-requires-clause-ready c =
    let r = c.requires.ready in
    let first = done r.0 (c.make.new.enc, c.make.new.board.slots.items) _ c.make.result _ c.in_ok-make.was (c.make.ensures r.0 r.1 (can r.0)) in
    (r.0, first.0)

pub pair_all-requires-clause-actions : goal.pair_all-requires-clause-actions
pair_all-requires-clause-actions c =
    let r = c.requires.ready in
    let first = done r.0 (c.make.new.enc, c.make.new.board.slots.items) _ c.make.result _ c.in_ok-make.was (c.make.ensures r.0 r.1 (can r.0)) in
    let e : length c.args.enc.now.actions ≡ actions_of r.0 = actions_are r.0 (c.args.enc.now, c.args.board.now.slots.items) r.1 in
    let f : length c.make.new.enc.actions ≡ actions_of r.0 = actions_are r.0 (c.make.new.enc, c.make.new.board.slots.items) first.0 in
    omega (arith, c.requires.actions)

pub returns : goal.returns
returns c origin there =
    let x : Scene = (c.args.enc.now, c.args.board.now.slots.items) in
    let m : Scene = (c.make.new.enc, c.make.new.board.slots.items) in
    let y : Scene = (c.pair_all.new.enc, c.pair_all.new.board.slots.items) in
    let first = done origin m _ c.make.result _ c.in_ok-make.was (c.make.ensures origin there (can origin)) in
    leaves_with origin y _ _ c.pair_all.result (λ now pairs. round_begun origin x m y first.1 pairs) (c.pair_all.ensures origin first.0)
