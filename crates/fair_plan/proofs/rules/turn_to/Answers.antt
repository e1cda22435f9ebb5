use Rattle.std.proofs.Common.{◌≡◌, ◌<◌, arith, length, [], ◌∷◌}
use Rattle.std.proofs.lemmas.Result.{err_from_is_err_and}
use Rattle.slot_board.specs.Board.{Scene}
use Rattle.slot_board.proofs.BoardSlots.{passed}
use Rattle.fair_plan.proofs.Boards.{actions_are, done, in_at, in_start, low}
use Rattle.fair_plan.specs.Boards.{actions_of}
use Rattle.std.proofs.Common.{ℕ, ◌∙◌}
use Rattle.board_steps.specs.declared.steps.Step.TheVariants.{Copy}
use Rattle.fair_plan.specs.Boards.{AreStepsOf, IsThere, Origin}
use Rattle.fair_plan.proofs.Goals.{met_in, win_in}
use Rattle.fair_plan.proofs.rules.turn_to.Goals as goal

can : (origin : Origin) (x : Scene) → IsThere origin x → (k : ℕ) → k < length x.1 → AreStepsOf origin (Copy 7 k ∷ [])
can origin x there k l = ((low origin 7 (omega arith), in_start origin x there k l), tt)

pub make-requires : goal.make-requires
make-requires c =
    let r = c.requires.ready in
    let n : c.args.sizes.actions ≡ actions_of r.0 = c.requires.actions ∙ actions_are r.0 (c.args.enc.now, c.args.board.now.slots.items) r.1 in
    let is = r.2 in
    let w = win_in r.0 c.args.leap.stage (omega (arith, is, c.requires.stage, c.requires.next)) in
    let win = in_at r.0 c.args.enc.now c.args.board.now.slots.items r.1.at c.win_at.result (omega (arith, c.win_at.ensures)) in
    (r.0, r.1, can r.0 (c.args.enc.now, c.args.board.now.slots.items) r.1 c.win_at.result win)

pub returns-in_err-make : goal.returns-in_err-make
returns-in_err-make c origin there =
    let r = c.requires.ready in
    let n : c.args.sizes.actions ≡ actions_of r.0 = c.requires.actions ∙ actions_are r.0 (c.args.enc.now, c.args.board.now.slots.items) r.1 in
    let is = r.2 in
    let w = win_in r.0 c.args.leap.stage (omega (arith, is, c.requires.stage, c.requires.next)) in
    let win = in_at r.0 c.args.enc.now c.args.board.now.slots.items r.1.at c.win_at.result (omega (arith, c.win_at.ensures)) in
    passed origin.start c.make.new.enc c.make.new.board.slots.items _ _ c.make.result c.from_residual.result _ c.in_err-make.was (err_from_is_err_and c.from_residual.result c.from_residual.ensures.1)
    (c.make.ensures origin there (can origin (c.args.enc.now, c.args.board.now.slots.items) there c.win_at.result win))

pub loop-i-init : goal.loop-i-init
loop-i-init c origin there =
    let r = c.requires.ready in
    let n : c.args.sizes.actions ≡ actions_of r.0 = c.requires.actions ∙ actions_are r.0 (c.args.enc.now, c.args.board.now.slots.items) r.1 in
    let is = r.2 in
    let w = win_in r.0 c.args.leap.stage (omega (arith, is, c.requires.stage, c.requires.next)) in
    let win = in_at r.0 c.args.enc.now c.args.board.now.slots.items r.1.at c.win_at.result (omega (arith, c.win_at.ensures)) in
    (done origin (c.make.new.enc, c.make.new.board.slots.items) _ c.make.result _ c.in_ok-make.was (c.make.ensures origin there (can origin (c.args.enc.now, c.args.board.now.slots.items) there c.win_at.result win))).0

pub meet_rest-requires-clause-ready : goal.meet_rest-requires-clause-ready
meet_rest-requires-clause-ready c = let r = c.requires.ready in (r.0, c.loop-i.invariant r.0 r.1)

pub meet_rest-requires-clause-place : goal.meet_rest-requires-clause-place
meet_rest-requires-clause-place c =
    let r = c.requires.ready in
    let n : c.args.sizes.actions ≡ actions_of r.0 = c.requires.actions ∙ actions_are r.0 (c.args.enc.now, c.args.board.now.slots.items) r.1 in
    let is = r.2 in
    let w = met_in r.0 c.loop-i.i (omega (arith, is, c.requires.next)) in
    in_at r.0 c.loop-i.enc c.loop-i.board.slots.items (c.loop-i.invariant r.0 r.1).at c.met_at.result (omega (arith, c.met_at.ensures, is))

pub returns-in_err-meet_rest : goal.returns-in_err-meet_rest
returns-in_err-meet_rest c origin there =
    passed origin.start c.meet_rest.new.enc c.meet_rest.new.board.slots.items _ _ c.meet_rest.result c.from_residual-in_err-meet_rest.result _ c.in_err-meet_rest.was (err_from_is_err_and c.from_residual-in_err-meet_rest.result c.from_residual-in_err-meet_rest.ensures.1)
    (c.meet_rest.ensures origin (c.loop-i.invariant origin there))

pub loop-i-preserved : goal.loop-i-preserved
loop-i-preserved c origin there =
    (done origin (c.meet_rest.new.enc, c.meet_rest.new.board.slots.items) _ c.meet_rest.result _ c.in_ok-meet_rest.was (c.meet_rest.ensures origin (c.loop-i.invariant origin there))).0

pub drop_rest-requires-clause-ready : goal.drop_rest-requires-clause-ready
drop_rest-requires-clause-ready c = let r = c.requires.ready in (r.0, c.loop-i.invariant r.0 r.1)

pub drop_rest-requires-clause-place : goal.drop_rest-requires-clause-place
drop_rest-requires-clause-place c =
    let r = c.requires.ready in
    let n : c.args.sizes.actions ≡ actions_of r.0 = c.requires.actions ∙ actions_are r.0 (c.args.enc.now, c.args.board.now.slots.items) r.1 in
    let is = r.2 in
    let w = met_in r.0 c.args.leap.next (omega (arith, is, c.requires.next)) in
    in_at r.0 c.loop-i.enc c.loop-i.board.slots.items (c.loop-i.invariant r.0 r.1).at c.met_at-2.result (omega (arith, c.met_at-2.ensures, is))

pub returns : goal.returns
returns c origin there = c.drop_rest.ensures origin (c.loop-i.invariant origin there)
