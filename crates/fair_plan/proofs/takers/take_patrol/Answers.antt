use Rattle.std.proofs.Common.{◌≡◌, ◌+◌, ◌∙◌, arith}
use Rattle.std.proofs.lemmas.Result.{err_from_is_err_and}
use Rattle.slot_board.proofs.BoardSlots.{passed}
use Rattle.fair_plan.specs.Boards.{actions_of}
use Rattle.fair_plan.proofs.Boards.{actions_are, actions_same, done, in_at, le_length}
use Rattle.fair_plan.proofs.Goals.{met_in, whole_can, win_in}
use Rattle.fair_plan.proofs.TakerSteps.{takers_fit}
use Rattle.fair_plan.proofs.takers.take_patrol.Goals as goal

pub make-requires : goal.make-requires
make-requires c = let r = c.requires.ready in (r.0, r.1, whole_can r.0)

pub returns-in_err-make : goal.returns-in_err-make
returns-in_err-make c origin there =
    passed origin.start c.make.new.enc c.make.new.board.slots.items _ _ c.make.result c.from_residual.result _ c.in_err-make.was (err_from_is_err_and c.from_residual.result c.from_residual.ensures.1) (c.make.ensures origin there (whole_can origin))

pub pair_within-requires-clause-ready : goal.pair_within-requires-clause-ready
pair_within-requires-clause-ready c =
    let r = c.requires.ready in
    let d0 = done r.0 (c.make.new.enc, c.make.new.board.slots.items) _ c.make.result _ c.in_ok-make.was (c.make.ensures r.0 r.1 (whole_can r.0)) in
    (r.0, d0.0)

pub pair_within-requires-clause-actions : goal.pair_within-requires-clause-actions
pair_within-requires-clause-actions c =
    let r = c.requires.ready in
    let d0 = done r.0 (c.make.new.enc, c.make.new.board.slots.items) _ c.make.result _ c.in_ok-make.was (c.make.ensures r.0 r.1 (whole_can r.0)) in
    actions_same r.0 (c.args.enc.now, c.args.board.now.slots.items) (c.make.new.enc, c.make.new.board.slots.items) r.1 d0.0 c.args.actions c.requires.actions

pub pair_within-requires-clause-place : goal.pair_within-requires-clause-place
pair_within-requires-clause-place c =
    let r = c.requires.ready in
    let n : c.args.actions ≡ actions_of r.0 = c.requires.actions ∙ actions_are r.0 (c.args.enc.now, c.args.board.now.slots.items) r.1 in
    let d0 = done r.0 (c.make.new.enc, c.make.new.board.slots.items) _ c.make.result _ c.in_ok-make.was (c.make.ensures r.0 r.1 (whole_can r.0)) in
    let w = win_in r.0 0 (omega arith) in
    in_at r.0 c.make.new.enc c.make.new.board.slots.items d0.0.at c.win_at.result (omega (arith, c.win_at.ensures))

pub returns-in_err-pair_within : goal.returns-in_err-pair_within
returns-in_err-pair_within c origin there =
    let d0 = done origin (c.make.new.enc, c.make.new.board.slots.items) _ c.make.result _ c.in_ok-make.was (c.make.ensures origin there (whole_can origin)) in
    passed origin.start c.pair_within.new.enc c.pair_within.new.board.slots.items _ _ c.pair_within.result c.from_residual-in_err-pair_within.result _ c.in_err-pair_within.was (err_from_is_err_and c.from_residual-in_err-pair_within.result c.from_residual-in_err-pair_within.ensures.1)
    (c.pair_within.ensures origin d0.0)

pub loop-i-init : goal.loop-i-init
loop-i-init c origin there =
    let d0 = done origin (c.make.new.enc, c.make.new.board.slots.items) _ c.make.result _ c.in_ok-make.was (c.make.ensures origin there (whole_can origin)) in
    (done origin (c.pair_within.new.enc, c.pair_within.new.board.slots.items) _ c.pair_within.result _ c.in_ok-pair_within.was (c.pair_within.ensures origin d0.0)).0

pub takers_at-requires-clause-stage : goal.takers_at-requires-clause-stage
takers_at-requires-clause-stage c = omega (arith, c.requires.count)

pub take_visit-requires-clause-ready : goal.take_visit-requires-clause-ready
take_visit-requires-clause-ready c = let r = c.requires.ready in (r.0, c.loop-i.invariant r.0 r.1)

pub take_visit-requires-clause-actions : goal.take_visit-requires-clause-actions
take_visit-requires-clause-actions c =
    let r = c.requires.ready in
    actions_same r.0 (c.args.enc.now, c.args.board.now.slots.items) (c.loop-i.enc, c.loop-i.board.slots.items) r.1 (c.loop-i.invariant r.0 r.1) c.args.actions c.requires.actions

pub take_visit-requires-clause-places : goal.take_visit-requires-clause-places
take_visit-requires-clause-places c =
    let r = c.requires.ready in
    let n : c.args.actions ≡ actions_of r.0 = c.requires.actions ∙ actions_are r.0 (c.args.enc.now, c.args.board.now.slots.items) r.1 in
    let few = takers_fit r.0 c.args.count c.args.actions c.loop-i.i r.2 n (omega arith) in
    le_length r.0 (c.loop-i.enc, c.loop-i.board.slots.items) (c.loop-i.invariant r.0 r.1) (c.takers_at.result + c.args.actions) (omega (arith, c.takers_at.ensures))

pub take_visit-requires-clause-high : goal.take_visit-requires-clause-high
take_visit-requires-clause-high c = omega (arith, c.takers_at.ensures)

pub take_visit-requires-clause-met : goal.take_visit-requires-clause-met
take_visit-requires-clause-met c =
    let r = c.requires.ready in
    let n : c.args.actions ≡ actions_of r.0 = c.requires.actions ∙ actions_are r.0 (c.args.enc.now, c.args.board.now.slots.items) r.1 in
    let is = r.2 in
    let w = met_in r.0 c.loop-i.i (omega (arith, is)) in
    in_at r.0 c.loop-i.enc c.loop-i.board.slots.items (c.loop-i.invariant r.0 r.1).at c.met_at.result (omega (arith, c.met_at.ensures, is))

pub returns-in_err-take_visit : goal.returns-in_err-take_visit
returns-in_err-take_visit c origin there =
    passed origin.start c.take_visit.new.enc c.take_visit.new.board.slots.items _ _ c.take_visit.result c.from_residual-in_err-take_visit.result _ c.in_err-take_visit.was (err_from_is_err_and c.from_residual-in_err-take_visit.result c.from_residual-in_err-take_visit.ensures.1)
    (c.take_visit.ensures origin (c.loop-i.invariant origin there))

pub loop-i-preserved : goal.loop-i-preserved
loop-i-preserved c origin there =
    (done origin (c.take_visit.new.enc, c.take_visit.new.board.slots.items) _ c.take_visit.result _ c.in_ok-take_visit.was (c.take_visit.ensures origin (c.loop-i.invariant origin there))).0

pub returns : goal.returns
returns c origin there = (c.loop-i.invariant origin there, tt)
