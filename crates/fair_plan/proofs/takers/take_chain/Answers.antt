use Rattle.std.proofs.Common.{◌≡◌, ◌+◌, ◌<◌, ◌∙◌, arith, length}
use Rattle.std.proofs.lemmas.Result.{err_from_is_err_and}
use Rattle.slot_board.proofs.BoardSlots.{passed}
use Rattle.fair_plan.specs.Boards.{actions_of}
use Rattle.fair_plan.proofs.Boards.{actions_are, actions_same, done, in_at, le_length}
use Rattle.fair_plan.proofs.Goals.{chain_stage, met_in, win_in}
use Rattle.fair_plan.proofs.TakerSteps.{takers_fit}
use Rattle.fair_plan.proofs.takers.take_chain.Goals as goal

pub loop-i-init : goal.loop-i-init
loop-i-init c origin there = there

pub stage_places-at-requires-clause-count : goal.stage_places-at-requires-clause-count
stage_places-at-requires-clause-count c = omega (arith, c.requires.chain.few, c.requires.count)

pub stage_places-at-requires-clause-stage : goal.stage_places-at-requires-clause-stage
stage_places-at-requires-clause-stage c = omega (arith, c.requires.chain.few, c.requires.count)

pub take_stage-requires-clause-ready : goal.take_stage-requires-clause-ready
take_stage-requires-clause-ready c = let r = c.requires.ready in (r.0, c.loop-i.invariant r.0 r.1)

pub take_stage-requires-clause-actions : goal.take_stage-requires-clause-actions
take_stage-requires-clause-actions c =
    let r = c.requires.ready in
    actions_same r.0 (c.args.enc.now, c.args.board.now.slots.items) (c.loop-i.enc, c.loop-i.board.slots.items) r.1 (c.loop-i.invariant r.0 r.1) c.args.actions c.requires.actions

pub take_stage-requires-clause-stage : goal.take_stage-requires-clause-stage
take_stage-requires-clause-stage c =
    let r = c.requires.ready in
    let less : c.loop-i.i < length c.args.chain.now.stages.items = omega (arith, c.requires.count) in
    chain_stage r.0 (c.args.enc.now, c.args.board.now.slots.items) (c.loop-i.enc, c.loop-i.board.slots.items) c.args.chain.now c.index.result.now c.loop-i.i less c.index.ensures r.1 (c.loop-i.invariant r.0 r.1) c.requires.chain

pub take_stage-requires-clause-places : goal.take_stage-requires-clause-places
take_stage-requires-clause-places c =
    let r = c.requires.ready in
    let n : c.args.actions ≡ actions_of r.0 = c.requires.actions ∙ actions_are r.0 (c.args.enc.now, c.args.board.now.slots.items) r.1 in
    let few = takers_fit r.0 c.args.count c.args.actions c.loop-i.i r.2 n (omega arith) in
    le_length r.0 (c.loop-i.enc, c.loop-i.board.slots.items) (c.loop-i.invariant r.0 r.1) (c.stage_places-at.result.takers + c.args.actions) (omega (arith, c.stage_places-at.ensures.takers))

pub take_stage-requires-clause-high : goal.take_stage-requires-clause-high
take_stage-requires-clause-high c = omega (arith, c.stage_places-at.ensures.takers)

pub take_stage-requires-clause-win : goal.take_stage-requires-clause-win
take_stage-requires-clause-win c =
    let r = c.requires.ready in
    let n : c.args.actions ≡ actions_of r.0 = c.requires.actions ∙ actions_are r.0 (c.args.enc.now, c.args.board.now.slots.items) r.1 in
    let is = r.2 in
    let w = win_in r.0 c.loop-i.i (omega (arith, is)) in
    in_at r.0 c.loop-i.enc c.loop-i.board.slots.items (c.loop-i.invariant r.0 r.1).at c.stage_places-at.result.win (omega (arith, c.stage_places-at.ensures.win))

pub take_stage-requires-clause-met : goal.take_stage-requires-clause-met
take_stage-requires-clause-met c =
    let r = c.requires.ready in
    let n : c.args.actions ≡ actions_of r.0 = c.requires.actions ∙ actions_are r.0 (c.args.enc.now, c.args.board.now.slots.items) r.1 in
    let is = r.2 in
    let w = met_in r.0 c.loop-i.i (omega (arith, is)) in
    in_at r.0 c.loop-i.enc c.loop-i.board.slots.items (c.loop-i.invariant r.0 r.1).at c.stage_places-at.result.met (omega (arith, c.stage_places-at.ensures.met, is))

pub returns-in_err-take_stage : goal.returns-in_err-take_stage
returns-in_err-take_stage c origin there =
    passed origin.start c.take_stage.new.enc c.take_stage.new.board.slots.items _ _ c.take_stage.result c.from_residual.result _ c.in_err-take_stage.was (err_from_is_err_and c.from_residual.result c.from_residual.ensures.1)
    (c.take_stage.ensures origin (c.loop-i.invariant origin there))

pub loop-i-preserved : goal.loop-i-preserved
loop-i-preserved c origin there =
    (done origin (c.take_stage.new.enc, c.take_stage.new.board.slots.items) _ c.take_stage.result _ c.in_ok-take_stage.was (c.take_stage.ensures origin (c.loop-i.invariant origin there))).0

pub takers_at-requires-clause-count : goal.takers_at-requires-clause-count
takers_at-requires-clause-count c = omega (arith, c.requires.chain.few, c.requires.count)

pub takers_at-requires-clause-stage : goal.takers_at-requires-clause-stage
takers_at-requires-clause-stage c = omega (arith, c.requires.chain.few, c.requires.count)

pub take_end-requires-clause-ready : goal.take_end-requires-clause-ready
take_end-requires-clause-ready c = let r = c.requires.ready in (r.0, c.loop-i.invariant r.0 r.1)

pub take_end-requires-clause-actions : goal.take_end-requires-clause-actions
take_end-requires-clause-actions c =
    let r = c.requires.ready in
    actions_same r.0 (c.args.enc.now, c.args.board.now.slots.items) (c.loop-i.enc, c.loop-i.board.slots.items) r.1 (c.loop-i.invariant r.0 r.1) c.args.actions c.requires.actions

pub take_end-requires-clause-places : goal.take_end-requires-clause-places
take_end-requires-clause-places c =
    let r = c.requires.ready in
    let n : c.args.actions ≡ actions_of r.0 = c.requires.actions ∙ actions_are r.0 (c.args.enc.now, c.args.board.now.slots.items) r.1 in
    let few = takers_fit r.0 c.args.count c.args.actions c.args.count r.2 n (omega arith) in
    le_length r.0 (c.loop-i.enc, c.loop-i.board.slots.items) (c.loop-i.invariant r.0 r.1) (c.takers_at.result + c.args.actions) (omega (arith, c.takers_at.ensures))

pub take_end-requires-clause-place : goal.take_end-requires-clause-place
take_end-requires-clause-place c =
    let r = c.requires.ready in
    let n : c.args.actions ≡ actions_of r.0 = c.requires.actions ∙ actions_are r.0 (c.args.enc.now, c.args.board.now.slots.items) r.1 in
    let is = r.2 in
    let w = win_in r.0 c.args.count (omega (arith, is)) in
    in_at r.0 c.loop-i.enc c.loop-i.board.slots.items (c.loop-i.invariant r.0 r.1).at c.win_at.result (omega (arith, c.win_at.ensures))

pub returns : goal.returns
returns c origin there = c.take_end.ensures origin (c.loop-i.invariant origin there)
