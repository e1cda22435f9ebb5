use Rattle.std.proofs.Common.{◌≡◌, ℕ, ◌-◌, ◌∙◌, subst, arith, drop, map}
use Rattle.std.proofs.lemmas.Result.{err_from_is_err_and}
use Rattle.slot_board.specs.Board.{Scene}
use Rattle.slot_board.proofs.BoardSlots.{passed}
use Rattle.ctl_syntax.specs.Conditions.{states_of}
use Rattle.fair_theory.specs.FairSets.{IsChainWin}
use Rattle.ctl_syntax.specs.GoalValues.{stage_sets}
use Rattle.fair_plan.specs.Boards.{actions_of, states_in, sys_of}
use Rattle.fair_plan.specs.Places.{win_place}
use Rattle.fair_plan.proofs.Boards.{actions_are, actions_same, done, in_at}
use Rattle.fair_plan.proofs.Goals.{chain_last, chain_later, chain_more, chain_stage, met_in, win_in}
use Rattle.fair_plan.proofs.stages.win_chain.Goals as goal

pub win_end-requires-clause-ready : goal.win_end-requires-clause-ready
win_end-requires-clause-ready c = let r = c.requires.ready in (r.0, r.1)

pub win_end-requires-clause-keep : goal.win_end-requires-clause-keep
win_end-requires-clause-keep c = c.requires.chain.each.keep

pub win_end-requires-clause-place : goal.win_end-requires-clause-place
win_end-requires-clause-place c =
    let r = c.requires.ready in
    let x : Scene = (c.args.enc.now, c.args.board.now.slots.items) in
    let n : c.args.actions ≡ actions_of r.0 = c.requires.actions ∙ actions_are r.0 x r.1 in
    let count : r.0.count ≡ c.args.count = r.2 in
    let w = win_in r.0 c.args.count (omega arith) in
    in_at r.0 c.args.enc.now c.args.board.now.slots.items r.1.at c.win_at.result (omega (arith, c.win_at.ensures))

pub win_end-requires-clause-high : goal.win_end-requires-clause-high
win_end-requires-clause-high c = omega (arith, c.win_at.ensures)

pub returns-in_err-win_end : goal.returns-in_err-win_end
returns-in_err-win_end c origin there count =
    passed origin.start c.win_end.new.enc c.win_end.new.board.slots.items _ _ c.win_end.result c.from_residual.result _ c.in_err-win_end.was (err_from_is_err_and c.from_residual.result c.from_residual.ensures.1) (c.win_end.ensures origin there)

pub loop-i-init : goal.loop-i-init
loop-i-init c origin there count =
    let x : Scene = (c.args.enc.now, c.args.board.now.slots.items) in
    let y : Scene = (c.win_end.new.enc, c.win_end.new.board.slots.items) in
    let n : c.args.actions ≡ actions_of origin = c.requires.actions ∙ actions_are origin x there in
    let won = done origin y _ c.win_end.result _ c.in_ok-win_end.was (c.win_end.ensures origin there) in
    (won.0, chain_last origin (states_of c.args.chain.now.keep) c.args.chain.now.stages.items y c.args.count c.win_at.result c.requires.count (let w : c.win_at.result ≡ win_place (actions_of origin) c.args.count = omega (arith, c.win_at.ensures) in w) won.1)

pub stage_places-at-requires-clause-count : goal.stage_places-at-requires-clause-count
stage_places-at-requires-clause-count c = omega (arith, c.requires.chain.few, c.requires.count)

pub stage_places-at-requires-clause-stage : goal.stage_places-at-requires-clause-stage
stage_places-at-requires-clause-stage c = omega arith

pub win_stage-requires-clause-ready : goal.win_stage-requires-clause-ready
win_stage-requires-clause-ready c = let r = c.requires.ready in (r.0, (c.loop-i.invariant r.0 r.1 r.2).0)

pub win_stage-requires-clause-actions : goal.win_stage-requires-clause-actions
win_stage-requires-clause-actions c =
    let r = c.requires.ready in
    actions_same r.0 (c.args.enc.now, c.args.board.now.slots.items) (c.loop-i.enc, c.loop-i.board.slots.items) r.1 (c.loop-i.invariant r.0 r.1 r.2).0 c.args.actions c.requires.actions

pub win_stage-requires-clause-stage : goal.win_stage-requires-clause-stage
win_stage-requires-clause-stage c =
    let r = c.requires.ready in
    chain_stage r.0 (c.args.enc.now, c.args.board.now.slots.items) (c.loop-i.enc, c.loop-i.board.slots.items) c.args.chain.now c.index.result.now (c.loop-i.i - 1) (omega (arith, c.requires.count)) c.index.ensures r.1 (c.loop-i.invariant r.0 r.1 r.2).0 c.requires.chain

pub win_stage-requires-clause-place : goal.win_stage-requires-clause-place
win_stage-requires-clause-place c =
    let r = c.requires.ready in
    let x : Scene = (c.args.enc.now, c.args.board.now.slots.items) in
    let n : c.args.actions ≡ actions_of r.0 = c.requires.actions ∙ actions_are r.0 x r.1 in
    let count : r.0.count ≡ c.args.count = r.2 in
    let w = met_in r.0 (c.loop-i.i - 1) (omega arith) in
    in_at r.0 c.loop-i.enc c.loop-i.board.slots.items (c.loop-i.invariant r.0 r.1 r.2).0.at c.stage_places-at.result.met (omega (arith, c.stage_places-at.ensures.met))

pub win_stage-requires-clause-later : goal.win_stage-requires-clause-later
win_stage-requires-clause-later c = omega (arith, c.stage_places-at.ensures.met, c.stage_places-at.ensures.next)

pub win_stage-requires-clause-own : goal.win_stage-requires-clause-own
win_stage-requires-clause-own c = omega (arith, c.stage_places-at.ensures.win, c.stage_places-at.ensures.next)

pub win_stage-requires-clause-high : goal.win_stage-requires-clause-high
win_stage-requires-clause-high c = omega (arith, c.stage_places-at.ensures.win)

pub returns-in_err-win_stage : goal.returns-in_err-win_stage
returns-in_err-win_stage c origin there count =
    let x : Scene = (c.args.enc.now, c.args.board.now.slots.items) in
    let y : Scene = (c.loop-i.enc, c.loop-i.board.slots.items) in
    let n : c.args.actions ≡ actions_of origin = c.requires.actions ∙ actions_are origin x there in
    let k = c.loop-i.invariant origin there count in
    let later = chain_later origin (states_of c.args.chain.now.keep) _ y c.loop-i.i c.stage_places-at.result.next (let e : c.stage_places-at.result.next ≡ win_place (actions_of origin) c.loop-i.i = omega (arith, c.stage_places-at.ensures.next) in e) k.1 in
    passed origin.start c.win_stage.new.enc c.win_stage.new.board.slots.items _ _ c.win_stage.result c.from_residual-in_err-win_stage.result _ c.in_err-win_stage.was (err_from_is_err_and c.from_residual-in_err-win_stage.result c.from_residual-in_err-win_stage.ensures.1)
    (c.win_stage.ensures origin (states_of c.args.chain.now.keep) (drop c.loop-i.i (map stage_sets c.args.chain.now.stages.items)) k.0 later)

pub loop-i-preserved : goal.loop-i-preserved
loop-i-preserved c origin there count =
    let x : Scene = (c.args.enc.now, c.args.board.now.slots.items) in
    let y : Scene = (c.loop-i.enc, c.loop-i.board.slots.items) in
    let z : Scene = (c.win_stage.new.enc, c.win_stage.new.board.slots.items) in
    let n : c.args.actions ≡ actions_of origin = c.requires.actions ∙ actions_are origin x there in
    let k = c.loop-i.invariant origin there count in
    let is : c.stage_places-at.result.win ≡ win_place (actions_of origin) (c.loop-i.i - 1) = omega (arith, c.stage_places-at.ensures.win) in
    let later = chain_later origin (states_of c.args.chain.now.keep) _ y c.loop-i.i c.stage_places-at.result.next (let e : c.stage_places-at.result.next ≡ win_place (actions_of origin) c.loop-i.i = omega (arith, c.stage_places-at.ensures.next) in e) k.1 in
    let more = done origin z _ c.win_stage.result _ c.in_ok-win_stage.was (c.win_stage.ensures origin (states_of c.args.chain.now.keep) (drop c.loop-i.i (map stage_sets c.args.chain.now.stages.items)) k.0 later) in
    (more.0, chain_more origin (states_of c.args.chain.now.keep) c.args.chain.now.stages.items c.index.result.now z c.loop-i.i c.stage_places-at.result.win (omega arith) (omega (arith, c.requires.count)) is c.index.ensures more.1)

pub returns : goal.returns
returns c origin there count =
    let y : Scene = (c.loop-i.enc, c.loop-i.board.slots.items) in
    let k = c.loop-i.invariant origin there count in
    let zero : c.loop-i.i ≡ 0 = omega arith in
    (k.0, subst (λ (i : ℕ). IsChainWin (sys_of origin) (states_of c.args.chain.now.keep) (drop i (map stage_sets c.args.chain.now.stages.items)) (states_in y (win_place (actions_of origin) i))) zero k.1)
