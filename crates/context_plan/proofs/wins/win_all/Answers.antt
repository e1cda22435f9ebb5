use Rattle.context_plan.proofs.HandedSteps.{stages_more, stages_none}
use Rattle.context_plan.proofs.FitSteps.{end_fits, stage_fits_at}
use Rattle.std.proofs.Common.{◌≡◌, ◌<◌, length, ◌-◌, ◌∙◌, ◌∷◌, arith, ap, drop, map, refl, slice_index_or, suc, sym}
use Rattle.ctl_syntax.specs.GoalValues.{stage_sets}
use Rattle.ctl_syntax.specs.declared.context_goals.UntilStage.{UntilStage}
use Rattle.slot_board.proofs.BoardSlots.{went}
use Rattle.slot_board.proofs.Endings.{found_of, memory_passed, passed_on}
use Rattle.std.proofs.lemmas.Result.{err_from_is_err_and}
use Rattle.context_plan.specs.Chains.{until_sets}
use Rattle.context_plan.specs.Scenes.{board_of}
use Rattle.context_plan.proofs.OverSteps.{over_still, stage_over}
use Rattle.context_plan.proofs.PlanSteps.{stage_count}
use Rattle.context_plan.proofs.WinSteps.{drop_some, wins_end_at, wins_more_at}
use Rattle.context_plan.proofs.wins.win_all.Goals as goal

pub loop-i-init : goal.loop-i-init
loop-i-init c start at n fits =
    let won = went (board_of start) c.win_end.new.enc c.win_end.new.board.slots.items _ c.win_end.result _ c.in_ok-win_end.was (c.win_end.ensures start at (end_fits start c.args.chain.now fits)) in
    let last : start.stages ≡ c.len-stages.result = omega (arith, c.len-stages.ensures, n) in (
      wins_end_at start (c.args.enc.now, c.args.board.now.slots.items) (c.win_end.new.enc, c.win_end.new.board.slots.items) (until_sets c.args.chain.now) c.args.chain.now.keep c.len-stages.result c.win_at.result
          (stage_count c.args.chain.now start.stages n) (sym last) c.win_at.ensures refl won,
      stages_none start (until_sets c.args.chain.now) c.len-stages.result c.new-notes.result.items (sym last) c.new-notes.ensures.items,
    )

pub win_stage-requires-clause-ready : goal.win_stage-requires-clause-ready
win_stage-requires-clause-ready c =
    let r = c.requires.ready in
    let n = r.2 in
    let h = (c.loop-i.invariant r.0 r.1 r.2 r.3).0 in
    (r.0, h.changed.ready, (stage_fits_at r.0 (c.args.enc.now, c.args.board.now.slots.items) (c.loop-i.enc, c.loop-i.board.slots.items) c.args.chain.now c.loop-i.i c.win_at-in-loop-i.result c.index.result.now (omega arith) (omega (arith, n)) c.win_at-in-loop-i.ensures (let l : c.loop-i.i - 1 < length c.args.chain.now.stages.items = omega (arith, n) in l) c.index.ensures h r.3))

pub loop-i-preserved : goal.loop-i-preserved
loop-i-preserved c start at n fits =
    let h = (c.loop-i.invariant start at n fits).0 in
    let won = found_of (board_of start) c.win_stage.new.enc c.win_stage.new.board.slots.items _ c.win_stage.result _ c.in_ok-steps.was (c.win_stage.ensures start h.changed.ready (stage_fits_at start (c.args.enc.now, c.args.board.now.slots.items) (c.loop-i.enc, c.loop-i.board.slots.items) c.args.chain.now c.loop-i.i c.win_at-in-loop-i.result c.index.result.now (omega arith) (omega (arith, n)) c.win_at-in-loop-i.ensures (let l : c.loop-i.i - 1 < length c.args.chain.now.stages.items = omega (arith, n) in l) c.index.ensures h fits)) in
    let items = c.args.chain.now.stages.items in
    let same : slice_index_or items (c.loop-i.i - 1) c.index.result.now ≡ c.index.result.now = sym c.index.ensures in (
      wins_more_at start (c.args.enc.now, c.args.board.now.slots.items) (c.loop-i.enc, c.loop-i.board.slots.items) (c.win_stage.new.enc, c.win_stage.new.board.slots.items) (until_sets c.args.chain.now) c.loop-i.i c.win_at-in-loop-i.result c.index.result.now
          (omega arith) (omega (arith, n)) c.win_at-in-loop-i.ensures
          (drop_some stage_sets items (c.loop-i.i - 1) c.index.result.now (omega (arith, n)) ∙ ap (λ (stage : UntilStage). stage_sets stage ∷ drop (suc (c.loop-i.i - 1)) (map stage_sets items)) same)
          h won.0,
      stages_more start (c.args.enc.now, c.args.board.now.slots.items) (c.loop-i.enc, c.loop-i.board.slots.items) c.args.chain.now c.loop-i.i c.win_at-in-loop-i.result c.index.result.now c.loop-i.notes.items c.keep_steps.new.notes.items c.in_ok-steps.steps (omega arith) (omega (arith, n)) c.win_at-in-loop-i.ensures (let l : c.loop-i.i - 1 < length c.args.chain.now.stages.items = omega (arith, n) in l) c.index.ensures h (c.loop-i.invariant start at n fits).1 c.in_ok-keep_steps.ensures.kept won.1,
    )

pub returns-in_err-keep_steps : goal.returns-in_err-keep_steps
returns-in_err-keep_steps c start at n fits =
    let h = (c.loop-i.invariant start at n fits).0 in
    let won = found_of (board_of start) c.win_stage.new.enc c.win_stage.new.board.slots.items _ c.win_stage.result _ c.in_ok-steps.was (c.win_stage.ensures start h.changed.ready (stage_fits_at start (c.args.enc.now, c.args.board.now.slots.items) (c.loop-i.enc, c.loop-i.board.slots.items) c.args.chain.now c.loop-i.i c.win_at-in-loop-i.result c.index.result.now (omega arith) (omega (arith, n)) c.win_at-in-loop-i.ensures (let l : c.loop-i.i - 1 < length c.args.chain.now.stages.items = omega (arith, n) in l) c.index.ensures h fits)) in
    memory_passed (board_of start) c.win_stage.new.enc c.win_stage.new.board.slots.items _ c.keep_steps.result c.from_residual-in_err-keep_steps.result _ c.in_err-keep_steps.was (err_from_is_err_and c.from_residual-in_err-keep_steps.result c.from_residual-in_err-keep_steps.ensures.1) c.keep_steps.ensures.never_full won.0.changed.ready.at

pub win_end-requires-clause-ready : goal.win_end-requires-clause-ready
win_end-requires-clause-ready c = let r = c.requires.ready in (r.0, r.1, end_fits r.0 c.args.chain.now r.3)

pub returns-in_err-win_end : goal.returns-in_err-win_end
returns-in_err-win_end c start at n fits =
    let p = err_from_is_err_and c.from_residual.result c.from_residual.ensures.1 in
    passed_on (board_of start) c.win_end.new.enc c.win_end.new.board.slots.items _ _ c.win_end.result c.from_residual.result _ c.in_err-win_end.was p (c.win_end.ensures start at (end_fits start c.args.chain.now fits))

pub returns-in_err-steps : goal.returns-in_err-steps
returns-in_err-steps c start at n fits =
    let p = err_from_is_err_and c.from_residual-in_err-steps.result c.from_residual-in_err-steps.ensures.1 in
    let h = (c.loop-i.invariant start at n fits).0 in
    passed_on (board_of start) c.win_stage.new.enc c.win_stage.new.board.slots.items _ _ c.win_stage.result c.from_residual-in_err-steps.result _ c.in_err-steps.was p (c.win_stage.ensures start h.changed.ready (stage_fits_at start (c.args.enc.now, c.args.board.now.slots.items) (c.loop-i.enc, c.loop-i.board.slots.items) c.args.chain.now c.loop-i.i c.win_at-in-loop-i.result c.index.result.now (omega arith) (omega (arith, n)) c.win_at-in-loop-i.ensures (let l : c.loop-i.i - 1 < length c.args.chain.now.stages.items = omega (arith, n) in l) c.index.ensures h fits))

pub win_stage-requires-clause-guard : goal.win_stage-requires-clause-guard
win_stage-requires-clause-guard c =
    let r = c.requires.ready in
    let n = r.2 in
    let h = (c.loop-i.invariant r.0 r.1 r.2 r.3).0 in
    (stage_over c.loop-i.enc.sets.vars c.args.chain.now c.index.result.now (c.loop-i.i - 1) (omega (arith, n)) c.index.ensures (over_still r.0 (c.args.enc.now, c.args.board.now.slots.items) (c.loop-i.enc, c.loop-i.board.slots.items) c.args.chain.now r.1 h.changed.ready.at c.requires.chain)).0

pub win_stage-requires-clause-target : goal.win_stage-requires-clause-target
win_stage-requires-clause-target c =
    let r = c.requires.ready in
    let n = r.2 in
    let h = (c.loop-i.invariant r.0 r.1 r.2 r.3).0 in
    (stage_over c.loop-i.enc.sets.vars c.args.chain.now c.index.result.now (c.loop-i.i - 1) (omega (arith, n)) c.index.ensures (over_still r.0 (c.args.enc.now, c.args.board.now.slots.items) (c.loop-i.enc, c.loop-i.board.slots.items) c.args.chain.now r.1 h.changed.ready.at c.requires.chain)).1
