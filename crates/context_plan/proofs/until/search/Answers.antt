use Rattle.context_plan.specs.Noted.{NotedStages}
use Rattle.context_plan.proofs.FitSteps.{test_fits}
use Rattle.plan_theory.proofs.NoUntil.{none_without_cover}
use Rattle.plan_theory.specs.UntilChains.{covers_until}
use Rattle.context_plan.proofs.OverSteps.{over_still}
use Rattle.context_plan.proofs.PlanSteps.{blank, covered_is, ends_refused, ends_unanswered, stage_count, stayed_worked, table_is}
use Rattle.context_plan.proofs.RuleSteps.{has_still}
use Rattle.context_plan.proofs.SceneSteps.{same_length, long_enough}
use Rattle.context_plan.proofs.TakenSteps.{takers_none}
use Rattle.context_plan.specs.Chains.{until_sets}
use Rattle.context_plan.specs.Scenes.{board_of, states_at, sys_of, win_place}
use Rattle.slot_board.proofs.BoardSlots.{went, same_actions}
use Rattle.slot_board.proofs.Endings.{found_of}
use Rattle.std.proofs.Common.{◌≡◌, arith, length, refl, subst, sym, ap, ◌∙◌}
use Rattle.std.proofs.lemmas.Result.{err_from_is_err_and}
use Rattle.std.specs.List.{list_all}
use Rattle.std.specs.Prelude.{true}
use Rattle.task_core.proofs.TaskSystem.{is_system}
use Rattle.context_plan.proofs.until.search.Goals as goal

pub win_all-requires-clause-ready : goal.win_all-requires-clause-ready
win_all-requires-clause-ready c =
    let start = c.requires.ready.0 in
    let n = c.requires.ready.1 in
    let h = c.requires.ready.2 in
    let fits = c.requires.ready.3 in
    (start, h.at, n, fits)

pub returns-in_err-notes : goal.returns-in_err-notes
returns-in_err-notes c start n h fits =
    let p = err_from_is_err_and c.from_residual.result c.from_residual.ensures.1 in
    ends_unanswered start (c.win_all.new.enc, c.win_all.new.board.slots.items) (until_sets c.args.chain.now) _ c.win_all.result c.from_residual.result _ c.in_err-notes.was p (c.win_all.ensures start h.at n fits)

pub covers_initial-requires-clause-working : goal.covers_initial-requires-clause-working
covers_initial-requires-clause-working c =
    let start = c.requires.ready.0 in
    let n = c.requires.ready.1 in
    let h = c.requires.ready.2 in
    let fits = c.requires.ready.3 in
    let w = (found_of (board_of start) c.win_all.new.enc c.win_all.new.board.slots.items _ c.win_all.result _ c.in_ok-notes.was (c.win_all.ensures start h.at n fits)).0 in
    (board_of start, w.changed.ready.at)

pub covers_initial-requires-clause-place : goal.covers_initial-requires-clause-place
covers_initial-requires-clause-place c =
    let start = c.requires.ready.0 in
    let n = c.requires.ready.1 in
    let h = c.requires.ready.2 in
    let fits = c.requires.ready.3 in
    let w = (found_of (board_of start) c.win_all.new.enc c.win_all.new.board.slots.items _ c.win_all.result _ c.in_ok-notes.was (c.win_all.ensures start h.at n fits)).0 in
    let l = long_enough start (c.win_all.new.enc, c.win_all.new.board.slots.items) w.changed.ready.at (win_place 0) (omega arith) in
    omega (arith, c.win_at.ensures)

pub returns-in_err-covers_initial : goal.returns-in_err-covers_initial
returns-in_err-covers_initial c start n h fits =
    let p = err_from_is_err_and c.from_residual-in_err-covers_initial.result c.from_residual-in_err-covers_initial.ensures.1 in
    let w = (found_of (board_of start) c.win_all.new.enc c.win_all.new.board.slots.items _ c.win_all.result _ c.in_ok-notes.was (c.win_all.ensures start h.at n fits)).0 in
    ends_refused start (c.covers_initial.new.enc, c.win_all.new.board.slots.items) (until_sets c.args.chain.now) _ c.covers_initial.result c.from_residual-in_err-covers_initial.result _ c.in_err-covers_initial.was p (c.covers_initial.ensures.left (board_of start) w.changed.ready.at (test_fits start (c.win_all.new.enc, c.win_all.new.board.slots.items) c.win_at.result (until_sets c.args.chain.now) c.win_at.ensures w.changed.ready fits.sets))

pub returns-then-not-branch : goal.returns-then-not-branch
returns-then-not-branch c start n h fits =
    let w = (found_of (board_of start) c.win_all.new.enc c.win_all.new.board.slots.items _ c.win_all.result _ c.in_ok-notes.was (c.win_all.ensures start h.at n fits)).0 in
    let v = stayed_worked start c.win_all.new.enc c.covers_initial.new.enc c.win_all.new.board.slots.items (c.in_ok-covers_initial.ensures.left (board_of start) w.changed.ready.at (test_fits start (c.win_all.new.enc, c.win_all.new.board.slots.items) c.win_at.result (until_sets c.args.chain.now) c.win_at.ensures w.changed.ready fits.sets)) in
    let e = (c.in_ok-covers_initial.ensures.answer (board_of start) w.changed.ready.at
    ∙ ap (λ k. list_all (states_at (c.win_all.new.enc, c.win_all.new.board.slots.items) k) (sys_of start).initial) c.win_at.ensures
    ∙ covered_is start (c.win_all.new.enc, c.win_all.new.board.slots.items) (until_sets c.args.chain.now) w.won) in
    (v.ready.at, none_without_cover (sys_of start) (until_sets c.args.chain.now) (is_system start.task) (sym e ∙ (let f = c.if-not-branch.true in cc)))

pub take_all-requires-clause-ready : goal.take_all-requires-clause-ready
take_all-requires-clause-ready c =
    let start = c.requires.ready.0 in
    let n = c.requires.ready.1 in
    let h = c.requires.ready.2 in
    let fits = c.requires.ready.3 in
    let w = (found_of (board_of start) c.win_all.new.enc c.win_all.new.board.slots.items _ c.win_all.result _ c.in_ok-notes.was (c.win_all.ensures start h.at n fits)).0 in
    let v = stayed_worked start c.win_all.new.enc c.covers_initial.new.enc c.win_all.new.board.slots.items (c.in_ok-covers_initial.ensures.left (board_of start) w.changed.ready.at (test_fits start (c.win_all.new.enc, c.win_all.new.board.slots.items) c.win_at.result (until_sets c.args.chain.now) c.win_at.ensures w.changed.ready fits.sets)) in
    let e = (c.in_ok-covers_initial.ensures.answer (board_of start) w.changed.ready.at
    ∙ ap (λ k. list_all (states_at (c.win_all.new.enc, c.win_all.new.board.slots.items) k) (sys_of start).initial) c.win_at.ensures
    ∙ covered_is start (c.win_all.new.enc, c.win_all.new.board.slots.items) (until_sets c.args.chain.now) w.won) in
    let all : covers_until (sys_of start) (until_sets c.args.chain.now) ≡ true = sym e ∙ (let f = c.if-not-branch.false in cc) in
    (start, n, (subst (NotedStages start (until_sets c.args.chain.now) 0) (sym c.deref.ensures.value) (found_of (board_of start) c.win_all.new.enc c.win_all.new.board.slots.items _ c.win_all.result _ c.in_ok-notes.was (c.win_all.ensures start h.at n fits)).1), fits, (has_still start (c.win_all.new.enc, c.win_all.new.board.slots.items) (c.covers_initial.new.enc, c.win_all.new.board.slots.items) (until_sets c.args.chain.now) 0 (takers_none start (c.args.enc.now, c.args.board.now.slots.items) (c.win_all.new.enc, c.win_all.new.board.slots.items) (until_sets c.args.chain.now) fits.sets (blank start (c.args.enc.now, c.args.board.now.slots.items) h) (same_length start (c.args.enc.now, c.args.board.now.slots.items) (c.win_all.new.enc, c.win_all.new.board.slots.items) h.at w.changed.ready.at) w all) v))

pub take_all-requires-clause-chain : goal.take_all-requires-clause-chain
take_all-requires-clause-chain c =
    let start = c.requires.ready.0 in
    let n = c.requires.ready.1 in
    let h = c.requires.ready.2 in
    let fits = c.requires.ready.3 in
    let w = (found_of (board_of start) c.win_all.new.enc c.win_all.new.board.slots.items _ c.win_all.result _ c.in_ok-notes.was (c.win_all.ensures start h.at n fits)).0 in
    let v = stayed_worked start c.win_all.new.enc c.covers_initial.new.enc c.win_all.new.board.slots.items (c.in_ok-covers_initial.ensures.left (board_of start) w.changed.ready.at (test_fits start (c.win_all.new.enc, c.win_all.new.board.slots.items) c.win_at.result (until_sets c.args.chain.now) c.win_at.ensures w.changed.ready fits.sets)) in
    over_still start (c.args.enc.now, c.args.board.now.slots.items) (c.covers_initial.new.enc, c.win_all.new.board.slots.items) c.args.chain.now h.at v.ready.at c.requires.chain

pub take_all-requires-clause-actions : goal.take_all-requires-clause-actions
take_all-requires-clause-actions c =
    let start = c.requires.ready.0 in
    let n = c.requires.ready.1 in
    let h = c.requires.ready.2 in
    let fits = c.requires.ready.3 in
    let w = (found_of (board_of start) c.win_all.new.enc c.win_all.new.board.slots.items _ c.win_all.result _ c.in_ok-notes.was (c.win_all.ensures start h.at n fits)).0 in
    let v = stayed_worked start c.win_all.new.enc c.covers_initial.new.enc c.win_all.new.board.slots.items (c.in_ok-covers_initial.ensures.left (board_of start) w.changed.ready.at (test_fits start (c.win_all.new.enc, c.win_all.new.board.slots.items) c.win_at.result (until_sets c.args.chain.now) c.win_at.ensures w.changed.ready fits.sets)) in
    let e : length c.covers_initial.new.enc.actions ≡ length c.args.enc.now.actions = same_actions (board_of start) c.args.enc.now c.covers_initial.new.enc c.args.board.now.slots.items c.win_all.new.board.slots.items h.at v.ready.at in
    omega (arith, c.requires.actions)

pub returns-in_err-take_all : goal.returns-in_err-take_all
returns-in_err-take_all c start n h fits =
    let p = err_from_is_err_and c.from_residual-in_err-take_all.result c.from_residual-in_err-take_all.ensures.1 in
    let w = (found_of (board_of start) c.win_all.new.enc c.win_all.new.board.slots.items _ c.win_all.result _ c.in_ok-notes.was (c.win_all.ensures start h.at n fits)).0 in
    let v = stayed_worked start c.win_all.new.enc c.covers_initial.new.enc c.win_all.new.board.slots.items (c.in_ok-covers_initial.ensures.left (board_of start) w.changed.ready.at (test_fits start (c.win_all.new.enc, c.win_all.new.board.slots.items) c.win_at.result (until_sets c.args.chain.now) c.win_at.ensures w.changed.ready fits.sets)) in
    let e = (c.in_ok-covers_initial.ensures.answer (board_of start) w.changed.ready.at
    ∙ ap (λ k. list_all (states_at (c.win_all.new.enc, c.win_all.new.board.slots.items) k) (sys_of start).initial) c.win_at.ensures
    ∙ covered_is start (c.win_all.new.enc, c.win_all.new.board.slots.items) (until_sets c.args.chain.now) w.won) in
    let all : covers_until (sys_of start) (until_sets c.args.chain.now) ≡ true = sym e ∙ (let f = c.if-not-branch.false in cc) in
    ends_refused start (c.take_all.new.enc, c.take_all.new.board.slots.items) (until_sets c.args.chain.now) _ c.take_all.result c.from_residual-in_err-take_all.result _ c.in_err-take_all.was p (c.take_all.ensures start n (subst (NotedStages start (until_sets c.args.chain.now) 0) (sym c.deref.ensures.value) (found_of (board_of start) c.win_all.new.enc c.win_all.new.board.slots.items _ c.win_all.result _ c.in_ok-notes.was (c.win_all.ensures start h.at n fits)).1) fits (has_still start (c.win_all.new.enc, c.win_all.new.board.slots.items) (c.covers_initial.new.enc, c.win_all.new.board.slots.items) (until_sets c.args.chain.now) 0 (takers_none start (c.args.enc.now, c.args.board.now.slots.items) (c.win_all.new.enc, c.win_all.new.board.slots.items) (until_sets c.args.chain.now) fits.sets (blank start (c.args.enc.now, c.args.board.now.slots.items) h) (same_length start (c.args.enc.now, c.args.board.now.slots.items) (c.win_all.new.enc, c.win_all.new.board.slots.items) h.at w.changed.ready.at) w all) v))

pub returns : goal.returns
returns c start n h fits =
    let w = (found_of (board_of start) c.win_all.new.enc c.win_all.new.board.slots.items _ c.win_all.result _ c.in_ok-notes.was (c.win_all.ensures start h.at n fits)).0 in
    let v = stayed_worked start c.win_all.new.enc c.covers_initial.new.enc c.win_all.new.board.slots.items (c.in_ok-covers_initial.ensures.left (board_of start) w.changed.ready.at (test_fits start (c.win_all.new.enc, c.win_all.new.board.slots.items) c.win_at.result (until_sets c.args.chain.now) c.win_at.ensures w.changed.ready fits.sets)) in
    let e = (c.in_ok-covers_initial.ensures.answer (board_of start) w.changed.ready.at
    ∙ ap (λ k. list_all (states_at (c.win_all.new.enc, c.win_all.new.board.slots.items) k) (sys_of start).initial) c.win_at.ensures
    ∙ covered_is start (c.win_all.new.enc, c.win_all.new.board.slots.items) (until_sets c.args.chain.now) w.won) in
    let long = (stage_count c.args.chain.now start.stages n) in
    let all : covers_until (sys_of start) (until_sets c.args.chain.now) ≡ true = sym e ∙ (let f = c.if-not-branch.false in cc) in
    let t = went (board_of start) c.take_all.new.enc c.take_all.new.board.slots.items _ c.take_all.result _ c.in_ok-take_all.was (c.take_all.ensures start n (subst (NotedStages start (until_sets c.args.chain.now) 0) (sym c.deref.ensures.value) (found_of (board_of start) c.win_all.new.enc c.win_all.new.board.slots.items _ c.win_all.result _ c.in_ok-notes.was (c.win_all.ensures start h.at n fits)).1) fits (has_still start (c.win_all.new.enc, c.win_all.new.board.slots.items) (c.covers_initial.new.enc, c.win_all.new.board.slots.items) (until_sets c.args.chain.now) 0 (takers_none start (c.args.enc.now, c.args.board.now.slots.items) (c.win_all.new.enc, c.win_all.new.board.slots.items) (until_sets c.args.chain.now) fits.sets (blank start (c.args.enc.now, c.args.board.now.slots.items) h) (same_length start (c.args.enc.now, c.args.board.now.slots.items) (c.win_all.new.enc, c.win_all.new.board.slots.items) h.at w.changed.ready.at) w all) v)) in
    table_is start (c.take_all.new.enc, c.take_all.new.board.slots.items) (until_sets c.args.chain.now) start.stages long refl t all
