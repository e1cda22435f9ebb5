use Rattle.std.proofs.Common.{◌≡◌, ◌∙◌, Ok, ap, arith, length, subst, sym}
use Rattle.std.proofs.lemmas.Result.{err_from_is_err_and}
use Rattle.slot_board.proofs.BoardSlots.{same_actions, went}
use Rattle.plan_theory.proofs.NoPatrol.{none_without_cover}
use Rattle.task_core.proofs.TaskSystem.{is_system}
use Rattle.context_plan.proofs.VisitNotes.{notes_found, notes_lost}
use Rattle.context_plan.specs.Noted.{NotedLast}
use Rattle.context_plan.specs.Chains.{visit_sets}
use Rattle.context_plan.specs.Scenes.{board_of, sys_of}
use Rattle.context_plan.proofs.PatrolPlan.{patrol_covered, patrol_ends_lost, patrol_ends_refused, patrol_stayed, patrol_test}
use Rattle.context_plan.proofs.VisitSteps.{visit_low}
use Rattle.context_plan.proofs.patrol.search_visits.Goals as goal

pub find_left-requires-clause-ready : goal.find_left-requires-clause-ready
find_left-requires-clause-ready c =
    let start = c.requires.ready.0 in
    let count = c.requires.ready.1 in
    let h = c.requires.ready.2 in
    let fits = c.requires.ready.3 in
    (start, count, h, fits)

pub covers_initial-requires-clause-working : goal.covers_initial-requires-clause-working
covers_initial-requires-clause-working c =
    let start = c.requires.ready.0 in
    let count = c.requires.ready.1 in
    let h = c.requires.ready.2 in
    let fits = c.requires.ready.3 in
    let found = notes_found start c.args.visits.now (c.find_left.new.enc, c.find_left.new.board.slots.items) c.find_left.result c.in-Some.notes (c.in_ok-notes.was ∙ ap Ok c.in-Some.is) (c.find_left.ensures start count h fits) in
    let p = found.0 in
    (board_of start, p.ready.at)

pub covers_initial-requires-clause-place : goal.covers_initial-requires-clause-place
covers_initial-requires-clause-place c =
    let start = c.requires.ready.0 in
    let count = c.requires.ready.1 in
    let h = c.requires.ready.2 in
    let fits = c.requires.ready.3 in
    let found = notes_found start c.args.visits.now (c.find_left.new.enc, c.find_left.new.board.slots.items) c.find_left.result c.in-Some.notes (c.in_ok-notes.was ∙ ap Ok c.in-Some.is) (c.find_left.ensures start count h fits) in
    let p = found.0 in
    visit_low start (c.find_left.new.enc, c.find_left.new.board.slots.items) p.ready.at p.some 8 (omega arith)

pub returns-in_err-covers_initial : goal.returns-in_err-covers_initial
returns-in_err-covers_initial c start count h fits =
    let found = notes_found start c.args.visits.now (c.find_left.new.enc, c.find_left.new.board.slots.items) c.find_left.result c.in-Some.notes (c.in_ok-notes.was ∙ ap Ok c.in-Some.is) (c.find_left.ensures start count h fits) in
    let p = found.0 in
    let test = patrol_test start c.args.visits.now (c.find_left.new.enc, c.find_left.new.board.slots.items) p in
    patrol_ends_refused start (c.covers_initial.new.enc, c.find_left.new.board.slots.items) (visit_sets c.args.visits.now) _ c.covers_initial.result c.from_residual-in_err-covers_initial.result _ c.in_err-covers_initial.was (err_from_is_err_and c.from_residual-in_err-covers_initial.result c.from_residual-in_err-covers_initial.ensures.1) (c.covers_initial.ensures.left (board_of start) p.ready.at test)

pub returns-then-not-branch : goal.returns-then-not-branch
returns-then-not-branch c start count h fits =
    let found = notes_found start c.args.visits.now (c.find_left.new.enc, c.find_left.new.board.slots.items) c.find_left.result c.in-Some.notes (c.in_ok-notes.was ∙ ap Ok c.in-Some.is) (c.find_left.ensures start count h fits) in
    let p = found.0 in
    let test = patrol_test start c.args.visits.now (c.find_left.new.enc, c.find_left.new.board.slots.items) p in
    let stayed = c.in_ok-covers_initial.ensures.left (board_of start) p.ready.at test in
    let after = patrol_stayed start c.args.visits.now c.find_left.new.enc c.covers_initial.new.enc c.find_left.new.board.slots.items 0 p stayed in
    let answer = c.in_ok-covers_initial.ensures.answer (board_of start) p.ready.at ∙ patrol_covered start c.args.visits.now (c.find_left.new.enc, c.find_left.new.board.slots.items) p in
    (after.ready.at, none_without_cover (sys_of start) (visit_sets c.args.visits.now) (is_system start.task) (sym answer ∙ (let f = c.if-not-branch.true in cc)))

pub write_visits-requires-clause-ready : goal.write_visits-requires-clause-ready
write_visits-requires-clause-ready c =
    let start = c.requires.ready.0 in
    let count = c.requires.ready.1 in
    let h = c.requires.ready.2 in
    let fits = c.requires.ready.3 in
    let found = notes_found start c.args.visits.now (c.find_left.new.enc, c.find_left.new.board.slots.items) c.find_left.result c.in-Some.notes (c.in_ok-notes.was ∙ ap Ok c.in-Some.is) (c.find_left.ensures start count h fits) in
    let p = found.0 in
    let test = patrol_test start c.args.visits.now (c.find_left.new.enc, c.find_left.new.board.slots.items) p in
    let stayed = c.in_ok-covers_initial.ensures.left (board_of start) p.ready.at test in
    let after = patrol_stayed start c.args.visits.now c.find_left.new.enc c.covers_initial.new.enc c.find_left.new.board.slots.items 0 p stayed in
    let answer = c.in_ok-covers_initial.ensures.answer (board_of start) p.ready.at ∙ patrol_covered start c.args.visits.now (c.find_left.new.enc, c.find_left.new.board.slots.items) p in
    let all = sym answer ∙ (let f = c.if-not-branch.false in cc) in
    (start, c.args.visits.now, (let e : start.stages ≡ c.count_of-count.result = count ∙ sym c.count_of-count.ensures in e), after, all, (subst (NotedLast start c.args.visits.now) (sym c.deref.ensures.value) found.1))

pub write_visits-requires-clause-actions : goal.write_visits-requires-clause-actions
write_visits-requires-clause-actions c =
    let start = c.requires.ready.0 in
    let count = c.requires.ready.1 in
    let h = c.requires.ready.2 in
    let fits = c.requires.ready.3 in
    let found = notes_found start c.args.visits.now (c.find_left.new.enc, c.find_left.new.board.slots.items) c.find_left.result c.in-Some.notes (c.in_ok-notes.was ∙ ap Ok c.in-Some.is) (c.find_left.ensures start count h fits) in
    let p = found.0 in
    let test = patrol_test start c.args.visits.now (c.find_left.new.enc, c.find_left.new.board.slots.items) p in
    let stayed = c.in_ok-covers_initial.ensures.left (board_of start) p.ready.at test in
    let after = patrol_stayed start c.args.visits.now c.find_left.new.enc c.covers_initial.new.enc c.find_left.new.board.slots.items 0 p stayed in
    let e : length c.covers_initial.new.enc.actions ≡ length c.args.enc.now.actions = same_actions (board_of start) c.args.enc.now c.covers_initial.new.enc c.args.board.now.slots.items c.find_left.new.board.slots.items h.at after.ready.at in omega (arith, c.requires.actions)

pub returns-in_err-plan : goal.returns-in_err-plan
returns-in_err-plan c start count h fits =
    let found = notes_found start c.args.visits.now (c.find_left.new.enc, c.find_left.new.board.slots.items) c.find_left.result c.in-Some.notes (c.in_ok-notes.was ∙ ap Ok c.in-Some.is) (c.find_left.ensures start count h fits) in
    let p = found.0 in
    let test = patrol_test start c.args.visits.now (c.find_left.new.enc, c.find_left.new.board.slots.items) p in
    let stayed = c.in_ok-covers_initial.ensures.left (board_of start) p.ready.at test in
    let after = patrol_stayed start c.args.visits.now c.find_left.new.enc c.covers_initial.new.enc c.find_left.new.board.slots.items 0 p stayed in
    let answer = c.in_ok-covers_initial.ensures.answer (board_of start) p.ready.at ∙ patrol_covered start c.args.visits.now (c.find_left.new.enc, c.find_left.new.board.slots.items) p in
    let all = sym answer ∙ (let f = c.if-not-branch.false in cc) in
    patrol_ends_refused start (c.write_visits.new.enc, c.write_visits.new.board.slots.items) (visit_sets c.args.visits.now) _ c.write_visits.result c.from_residual-in_err-plan.result _ c.in_err-plan.was (err_from_is_err_and c.from_residual-in_err-plan.result c.from_residual-in_err-plan.ensures.1) (c.write_visits.ensures.left start c.args.visits.now (let e : start.stages ≡ c.count_of-count.result = count ∙ sym c.count_of-count.ensures in e) after all (subst (NotedLast start c.args.visits.now) (sym c.deref.ensures.value) found.1))

pub returns : goal.returns
returns c start count h fits =
    let found = notes_found start c.args.visits.now (c.find_left.new.enc, c.find_left.new.board.slots.items) c.find_left.result c.in-Some.notes (c.in_ok-notes.was ∙ ap Ok c.in-Some.is) (c.find_left.ensures start count h fits) in
    let p = found.0 in
    let test = patrol_test start c.args.visits.now (c.find_left.new.enc, c.find_left.new.board.slots.items) p in
    let stayed = c.in_ok-covers_initial.ensures.left (board_of start) p.ready.at test in
    let after = patrol_stayed start c.args.visits.now c.find_left.new.enc c.covers_initial.new.enc c.find_left.new.board.slots.items 0 p stayed in
    let answer = c.in_ok-covers_initial.ensures.answer (board_of start) p.ready.at ∙ patrol_covered start c.args.visits.now (c.find_left.new.enc, c.find_left.new.board.slots.items) p in
    let all = sym answer ∙ (let f = c.if-not-branch.false in cc) in
    (went (board_of start) c.write_visits.new.enc c.write_visits.new.board.slots.items _ c.write_visits.result _ c.in_ok-plan.was (c.write_visits.ensures.left start c.args.visits.now (let e : start.stages ≡ c.count_of-count.result = count ∙ sym c.count_of-count.ensures in e) after all (subst (NotedLast start c.args.visits.now) (sym c.deref.ensures.value) found.1)), c.in_ok-plan.ensures.plan start c.args.visits.now (let e : start.stages ≡ c.count_of-count.result = count ∙ sym c.count_of-count.ensures in e) after all (subst (NotedLast start c.args.visits.now) (sym c.deref.ensures.value) found.1))

pub returns-in_default : goal.returns-in_default
returns-in_default c start count h fits =
    let lost = notes_lost start c.args.visits.now (c.find_left.new.enc, c.find_left.new.board.slots.items) c.find_left.result (c.in_ok-notes.was ∙ ap Ok c.in_default.is) (c.find_left.ensures start count h fits) in
    (lost.0, none_without_cover (sys_of start) (visit_sets c.args.visits.now) (is_system start.task) lost.1)

pub returns-in_err-notes : goal.returns-in_err-notes
returns-in_err-notes c start count h fits =
    patrol_ends_lost start (c.find_left.new.enc, c.find_left.new.board.slots.items) (visit_sets c.args.visits.now) _ c.find_left.result c.from_residual.result _ c.in_err-notes.was (err_from_is_err_and c.from_residual.result c.from_residual.ensures.1) (c.find_left.ensures start count h fits)
