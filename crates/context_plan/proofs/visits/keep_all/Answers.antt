use Rattle.std.proofs.Common.{◌≡◌, ◌+◌, ◌<◌, arith, inl, inr, length, subst, suc}
use Rattle.std.proofs.lemmas.Result.{err_from_is_err_and}
use Rattle.slot_board.proofs.BoardSlots.{same_actions, went}
use Rattle.slot_board.proofs.Endings.{found_of, memory_passed, passed_on}
use Rattle.context_plan.specs.Noted.{NotedVisits}
use Rattle.context_plan.proofs.VisitNotes.{visits_noted_more, visits_noted_none}
use Rattle.context_plan.specs.Scenes.{board_of}
use Rattle.context_plan.specs.PatrolSteps.{HasVisits}
use Rattle.context_plan.proofs.OverSteps.{visit_over}
use Rattle.context_plan.proofs.SizeSteps.{placed_small}
use Rattle.context_plan.proofs.VisitSteps.{visit_low, visits_none}
use Rattle.context_plan.proofs.visits.keep_all.Goals as goal

pub find_stay-requires-clause-ready : goal.find_stay-requires-clause-ready
find_stay-requires-clause-ready c =
    let start = c.requires.ready.0 in
    let r = c.requires.ready.1 in
    let h = c.requires.ready.2 in
    (start, c.args.visits.now, r, h)

pub returns-in_err-find_stay : goal.returns-in_err-find_stay
returns-in_err-find_stay c start r h =
    passed_on (board_of start) c.find_stay.new.enc c.find_stay.new.board.slots.items _ _ c.find_stay.result c.from_residual.result _ c.in_err-find_stay.was (err_from_is_err_and c.from_residual.result c.from_residual.ensures.1) (c.find_stay.ensures start c.args.visits.now r h)

pub copy_of-requires-clause-working : goal.copy_of-requires-clause-working
copy_of-requires-clause-working c =
    let start = c.requires.ready.0 in
    let r = c.requires.ready.1 in
    let h = c.requires.ready.2 in
    let s = went (board_of start) c.find_stay.new.enc c.find_stay.new.board.slots.items _ c.find_stay.result _ c.in_ok-find_stay.was (c.find_stay.ensures start c.args.visits.now r h) in
    (board_of start, s.ready.at)

pub copy_of-requires-clause-place : goal.copy_of-requires-clause-place
copy_of-requires-clause-place c =
    let start = c.requires.ready.0 in
    let r = c.requires.ready.1 in
    let h = c.requires.ready.2 in
    let s = went (board_of start) c.find_stay.new.enc c.find_stay.new.board.slots.items _ c.find_stay.result _ c.in_ok-find_stay.was (c.find_stay.ensures start c.args.visits.now r h) in
    visit_low start (c.find_stay.new.enc, c.find_stay.new.board.slots.items) s.ready.at s.some 10 (omega arith)

pub copy_of-requires-clause-from : goal.copy_of-requires-clause-from
copy_of-requires-clause-from c =
    let start = c.requires.ready.0 in
    let r = c.requires.ready.1 in
    let h = c.requires.ready.2 in
    let s = went (board_of start) c.find_stay.new.enc c.find_stay.new.board.slots.items _ c.find_stay.result _ c.in_ok-find_stay.was (c.find_stay.ensures start c.args.visits.now r h) in
    visit_low start (c.find_stay.new.enc, c.find_stay.new.board.slots.items) s.ready.at s.some 8 (omega arith)

pub returns-in_err-copy_of : goal.returns-in_err-copy_of
returns-in_err-copy_of c start r h =
    let s = went (board_of start) c.find_stay.new.enc c.find_stay.new.board.slots.items _ c.find_stay.result _ c.in_ok-find_stay.was (c.find_stay.ensures start c.args.visits.now r h) in
    let small = placed_small start (c.find_stay.new.enc, c.find_stay.new.board.slots.items) s.ready.at 8 (visit_low start (c.find_stay.new.enc, c.find_stay.new.board.slots.items) s.ready.at s.some 8 (omega arith)) (inr (omega arith)) in
    passed_on (board_of start) c.copy_of.new.enc c.copy_of.new.self.slots.items _ _ c.copy_of.result c.from_residual-in_err-copy_of.result _ c.in_err-copy_of.was (err_from_is_err_and c.from_residual-in_err-copy_of.result c.from_residual-in_err-copy_of.ensures.1) (c.copy_of.ensures (board_of start) s.ready.at (inl small))

pub loop-i-init : goal.loop-i-init
loop-i-init c start r h =
    let s = went (board_of start) c.find_stay.new.enc c.find_stay.new.board.slots.items _ c.find_stay.result _ c.in_ok-find_stay.was (c.find_stay.ensures start c.args.visits.now r h) in
    let small = placed_small start (c.find_stay.new.enc, c.find_stay.new.board.slots.items) s.ready.at 8 (visit_low start (c.find_stay.new.enc, c.find_stay.new.board.slots.items) s.ready.at s.some 8 (omega arith)) (inr (omega arith)) in
    let k = went (board_of start) c.copy_of.new.enc c.copy_of.new.self.slots.items _ c.copy_of.result _ c.in_ok-copy_of.was (c.copy_of.ensures (board_of start) s.ready.at (inl small)) in
    (visits_none start c.args.visits.now (c.find_stay.new.enc, c.find_stay.new.board.slots.items) (c.copy_of.new.enc, c.copy_of.new.self.slots.items) r s k, visits_noted_none start c.args.visits.now r c.new-notes.result.items c.new-notes.ensures.items)

pub keep_visit-requires-clause-ready : goal.keep_visit-requires-clause-ready
keep_visit-requires-clause-ready c =
    let start = c.requires.ready.0 in
    let r = c.requires.ready.1 in
    let h = c.requires.ready.2 in
    let inv = (c.loop-i.invariant start r h).0 in
    let less = (let l : c.loop-i.i < length c.args.visits.now = omega (arith, c.requires.visits.few) in l) in
    (start, c.args.visits.now, r, c.loop-i.i, c.visit_at.ensures, less, c.index-visits-i.is, inv)

pub keep_visit-requires-clause-actions : goal.keep_visit-requires-clause-actions
keep_visit-requires-clause-actions c =
    let start = c.requires.ready.0 in
    let r = c.requires.ready.1 in
    let h = c.requires.ready.2 in
    let inv = (c.loop-i.invariant start r h).0 in
    let e : length c.loop-i.enc.actions ≡ length c.args.enc.now.actions = same_actions (board_of start) c.args.enc.now c.loop-i.enc c.args.board.now.slots.items c.loop-i.board.slots.items h.ready.at inv.stay.ready.at in omega (arith, c.requires.actions)

pub keep_visit-requires-clause-visit : goal.keep_visit-requires-clause-visit
keep_visit-requires-clause-visit c =
    let start = c.requires.ready.0 in
    let r = c.requires.ready.1 in
    let h = c.requires.ready.2 in
    let inv = (c.loop-i.invariant start r h).0 in
    let less = (let l : c.loop-i.i < length c.args.visits.now = omega (arith, c.requires.visits.few) in l) in
    visit_over start (c.args.enc.now, c.args.board.now.slots.items) (c.loop-i.enc, c.loop-i.board.slots.items) c.args.visits.now c.index-visits-i.result c.loop-i.i less c.index-visits-i.is h.ready.at inv.stay.ready.at c.requires.visits

pub returns-in_err-steps : goal.returns-in_err-steps
returns-in_err-steps c start r h =
    let inv = (c.loop-i.invariant start r h).0 in
    let less = (let l : c.loop-i.i < length c.args.visits.now = omega (arith, c.requires.visits.few) in l) in
    passed_on (board_of start) c.keep_visit.new.enc c.keep_visit.new.board.slots.items _ _ c.keep_visit.result c.from_residual-in_err-steps.result _ c.in_err-steps.was (err_from_is_err_and c.from_residual-in_err-steps.result c.from_residual-in_err-steps.ensures.1) (c.keep_visit.ensures start c.args.visits.now r c.loop-i.i c.visit_at.ensures less c.index-visits-i.is inv)

pub loop-i-preserved : goal.loop-i-preserved
loop-i-preserved c start r h =
    let inv = (c.loop-i.invariant start r h).0 in
    let less = (let l : c.loop-i.i < length c.args.visits.now = omega (arith, c.requires.visits.few) in l) in
    let kept = found_of (board_of start) c.keep_visit.new.enc c.keep_visit.new.board.slots.items _ c.keep_visit.result _ c.in_ok-steps.was (c.keep_visit.ensures start c.args.visits.now r c.loop-i.i c.visit_at.ensures less c.index-visits-i.is inv) in (
      subst (HasVisits start c.args.visits.now (c.keep_visit.new.enc, c.keep_visit.new.board.slots.items) r) (let e : suc c.loop-i.i ≡ c.loop-i.i + 1 = omega arith in e) kept.0,
      visits_noted_more start c.args.visits.now r c.loop-i.i c.loop-i.notes.items c.keep_steps.new.notes.items c.in_ok-steps.steps (c.loop-i.invariant start r h).1 c.in_ok-keep_steps.ensures.kept kept.1,
    )

pub returns-in_err-keep_steps : goal.returns-in_err-keep_steps
returns-in_err-keep_steps c start r h =
    let inv = (c.loop-i.invariant start r h).0 in
    let less = (let l : c.loop-i.i < length c.args.visits.now = omega (arith, c.requires.visits.few) in l) in
    let kept = found_of (board_of start) c.keep_visit.new.enc c.keep_visit.new.board.slots.items _ c.keep_visit.result _ c.in_ok-steps.was (c.keep_visit.ensures start c.args.visits.now r c.loop-i.i c.visit_at.ensures less c.index-visits-i.is inv) in
    memory_passed (board_of start) c.keep_visit.new.enc c.keep_visit.new.board.slots.items _ c.keep_steps.result c.from_residual-in_err-keep_steps.result _ c.in_err-keep_steps.was (err_from_is_err_and c.from_residual-in_err-keep_steps.result c.from_residual-in_err-keep_steps.ensures.1) c.keep_steps.ensures.never_full kept.0.stay.ready.at

pub returns : goal.returns
returns c start r h =
    let e : c.loop-i.i ≡ length c.args.visits.now = omega (arith, c.requires.visits.few) in (
      subst (HasVisits start c.args.visits.now (c.loop-i.enc, c.loop-i.board.slots.items) r) e (c.loop-i.invariant start r h).0,
      subst (λ n. NotedVisits start c.args.visits.now r n c.loop-i.notes.items) e (c.loop-i.invariant start r h).1,
    )
