use Rattle.std.proofs.Common.{◌≡◌, arith, length, suc}
use Rattle.std.proofs.lemmas.Result.{err_from_is_err_and}
use Rattle.slot_board.proofs.BoardSlots.{same_actions, same_fluents, went}
use Rattle.slot_board.proofs.Endings.{found_of, passed_on}
use Rattle.context_plan.proofs.VisitNotes.{noted_made}
use Rattle.context_plan.specs.Scenes.{board_of}
use Rattle.context_plan.proofs.OverSteps.{visits_over}
use Rattle.context_plan.proofs.VisitSteps.{patrol_made, visit_low, visits_fewer}
use Rattle.context_plan.proofs.visits.find_left.Goals as goal

pub keep_first-requires-clause-ready : goal.keep_first-requires-clause-ready
keep_first-requires-clause-ready c =
    let start = c.requires.ready.0 in
    let count = c.requires.ready.1 in
    let h = c.requires.ready.2 in
    let fits = c.requires.ready.3 in
    (start, count, h, fits)

pub returns-in_err-notes : goal.returns-in_err-notes
returns-in_err-notes c start count h fits =
    passed_on (board_of start) c.keep_first.new.enc c.keep_first.new.board.slots.items _ _ c.keep_first.result c.from_residual.result _ c.in_err-notes.was (err_from_is_err_and c.from_residual.result c.from_residual.ensures.1) (c.keep_first.ensures start count h fits)

pub loop-means-init : goal.loop-means-init
loop-means-init c start count h fits =
    let first = found_of (board_of start) c.keep_first.new.enc c.keep_first.new.board.slots.items _ c.keep_first.result _ c.in_ok-notes.was (c.keep_first.ensures start count h fits) in (0, first.0, first.1)

pub is_same-requires-clause-working : goal.is_same-requires-clause-working
is_same-requires-clause-working c =
    let start = c.requires.ready.0 in
    let count = c.requires.ready.1 in
    let h = c.requires.ready.2 in
    let fits = c.requires.ready.3 in
    let inv = c.loop-means.invariant start count h fits in
    (board_of start, inv.1.stay.ready.at)

pub is_same-requires-clause-a : goal.is_same-requires-clause-a
is_same-requires-clause-a c =
    let start = c.requires.ready.0 in
    let count = c.requires.ready.1 in
    let h = c.requires.ready.2 in
    let fits = c.requires.ready.3 in
    let inv = c.loop-means.invariant start count h fits in
    visit_low start (c.loop-means.enc, c.loop-means.board.slots.items) inv.1.stay.ready.at inv.1.stay.some 10 (omega arith)

pub is_same-requires-clause-b : goal.is_same-requires-clause-b
is_same-requires-clause-b c =
    let start = c.requires.ready.0 in
    let count = c.requires.ready.1 in
    let h = c.requires.ready.2 in
    let fits = c.requires.ready.3 in
    let inv = c.loop-means.invariant start count h fits in
    visit_low start (c.loop-means.enc, c.loop-means.board.slots.items) inv.1.stay.ready.at inv.1.stay.some 8 (omega arith)

pub keep_more-requires-clause-ready : goal.keep_more-requires-clause-ready
keep_more-requires-clause-ready c =
    let start = c.requires.ready.0 in
    let count = c.requires.ready.1 in
    let h = c.requires.ready.2 in
    let fits = c.requires.ready.3 in
    let inv = c.loop-means.invariant start count h fits in
    let visits = went (board_of start) c.loses_initial.new.enc c.loop-means.board.slots.items _ c.loses_initial.result _ c.in_ok-lost.was (c.loses_initial.ensures.left start c.args.visits.now inv.0 inv.1) in
    (start, inv.0, visits)

pub keep_more-requires-clause-actions : goal.keep_more-requires-clause-actions
keep_more-requires-clause-actions c =
    let start = c.requires.ready.0 in
    let count = c.requires.ready.1 in
    let h = c.requires.ready.2 in
    let fits = c.requires.ready.3 in
    let inv = c.loop-means.invariant start count h fits in
    let visits = went (board_of start) c.loses_initial.new.enc c.loop-means.board.slots.items _ c.loses_initial.result _ c.in_ok-lost.was (c.loses_initial.ensures.left start c.args.visits.now inv.0 inv.1) in
    let e : length c.loses_initial.new.enc.actions ≡ length c.args.enc.now.actions = same_actions (board_of start) c.args.enc.now c.loses_initial.new.enc c.args.board.now.slots.items c.loop-means.board.slots.items h.at visits.stay.ready.at in omega (arith, c.requires.actions)

pub keep_more-requires-clause-visits : goal.keep_more-requires-clause-visits
keep_more-requires-clause-visits c =
    let start = c.requires.ready.0 in
    let count = c.requires.ready.1 in
    let h = c.requires.ready.2 in
    let fits = c.requires.ready.3 in
    let inv = c.loop-means.invariant start count h fits in
    let visits = went (board_of start) c.loses_initial.new.enc c.loop-means.board.slots.items _ c.loses_initial.result _ c.in_ok-lost.was (c.loses_initial.ensures.left start c.args.visits.now inv.0 inv.1) in
    visits_over start (c.args.enc.now, c.args.board.now.slots.items) (c.loses_initial.new.enc, c.loop-means.board.slots.items) c.args.visits.now h.at visits.stay.ready.at c.requires.visits

pub returns-in_err-notes-2 : goal.returns-in_err-notes-2
returns-in_err-notes-2 c start count h fits =
    let inv = c.loop-means.invariant start count h fits in
    let visits = went (board_of start) c.loses_initial.new.enc c.loop-means.board.slots.items _ c.loses_initial.result _ c.in_ok-lost.was (c.loses_initial.ensures.left start c.args.visits.now inv.0 inv.1) in
    passed_on (board_of start) c.keep_more.new.enc c.keep_more.new.board.slots.items _ _ c.keep_more.result c.from_residual-in_err-notes-2.result _ c.in_err-notes-2.was (err_from_is_err_and c.from_residual-in_err-notes-2.result c.from_residual-in_err-notes-2.ensures.1) (c.keep_more.ensures start inv.0 visits)

pub loop-means-smaller : goal.loop-means-smaller
loop-means-smaller c =
    let start = c.requires.ready.0 in
    let count = c.requires.ready.1 in
    let h = c.requires.ready.2 in
    let fits = c.requires.ready.3 in
    let inv = c.loop-means.invariant start count h fits in
    let visits = went (board_of start) c.loses_initial.new.enc c.loop-means.board.slots.items _ c.loses_initial.result _ c.in_ok-lost.was (c.loses_initial.ensures.left start c.args.visits.now inv.0 inv.1) in
    let more = found_of (board_of start) c.keep_more.new.enc c.keep_more.new.board.slots.items _ c.keep_more.result _ c.in_ok-notes-2.was (c.keep_more.ensures start inv.0 visits) in
    visits_fewer start c.args.visits.now (c.loop-means.enc, c.loop-means.board.slots.items) (c.keep_more.new.enc, c.keep_more.new.board.slots.items) inv.0 c.args.enc.now.fluents inv.1 more.0
    (λ same. let e = c.is_same.ensures.1 same in let f = c.loop-means-test.true in cc)
    (same_fluents (board_of start) c.args.enc.now c.args.board.now.slots.items h.at)

pub loop-means-preserved : goal.loop-means-preserved
loop-means-preserved c start count h fits =
    let inv = c.loop-means.invariant start count h fits in
    let visits = went (board_of start) c.loses_initial.new.enc c.loop-means.board.slots.items _ c.loses_initial.result _ c.in_ok-lost.was (c.loses_initial.ensures.left start c.args.visits.now inv.0 inv.1) in
    let more = found_of (board_of start) c.keep_more.new.enc c.keep_more.new.board.slots.items _ c.keep_more.result _ c.in_ok-notes-2.was (c.keep_more.ensures start inv.0 visits) in
    (suc inv.0, more.0, more.1)

pub returns : goal.returns
returns c start count h fits =
    let inv = c.loop-means.invariant start count h fits in
    let same = c.is_same.ensures.0 (let f = c.loop-means-test.false in cc) in (
      patrol_made start c.args.visits.now (c.loop-means.enc, c.loop-means.board.slots.items) inv.0 inv.1 same,
      noted_made start c.args.visits.now (c.loop-means.enc, c.loop-means.board.slots.items) inv.0 c.loop-means.notes.items inv.1 same inv.2,
    )

pub loses_initial-requires : goal.loses_initial-requires
loses_initial-requires c =
    let start = c.requires.ready.0 in
    let inv = c.loop-means.invariant start c.requires.ready.1 c.requires.ready.2 c.requires.ready.3 in
    record { ready = (start, c.args.visits.now, inv.0, inv.1) }

pub returns-in_err-lost : goal.returns-in_err-lost
returns-in_err-lost c start count h fits =
    let inv = c.loop-means.invariant start count h fits in
    passed_on (board_of start) c.loses_initial.new.enc c.loop-means.board.slots.items _ _ c.loses_initial.result c.from_residual-in_err-lost.result _ c.in_err-lost.was (err_from_is_err_and c.from_residual-in_err-lost.result c.from_residual-in_err-lost.ensures.1) (c.loses_initial.ensures.left start c.args.visits.now inv.0 inv.1)

pub returns-then-lost : goal.returns-then-lost
returns-then-lost c start count h fits =
    let inv = c.loop-means.invariant start count h fits in
    let visits = went (board_of start) c.loses_initial.new.enc c.loop-means.board.slots.items _ c.loses_initial.result _ c.in_ok-lost.was (c.loses_initial.ensures.left start c.args.visits.now inv.0 inv.1) in
    (visits.stay.ready.at, c.in_ok-lost.ensures.lost start c.args.visits.now inv.0 inv.1 c.if-lost.true)
