-- The states that the round leaves, and the test of the initial ones.
use Rattle.std.proofs.Common.{arith, sym, ◌∙◌}
use Rattle.std.proofs.lemmas.Bool.{not-true}
use Rattle.std.proofs.lemmas.Result.{err_from_is_err_and}
use Rattle.slot_board.proofs.BoardSlots.{passed}
use Rattle.context_plan.specs.Scenes.{board_of}
use Rattle.context_plan.proofs.VisitSteps.{round_loses, visit_low, visits_stayed, visits_test}
use Rattle.context_plan.proofs.visits.loses_initial.Goals as goal

pub covers_initial-requires-clause-working : goal.covers_initial-requires-clause-working
covers_initial-requires-clause-working c = let r = c.requires.ready in (board_of r.0, r.3.stay.ready.at)

pub covers_initial-requires-clause-place : goal.covers_initial-requires-clause-place
covers_initial-requires-clause-place c =
    let r = c.requires.ready in
    visit_low r.0 (c.args.enc.now, c.args.board.now.slots.items) r.3.stay.ready.at r.3.stay.some 10 (omega arith)

pub returns-in_err-held-clause-left : goal.returns-in_err-held-clause-left
returns-in_err-held-clause-left c start conds r h =
    passed (board_of start) c.covers_initial.new.enc c.args.board.now.slots.items _ _ c.covers_initial.result c.from_residual.result _ c.in_err-held.was (err_from_is_err_and c.from_residual.result c.from_residual.ensures.1)
    (c.covers_initial.ensures.left (board_of start) h.stay.ready.at (visits_test start conds (c.args.enc.now, c.args.board.now.slots.items) r h))

pub returns-clause-left : goal.returns-clause-left
returns-clause-left c start conds r h =
    visits_stayed start conds c.args.enc.now c.covers_initial.new.enc c.args.board.now.slots.items r h
    (c.in_ok-held.ensures.left (board_of start) h.stay.ready.at (visits_test start conds (c.args.enc.now, c.args.board.now.slots.items) r h))

pub returns-clause-lost : goal.returns-clause-lost
returns-clause-lost c start conds r h lost =
    round_loses start conds (c.args.enc.now, c.args.board.now.slots.items) r h
    (sym (c.in_ok-held.ensures.answer (board_of start) h.stay.ready.at) ∙ not-true c.in_ok-held.held lost)
