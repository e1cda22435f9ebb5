use Rattle.std.proofs.Common.{◌≡◌, arith, length, subst, sym}
use Rattle.std.proofs.lemmas.Result.{err_from_is_err_and}
use Rattle.slot_board.proofs.BoardSlots.{same_actions, went}
use Rattle.slot_board.proofs.Endings.{found_of, passed_on}
use Rattle.context_plan.proofs.VisitNotes.{visit_steps}
use Rattle.context_plan.specs.PatrolSizes.{within_round}
use Rattle.context_plan.specs.PatrolSteps.{visit_place}
use Rattle.context_plan.specs.Scenes.{board_of, states_at}
use Rattle.context_plan.specs.Sizes.{TurnsFit}
use Rattle.context_plan.specs.Steps.{HasLast}
use Rattle.context_plan.specs.declared.rounds.Way.TheVariants.{Growing}
use Rattle.context_plan.proofs.VisitSteps.{kept_fits, met_turns, visit_low, visits_more}
use Rattle.context_plan.proofs.visits.keep_visit.Goals as goal

pub meet_visit-requires-clause-ready : goal.meet_visit-requires-clause-ready
meet_visit-requires-clause-ready c =
    let start = c.requires.ready.0 in
    let conds = c.requires.ready.1 in
    let r = c.requires.ready.2 in
    let i = c.requires.ready.3 in
    let place = c.requires.ready.4 in
    let less = c.requires.ready.5 in
    let is_visit = c.requires.ready.6 in
    let h = c.requires.ready.7 in
    (start, conds, r, i, place, less, is_visit, h)

pub returns-in_err-meet_visit : goal.returns-in_err-meet_visit
returns-in_err-meet_visit c start conds r i place less is_visit h =
    passed_on (board_of start) c.meet_visit.new.enc c.meet_visit.new.board.slots.items _ _ c.meet_visit.result c.from_residual.result _ c.in_err-meet_visit.was (err_from_is_err_and c.from_residual.result c.from_residual.ensures.1) (c.meet_visit.ensures start conds r i place less is_visit h)

pub turn_all-requires-clause-ready : goal.turn_all-requires-clause-ready
turn_all-requires-clause-ready c =
    let start = c.requires.ready.0 in
    let conds = c.requires.ready.1 in
    let r = c.requires.ready.2 in
    let i = c.requires.ready.3 in
    let place = c.requires.ready.4 in
    let less = c.requires.ready.5 in
    let is_visit = c.requires.ready.6 in
    let h = c.requires.ready.7 in
    let m = went (board_of start) c.meet_visit.new.enc c.meet_visit.new.board.slots.items _ c.meet_visit.result _ c.in_ok-meet_visit.was (c.meet_visit.ensures start conds r i place less is_visit h) in
    let at = m.visits.stay.ready in
    let turns = subst (λ k. TurnsFit Growing (within_round start conds r) (states_at (c.meet_visit.new.enc, c.meet_visit.new.board.slots.items) k)) (sym place) (met_turns start conds (c.meet_visit.new.enc, c.meet_visit.new.board.slots.items) r i less m) in
    ((within_round start conds r), at, turns)

pub turn_all-requires-clause-actions : goal.turn_all-requires-clause-actions
turn_all-requires-clause-actions c =
    let start = c.requires.ready.0 in
    let conds = c.requires.ready.1 in
    let r = c.requires.ready.2 in
    let i = c.requires.ready.3 in
    let place = c.requires.ready.4 in
    let less = c.requires.ready.5 in
    let is_visit = c.requires.ready.6 in
    let h = c.requires.ready.7 in
    let m = went (board_of start) c.meet_visit.new.enc c.meet_visit.new.board.slots.items _ c.meet_visit.result _ c.in_ok-meet_visit.was (c.meet_visit.ensures start conds r i place less is_visit h) in
    let e : length c.meet_visit.new.enc.actions ≡ length c.args.enc.now.actions = same_actions (board_of start) c.args.enc.now c.meet_visit.new.enc c.args.board.now.slots.items c.meet_visit.new.board.slots.items h.stay.ready.at m.visits.stay.ready.at in omega (arith, c.requires.actions)

pub turn_all-requires-clause-place : goal.turn_all-requires-clause-place
turn_all-requires-clause-place c =
    let start = c.requires.ready.0 in
    let conds = c.requires.ready.1 in
    let r = c.requires.ready.2 in
    let i = c.requires.ready.3 in
    let place = c.requires.ready.4 in
    let less = c.requires.ready.5 in
    let is_visit = c.requires.ready.6 in
    let h = c.requires.ready.7 in
    let m = went (board_of start) c.meet_visit.new.enc c.meet_visit.new.board.slots.items _ c.meet_visit.result _ c.in_ok-meet_visit.was (c.meet_visit.ensures start conds r i place less is_visit h) in
    let w = visit_low start (c.meet_visit.new.enc, c.meet_visit.new.board.slots.items) m.visits.stay.ready.at m.visits.stay.some (visit_place i) (let e = m.visits.stay.count in omega arith) in omega (arith, place)

pub returns-in_err-steps : goal.returns-in_err-steps
returns-in_err-steps c start conds r i place less is_visit h =
    let m = went (board_of start) c.meet_visit.new.enc c.meet_visit.new.board.slots.items _ c.meet_visit.result _ c.in_ok-meet_visit.was (c.meet_visit.ensures start conds r i place less is_visit h) in
    let at = m.visits.stay.ready in
    let turns = subst (λ k. TurnsFit Growing (within_round start conds r) (states_at (c.meet_visit.new.enc, c.meet_visit.new.board.slots.items) k)) (sym place) (met_turns start conds (c.meet_visit.new.enc, c.meet_visit.new.board.slots.items) r i less m) in
    passed_on (board_of start) c.turn_all.new.enc c.turn_all.new.board.slots.items _ _ c.turn_all.result c.from_residual-in_err-steps.result _ c.in_err-steps.was (err_from_is_err_and c.from_residual-in_err-steps.result c.from_residual-in_err-steps.ensures.1) (c.turn_all.ensures (within_round start conds r) at turns)

pub combine-requires-clause-working : goal.combine-requires-clause-working
combine-requires-clause-working c =
    let start = c.requires.ready.0 in
    let conds = c.requires.ready.1 in
    let r = c.requires.ready.2 in
    let i = c.requires.ready.3 in
    let place = c.requires.ready.4 in
    let less = c.requires.ready.5 in
    let is_visit = c.requires.ready.6 in
    let h = c.requires.ready.7 in
    let m = went (board_of start) c.meet_visit.new.enc c.meet_visit.new.board.slots.items _ c.meet_visit.result _ c.in_ok-meet_visit.was (c.meet_visit.ensures start conds r i place less is_visit h) in
    let at = m.visits.stay.ready in
    let turns = subst (λ k. TurnsFit Growing (within_round start conds r) (states_at (c.meet_visit.new.enc, c.meet_visit.new.board.slots.items) k)) (sym place) (met_turns start conds (c.meet_visit.new.enc, c.meet_visit.new.board.slots.items) r i less m) in
    let t = found_of (board_of start) c.turn_all.new.enc c.turn_all.new.board.slots.items _ c.turn_all.result _ c.in_ok-steps.was (c.turn_all.ensures (within_round start conds r) at turns) in
    (board_of start, t.0.worked.ready.at)

pub combine-requires-clause-place : goal.combine-requires-clause-place
combine-requires-clause-place c =
    let start = c.requires.ready.0 in
    let conds = c.requires.ready.1 in
    let r = c.requires.ready.2 in
    let i = c.requires.ready.3 in
    let place = c.requires.ready.4 in
    let less = c.requires.ready.5 in
    let is_visit = c.requires.ready.6 in
    let h = c.requires.ready.7 in
    let m = went (board_of start) c.meet_visit.new.enc c.meet_visit.new.board.slots.items _ c.meet_visit.result _ c.in_ok-meet_visit.was (c.meet_visit.ensures start conds r i place less is_visit h) in
    let at = m.visits.stay.ready in
    let turns = subst (λ k. TurnsFit Growing (within_round start conds r) (states_at (c.meet_visit.new.enc, c.meet_visit.new.board.slots.items) k)) (sym place) (met_turns start conds (c.meet_visit.new.enc, c.meet_visit.new.board.slots.items) r i less m) in
    let t = found_of (board_of start) c.turn_all.new.enc c.turn_all.new.board.slots.items _ c.turn_all.result _ c.in_ok-steps.was (c.turn_all.ensures (within_round start conds r) at turns) in
    visit_low start (c.turn_all.new.enc, c.turn_all.new.board.slots.items) t.0.worked.ready.at h.stay.some 10 (omega arith)

pub combine-requires-clause-a : goal.combine-requires-clause-a
combine-requires-clause-a c =
    let start = c.requires.ready.0 in
    let conds = c.requires.ready.1 in
    let r = c.requires.ready.2 in
    let i = c.requires.ready.3 in
    let place = c.requires.ready.4 in
    let less = c.requires.ready.5 in
    let is_visit = c.requires.ready.6 in
    let h = c.requires.ready.7 in
    let m = went (board_of start) c.meet_visit.new.enc c.meet_visit.new.board.slots.items _ c.meet_visit.result _ c.in_ok-meet_visit.was (c.meet_visit.ensures start conds r i place less is_visit h) in
    let at = m.visits.stay.ready in
    let turns = subst (λ k. TurnsFit Growing (within_round start conds r) (states_at (c.meet_visit.new.enc, c.meet_visit.new.board.slots.items) k)) (sym place) (met_turns start conds (c.meet_visit.new.enc, c.meet_visit.new.board.slots.items) r i less m) in
    let t = found_of (board_of start) c.turn_all.new.enc c.turn_all.new.board.slots.items _ c.turn_all.result _ c.in_ok-steps.was (c.turn_all.ensures (within_round start conds r) at turns) in
    visit_low start (c.turn_all.new.enc, c.turn_all.new.board.slots.items) t.0.worked.ready.at h.stay.some 10 (omega arith)

pub combine-requires-clause-b : goal.combine-requires-clause-b
combine-requires-clause-b c =
    let start = c.requires.ready.0 in
    let conds = c.requires.ready.1 in
    let r = c.requires.ready.2 in
    let i = c.requires.ready.3 in
    let place = c.requires.ready.4 in
    let less = c.requires.ready.5 in
    let is_visit = c.requires.ready.6 in
    let h = c.requires.ready.7 in
    let m = went (board_of start) c.meet_visit.new.enc c.meet_visit.new.board.slots.items _ c.meet_visit.result _ c.in_ok-meet_visit.was (c.meet_visit.ensures start conds r i place less is_visit h) in
    let at = m.visits.stay.ready in
    let turns = subst (λ k. TurnsFit Growing (within_round start conds r) (states_at (c.meet_visit.new.enc, c.meet_visit.new.board.slots.items) k)) (sym place) (met_turns start conds (c.meet_visit.new.enc, c.meet_visit.new.board.slots.items) r i less m) in
    let t = found_of (board_of start) c.turn_all.new.enc c.turn_all.new.board.slots.items _ c.turn_all.result _ c.in_ok-steps.was (c.turn_all.ensures (within_round start conds r) at turns) in
    visit_low start (c.turn_all.new.enc, c.turn_all.new.board.slots.items) t.0.worked.ready.at h.stay.some 0 (omega arith)

pub returns : goal.returns
returns c start conds r i place less is_visit h =
    let m = went (board_of start) c.meet_visit.new.enc c.meet_visit.new.board.slots.items _ c.meet_visit.result _ c.in_ok-meet_visit.was (c.meet_visit.ensures start conds r i place less is_visit h) in
    let at = m.visits.stay.ready in
    let turns = subst (λ k. TurnsFit Growing (within_round start conds r) (states_at (c.meet_visit.new.enc, c.meet_visit.new.board.slots.items) k)) (sym place) (met_turns start conds (c.meet_visit.new.enc, c.meet_visit.new.board.slots.items) r i less m) in
    let t = found_of (board_of start) c.turn_all.new.enc c.turn_all.new.board.slots.items _ c.turn_all.result _ c.in_ok-steps.was (c.turn_all.ensures (within_round start conds r) at turns) in
    let last = subst (λ k. HasLast Growing (within_round start conds r) (c.meet_visit.new.enc, c.meet_visit.new.board.slots.items) (c.turn_all.new.enc, c.turn_all.new.board.slots.items) (states_at (c.meet_visit.new.enc, c.meet_visit.new.board.slots.items) k)) place t.0 in
    let z = went (board_of start) c.combine.new.enc c.combine.new.self.slots.items _ c.combine.result _ c.in_ok-combine.was (c.combine.ensures (board_of start) t.0.worked.ready.at (kept_fits start conds (c.meet_visit.new.enc, c.meet_visit.new.board.slots.items) (c.turn_all.new.enc, c.turn_all.new.board.slots.items) r i less m last)) in (
      visits_more start conds (c.meet_visit.new.enc, c.meet_visit.new.board.slots.items) (c.turn_all.new.enc, c.turn_all.new.board.slots.items) r i less m last (c.combine.new.enc, c.combine.new.self.slots.items) z,
      visit_steps start conds (c.meet_visit.new.enc, c.meet_visit.new.board.slots.items) r i c.args.place c.in_ok-steps.steps.items place m.met t.1,
    )

pub returns-in_err-combine : goal.returns-in_err-combine
returns-in_err-combine c start conds r i place less is_visit h =
    let m = went (board_of start) c.meet_visit.new.enc c.meet_visit.new.board.slots.items _ c.meet_visit.result _ c.in_ok-meet_visit.was (c.meet_visit.ensures start conds r i place less is_visit h) in
    let at = m.visits.stay.ready in
    let turns = subst (λ k. TurnsFit Growing (within_round start conds r) (states_at (c.meet_visit.new.enc, c.meet_visit.new.board.slots.items) k)) (sym place) (met_turns start conds (c.meet_visit.new.enc, c.meet_visit.new.board.slots.items) r i less m) in
    let t = found_of (board_of start) c.turn_all.new.enc c.turn_all.new.board.slots.items _ c.turn_all.result _ c.in_ok-steps.was (c.turn_all.ensures (within_round start conds r) at turns) in
    let last = subst (λ k. HasLast Growing (within_round start conds r) (c.meet_visit.new.enc, c.meet_visit.new.board.slots.items) (c.turn_all.new.enc, c.turn_all.new.board.slots.items) (states_at (c.meet_visit.new.enc, c.meet_visit.new.board.slots.items) k)) place t.0 in
    passed_on (board_of start) c.combine.new.enc c.combine.new.self.slots.items _ _ c.combine.result c.from_residual-in_err-combine.result _ c.in_err-combine.was (err_from_is_err_and c.from_residual-in_err-combine.result c.from_residual-in_err-combine.ensures.1) (c.combine.ensures (board_of start) t.0.worked.ready.at (kept_fits start conds (c.meet_visit.new.enc, c.meet_visit.new.board.slots.items) (c.turn_all.new.enc, c.turn_all.new.board.slots.items) r i less m last))
