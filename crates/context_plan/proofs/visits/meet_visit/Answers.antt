use Rattle.std.proofs.Common.{◌≡◌, arith, Contains, length, subst, sym}
use Rattle.std.proofs.lemmas.Result.{err_from_is_err_and}
use Rattle.slot_board.proofs.BoardSlots.{left_with, passed, went}
use Rattle.std.proofs.lemmas.List.Elements.{Contains-get_or}
use Rattle.dd_ops.specs.Operations.{and_of}
use Rattle.slot_board.specs.Board as board
use Rattle.slot_board.specs.Board.{set_at}
use Rattle.task_core.specs.Conditions.{holds}
use Rattle.task_core.specs.declared.conditions.Cond.{Cond}
use Rattle.context_plan.specs.PatrolSteps.{visit_place}
use Rattle.context_plan.specs.Scenes.{Moved, board_of}
use Rattle.context_plan.proofs.SceneSteps.{same_length, spare_enough}
use Rattle.context_plan.proofs.VisitSteps.{made_fits, met_made, visit_low}
use Rattle.context_plan.proofs.visits.meet_visit.Goals as goal

pub condition-requires-clause-working : goal.condition-requires-clause-working
condition-requires-clause-working c =
    let start = c.requires.ready.0 in
    let h = c.requires.ready.7 in
    (board_of start, h.stay.ready.at)

pub condition-requires-clause-place : goal.condition-requires-clause-place
condition-requires-clause-place c =
    let start = c.requires.ready.0 in
    let i = c.requires.ready.3 in
    let place = c.requires.ready.4 in
    let h = c.requires.ready.7 in
    let within = visit_low start (c.args.enc.now, c.args.board.now.slots.items) h.stay.ready.at h.stay.some (visit_place i) (let e = h.stay.count in omega arith) in
    let w = within in omega (arith, place)

pub condition-requires-clause-fluents : goal.condition-requires-clause-fluents
condition-requires-clause-fluents c =
    c.requires.visit.names

pub condition-requires-clause-shallow : goal.condition-requires-clause-shallow
condition-requires-clause-shallow c =
    c.requires.visit.shallow

pub returns-in_err-condition : goal.returns-in_err-condition
returns-in_err-condition c start conds r i place less is_visit h =
    let parts = h.stay.fits.visits c.args.visit.now (subst (λ (s : Cond). Contains conds s) (sym is_visit) (Contains-get_or conds i c.args.visit.now less)) in
    passed (board_of start) c.condition.new.enc c.condition.new.self.slots.items _ _ c.condition.result c.from_residual.result _ c.in_err-condition.was (err_from_is_err_and c.from_residual.result c.from_residual.ensures.1) (c.condition.ensures (board_of start) h.stay.ready.at (spare_enough start) parts)

pub combine-requires-clause-working : goal.combine-requires-clause-working
combine-requires-clause-working c =
    let start = c.requires.ready.0 in
    let conds = c.requires.ready.1 in
    let i = c.requires.ready.3 in
    let less = c.requires.ready.5 in
    let is_visit = c.requires.ready.6 in
    let h = c.requires.ready.7 in
    let parts = h.stay.fits.visits c.args.visit.now (subst (λ (s : Cond). Contains conds s) (sym is_visit) (Contains-get_or conds i c.args.visit.now less)) in
    let m = went (board_of start) c.condition.new.enc c.condition.new.self.slots.items _ c.condition.result _ c.in_ok-condition.was (c.condition.ensures (board_of start) h.stay.ready.at (spare_enough start) parts) in
    (board_of start, m.at)

pub combine-requires-clause-place : goal.combine-requires-clause-place
combine-requires-clause-place c =
    let start = c.requires.ready.0 in
    let conds = c.requires.ready.1 in
    let i = c.requires.ready.3 in
    let place = c.requires.ready.4 in
    let less = c.requires.ready.5 in
    let is_visit = c.requires.ready.6 in
    let h = c.requires.ready.7 in
    let within = visit_low start (c.args.enc.now, c.args.board.now.slots.items) h.stay.ready.at h.stay.some (visit_place i) (let e = h.stay.count in omega arith) in
    let parts = h.stay.fits.visits c.args.visit.now (subst (λ (s : Cond). Contains conds s) (sym is_visit) (Contains-get_or conds i c.args.visit.now less)) in
    let m = went (board_of start) c.condition.new.enc c.condition.new.self.slots.items _ c.condition.result _ c.in_ok-condition.was (c.condition.ensures (board_of start) h.stay.ready.at (spare_enough start) parts) in
    let e : length c.condition.new.self.slots.items ≡ length c.args.board.now.slots.items = same_length start (c.args.enc.now, c.args.board.now.slots.items) (c.condition.new.enc, c.condition.new.self.slots.items) h.stay.ready.at m.at in let w = within in omega (arith, place)

pub combine-requires-clause-a : goal.combine-requires-clause-a
combine-requires-clause-a c =
    let start = c.requires.ready.0 in
    let conds = c.requires.ready.1 in
    let i = c.requires.ready.3 in
    let less = c.requires.ready.5 in
    let is_visit = c.requires.ready.6 in
    let h = c.requires.ready.7 in
    let parts = h.stay.fits.visits c.args.visit.now (subst (λ (s : Cond). Contains conds s) (sym is_visit) (Contains-get_or conds i c.args.visit.now less)) in
    let m = went (board_of start) c.condition.new.enc c.condition.new.self.slots.items _ c.condition.result _ c.in_ok-condition.was (c.condition.ensures (board_of start) h.stay.ready.at (spare_enough start) parts) in
    visit_low start (c.condition.new.enc, c.condition.new.self.slots.items) m.at h.stay.some 9 (omega arith)

pub combine-requires-clause-b : goal.combine-requires-clause-b
combine-requires-clause-b c =
    let start = c.requires.ready.0 in
    let conds = c.requires.ready.1 in
    let i = c.requires.ready.3 in
    let place = c.requires.ready.4 in
    let less = c.requires.ready.5 in
    let is_visit = c.requires.ready.6 in
    let h = c.requires.ready.7 in
    let within = visit_low start (c.args.enc.now, c.args.board.now.slots.items) h.stay.ready.at h.stay.some (visit_place i) (let e = h.stay.count in omega arith) in
    let parts = h.stay.fits.visits c.args.visit.now (subst (λ (s : Cond). Contains conds s) (sym is_visit) (Contains-get_or conds i c.args.visit.now less)) in
    let m = went (board_of start) c.condition.new.enc c.condition.new.self.slots.items _ c.condition.result _ c.in_ok-condition.was (c.condition.ensures (board_of start) h.stay.ready.at (spare_enough start) parts) in
    let e : length c.condition.new.self.slots.items ≡ length c.args.board.now.slots.items = same_length start (c.args.enc.now, c.args.board.now.slots.items) (c.condition.new.enc, c.condition.new.self.slots.items) h.stay.ready.at m.at in let w = within in omega (arith, place)

pub returns : goal.returns
returns c start conds r i place less is_visit h =
    let parts = h.stay.fits.visits c.args.visit.now (subst (λ (s : Cond). Contains conds s) (sym is_visit) (Contains-get_or conds i c.args.visit.now less)) in
    let m = went (board_of start) c.condition.new.enc c.condition.new.self.slots.items _ c.condition.result _ c.in_ok-condition.was (c.condition.ensures (board_of start) h.stay.ready.at (spare_enough start) parts) in
    let first = subst (λ k. Moved start (c.args.enc.now, c.args.board.now.slots.items) (c.condition.new.enc, c.condition.new.self.slots.items) k (holds c.args.visit.now)) place m in
    let fit = subst (λ k. board.Fits (board_of start) k (and_of (set_at c.condition.new.enc.sets c.condition.new.self.slots.items 9) (set_at c.condition.new.enc.sets c.condition.new.self.slots.items k))) (sym place) (made_fits start conds (c.args.enc.now, c.args.board.now.slots.items) (c.condition.new.enc, c.condition.new.self.slots.items) r i c.args.visit.now less is_visit h first) in
    left_with (board_of start) c.combine.new.enc c.combine.new.self.slots.items _ _ c.combine.result
    (λ z. met_made start conds (c.args.enc.now, c.args.board.now.slots.items) (c.condition.new.enc, c.condition.new.self.slots.items) r i c.args.visit.now less is_visit h first (c.combine.new.enc, c.combine.new.self.slots.items) (subst (λ k. Moved start (c.condition.new.enc, c.condition.new.self.slots.items) (c.combine.new.enc, c.combine.new.self.slots.items) k (and_of (set_at c.condition.new.enc.sets c.condition.new.self.slots.items 9) (set_at c.condition.new.enc.sets c.condition.new.self.slots.items k))) place z))
    (c.combine.ensures (board_of start) m.at fit)
