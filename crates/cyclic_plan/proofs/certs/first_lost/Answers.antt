use Rattle.std.proofs.Common.{◌≡◌, ◌+◌, arith, length, ◌∙◌}
use Rattle.std.proofs.lemmas.Result.{err_from_is_err_and}
use Rattle.task_core.specs.Tasks.{action_count}
use Rattle.slot_board.proofs.BoardSlots.{left_with, passed, went}
use Rattle.cyclic_plan.proofs.CertSteps.{first_fits, lost_first, space_fits, space_live}
use Rattle.cyclic_plan.proofs.certs.first_lost.Goals as goal

pub copy-requires-clause-live : goal.copy-requires-clause-live
copy-requires-clause-live c = let r = c.requires.ready in space_live r.0 c.args.enc.now c.args.board.now.slots.items c.space-space.result c.space-space.ensures r.1

pub combine-requires-clause-working : goal.combine-requires-clause-working
combine-requires-clause-working c =
    let r = c.requires.ready in
    (r.0, (went r.0 c.copy.new.enc c.copy.new.self.slots.items _ c.copy.result _ c.in_ok-copy.was (c.copy.ensures r.0 r.1.round.at (space_fits r.0 c.args.enc.now c.args.board.now.slots.items c.space-space.result c.space-space.ensures r.1))).at)

pub combine-requires-clause-place : goal.combine-requires-clause-place
combine-requires-clause-place c =
    let r = c.requires.ready in
    let m = went r.0 c.copy.new.enc c.copy.new.self.slots.items _ c.copy.result _ c.in_ok-copy.was (c.copy.ensures r.0 r.1.round.at (space_fits r.0 c.args.enc.now c.args.board.now.slots.items c.space-space.result c.space-space.ensures r.1)) in
    let e : length c.copy.new.self.slots.items ≡ 7 + action_count r.0.task + action_count r.0.task = m.at.long ∙ r.1.round.places in
    omega arith

pub combine-requires-clause-a : goal.combine-requires-clause-a
combine-requires-clause-a c = combine-requires-clause-place c

pub combine-requires-clause-b : goal.combine-requires-clause-b
combine-requires-clause-b c =
    let r = c.requires.ready in
    let m = went r.0 c.copy.new.enc c.copy.new.self.slots.items _ c.copy.result _ c.in_ok-copy.was (c.copy.ensures r.0 r.1.round.at (space_fits r.0 c.args.enc.now c.args.board.now.slots.items c.space-space.result c.space-space.ensures r.1)) in
    let e : length c.copy.new.self.slots.items ≡ 7 + action_count r.0.task + action_count r.0.task = m.at.long ∙ r.1.round.places in
    omega arith

pub returns : goal.returns
returns c start ready =
    let enc = c.args.enc.now in
    let old = c.args.board.now.slots.items in
    let mid = c.copy.new.enc in
    let half = c.copy.new.self.slots.items in
    let m = went start mid half _ c.copy.result _ c.in_ok-copy.was (c.copy.ensures start ready.round.at (space_fits start enc old c.space-space.result c.space-space.ensures ready)) in
    left_with start c.combine.new.enc c.combine.new.self.slots.items _ _ c.combine.result
    (λ second. lost_first start enc mid c.combine.new.enc old half c.combine.new.self.slots.items c.space-space.result c.space-space.ensures ready m second)
    (c.combine.ensures start m.at (first_fits start enc mid old half c.space-space.result c.space-space.ensures ready m))

pub returns-in_err-copy : goal.returns-in_err-copy
returns-in_err-copy c start ready =
    let p = err_from_is_err_and c.from_residual.result c.from_residual.ensures.1 in
    passed start c.copy.new.enc c.copy.new.self.slots.items _ _ c.copy.result c.from_residual.result _ c.in_err-copy.was p
    (c.copy.ensures start ready.round.at (space_fits start c.args.enc.now c.args.board.now.slots.items c.space-space.result c.space-space.ensures ready))
