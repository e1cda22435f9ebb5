use Rattle.context_plan.proofs.RuleFits.{turning_fits_at}
use Rattle.context_plan.proofs.RuleSteps.{turning_made}
use Rattle.context_plan.proofs.SceneSteps.{low, long_enough}
use Rattle.context_plan.specs.Scenes.{board_of, met_place}
use Rattle.context_plan.specs.Steps.{HasTakers}
use Rattle.slot_board.proofs.BoardSlots.{went, passed, left_with}
use Rattle.std.proofs.Common.{arith, subst, suc, ◌∙◌}
use Rattle.std.proofs.lemmas.Result.{err_from_is_err_and}
use Rattle.context_plan.proofs.rules.turn_states.Goals as goal

pub rest_at-requires-clause-ready : goal.rest_at-requires-clause-ready
rest_at-requires-clause-ready c =
    let start = c.requires.ready.0 in
    let chain = c.requires.ready.1 in
    let n = c.requires.ready.2 in
    let h = c.requires.ready.3 in
    (start, chain, n, h.stages ∙ n, subst (λ k. HasTakers start (c.args.enc.now, c.args.board.now.slots.items) chain (suc k)) n h.takers)

pub returns-in_err-rest_at : goal.returns-in_err-rest_at
returns-in_err-rest_at c start chain n h =
    let p = err_from_is_err_and c.from_residual.result c.from_residual.ensures.1 in
    passed (board_of start) c.rest_at.new.enc c.rest_at.new.board.slots.items _ _ c.rest_at.result c.from_residual.result _ c.in_err-rest_at.was p (c.rest_at.ensures start chain n (h.stages ∙ n) (subst (λ k. HasTakers start (c.args.enc.now, c.args.board.now.slots.items) chain (suc k)) n h.takers))

pub combine-requires-clause-working : goal.combine-requires-clause-working
combine-requires-clause-working c =
    let start = c.requires.ready.0 in
    let chain = c.requires.ready.1 in
    let n = c.requires.ready.2 in
    let h = c.requires.ready.3 in
    let r = went (board_of start) c.rest_at.new.enc c.rest_at.new.board.slots.items _ c.rest_at.result _ c.in_ok-rest_at.was (c.rest_at.ensures start chain n (h.stages ∙ n) (subst (λ k. HasTakers start (c.args.enc.now, c.args.board.now.slots.items) chain (suc k)) n h.takers)) in
    (board_of start, r.has.ready.at)

pub combine-requires-clause-place : goal.combine-requires-clause-place
combine-requires-clause-place c =
    let start = c.requires.ready.0 in
    let chain = c.requires.ready.1 in
    let n = c.requires.ready.2 in
    let h = c.requires.ready.3 in
    let r = went (board_of start) c.rest_at.new.enc c.rest_at.new.board.slots.items _ c.rest_at.result _ c.in_ok-rest_at.was (c.rest_at.ensures start chain n (h.stages ∙ n) (subst (λ k. HasTakers start (c.args.enc.now, c.args.board.now.slots.items) chain (suc k)) n h.takers)) in
    low start (c.rest_at.new.enc, c.rest_at.new.board.slots.items) r.has.ready.at 4 (omega arith)

pub combine-requires-clause-a : goal.combine-requires-clause-a
combine-requires-clause-a c =
    let start = c.requires.ready.0 in
    let chain = c.requires.ready.1 in
    let n = c.requires.ready.2 in
    let h = c.requires.ready.3 in
    let r = went (board_of start) c.rest_at.new.enc c.rest_at.new.board.slots.items _ c.rest_at.result _ c.in_ok-rest_at.was (c.rest_at.ensures start chain n (h.stages ∙ n) (subst (λ k. HasTakers start (c.args.enc.now, c.args.board.now.slots.items) chain (suc k)) n h.takers)) in
    low start (c.rest_at.new.enc, c.rest_at.new.board.slots.items) r.has.ready.at 3 (omega arith)

pub combine-requires-clause-b : goal.combine-requires-clause-b
combine-requires-clause-b c =
    let start = c.requires.ready.0 in
    let chain = c.requires.ready.1 in
    let n = c.requires.ready.2 in
    let h = c.requires.ready.3 in
    let r = went (board_of start) c.rest_at.new.enc c.rest_at.new.board.slots.items _ c.rest_at.result _ c.in_ok-rest_at.was (c.rest_at.ensures start chain n (h.stages ∙ n) (subst (λ k. HasTakers start (c.args.enc.now, c.args.board.now.slots.items) chain (suc k)) n h.takers)) in
    let l = long_enough start (c.rest_at.new.enc, c.rest_at.new.board.slots.items) r.has.ready.at (met_place c.args.next) (omega (arith, n, c.requires.next)) in omega (arith, c.met_at.ensures)

pub returns : goal.returns
returns c start chain n h =
    let r = went (board_of start) c.rest_at.new.enc c.rest_at.new.board.slots.items _ c.rest_at.result _ c.in_ok-rest_at.was (c.rest_at.ensures start chain n (h.stages ∙ n) (subst (λ k. HasTakers start (c.args.enc.now, c.args.board.now.slots.items) chain (suc k)) n h.takers)) in
    left_with (board_of start) c.combine.new.enc c.combine.new.self.slots.items _ _ c.combine.result
    (λ m. turning_made start (c.rest_at.new.enc, c.rest_at.new.board.slots.items) (c.combine.new.enc, c.combine.new.self.slots.items) chain c.args.context c.args.next c.met_at.result h.stages h.covered c.requires.context (omega (arith, n, c.requires.next)) c.met_at.ensures r m)
    (c.combine.ensures (board_of start) r.has.ready.at (turning_fits_at start (c.rest_at.new.enc, c.rest_at.new.board.slots.items) chain c.args.context c.args.next c.met_at.result h.stages c.requires.context (omega (arith, n, c.requires.next)) c.met_at.ensures r))
