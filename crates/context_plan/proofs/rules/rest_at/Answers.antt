use Rattle.context_plan.proofs.RuleFits.{rest_fits}
use Rattle.context_plan.proofs.SizeSteps.{placed_small}
use Rattle.context_plan.proofs.RuleSteps.{rest_none, rest_more}
use Rattle.context_plan.proofs.SceneSteps.{low, long_enough}
use Rattle.context_plan.specs.Scenes.{board_of, Moved, met_place, win_place}
use Rattle.context_plan.specs.Steps.{HasRest, HasTakers}
use Rattle.dd_ops.specs.Operations.{and_of}
use Rattle.slot_board.proofs.BoardSlots.{went, passed}
use Rattle.slot_board.specs.Board.{set_at}
use Rattle.std.proofs.Common.{◌≡◌, arith, inl, inr, subst, sym, suc, ◌∙◌, ℕ}
use Rattle.std.proofs.lemmas.Result.{err_from_is_err_and}
use Rattle.context_plan.proofs.rules.rest_at.Goals as goal

pub copy_of-requires-clause-working : goal.copy_of-requires-clause-working
copy_of-requires-clause-working c =
    let start = c.requires.ready.0 in
    let chain = c.requires.ready.1 in
    let n = c.requires.ready.2 in
    let long = c.requires.ready.3 in
    let h = c.requires.ready.4 in
    (board_of start, h.ready.at)

pub copy_of-requires-clause-place : goal.copy_of-requires-clause-place
copy_of-requires-clause-place c =
    let start = c.requires.ready.0 in
    let chain = c.requires.ready.1 in
    let n = c.requires.ready.2 in
    let long = c.requires.ready.3 in
    let h = c.requires.ready.4 in
    low start (c.args.enc.now, c.args.board.now.slots.items) h.ready.at 3 (omega arith)

pub copy_of-requires-clause-from : goal.copy_of-requires-clause-from
copy_of-requires-clause-from c =
    let start = c.requires.ready.0 in
    let chain = c.requires.ready.1 in
    let n = c.requires.ready.2 in
    let long = c.requires.ready.3 in
    let h = c.requires.ready.4 in
    let l = long_enough start (c.args.enc.now, c.args.board.now.slots.items) h.ready.at (win_place c.args.context) (omega (arith, n, c.requires.context, c.requires.next)) in omega (arith, c.win_at.ensures)

pub returns-in_err-copy_of : goal.returns-in_err-copy_of
returns-in_err-copy_of c start chain n long h =
    let p = err_from_is_err_and c.from_residual.result c.from_residual.ensures.1 in
    passed (board_of start) c.copy_of.new.enc c.copy_of.new.self.slots.items _ _ c.copy_of.result c.from_residual.result _ c.in_err-copy_of.was p (c.copy_of.ensures (board_of start) h.ready.at (inl (placed_small start (c.args.enc.now, c.args.board.now.slots.items) h.ready.at c.win_at.result (let l = long_enough start (c.args.enc.now, c.args.board.now.slots.items) h.ready.at (win_place c.args.context) (omega (arith, n, c.requires.context, c.requires.next)) in omega (arith, c.win_at.ensures)) (inr (omega (arith, c.win_at.ensures))))))

pub loop-stage-init : goal.loop-stage-init
loop-stage-init c start chain n long h =
    rest_none start (c.args.enc.now, c.args.board.now.slots.items) (c.copy_of.new.enc, c.copy_of.new.self.slots.items) chain c.args.context (omega (arith, n, c.requires.context, c.requires.next)) (subst (λ k. HasTakers start (c.args.enc.now, c.args.board.now.slots.items) chain (suc k)) (sym n) h)
    (subst (λ (k : ℕ). Moved start (c.args.enc.now, c.args.board.now.slots.items) (c.copy_of.new.enc, c.copy_of.new.self.slots.items) 3 (set_at c.args.enc.now.sets c.args.board.now.slots.items k)) c.win_at.ensures (went (board_of start) c.copy_of.new.enc c.copy_of.new.self.slots.items _ c.copy_of.result _ c.in_ok-copy_of.was (c.copy_of.ensures (board_of start) h.ready.at (inl (placed_small start (c.args.enc.now, c.args.board.now.slots.items) h.ready.at c.win_at.result (let l = long_enough start (c.args.enc.now, c.args.board.now.slots.items) h.ready.at (win_place c.args.context) (omega (arith, n, c.requires.context, c.requires.next)) in omega (arith, c.win_at.ensures)) (inr (omega (arith, c.win_at.ensures))))))))

pub combine-requires-clause-working : goal.combine-requires-clause-working
combine-requires-clause-working c =
    let start = c.requires.ready.0 in
    let chain = c.requires.ready.1 in
    let n = c.requires.ready.2 in
    let long = c.requires.ready.3 in
    let h = c.requires.ready.4 in
    (board_of start, (c.loop-stage.invariant start chain n long h).has.ready.at)

pub combine-requires-clause-place : goal.combine-requires-clause-place
combine-requires-clause-place c =
    let start = c.requires.ready.0 in
    let chain = c.requires.ready.1 in
    let n = c.requires.ready.2 in
    let long = c.requires.ready.3 in
    let h = c.requires.ready.4 in
    low start (c.loop-stage.enc, c.loop-stage.board.slots.items) (c.loop-stage.invariant start chain n long h).has.ready.at 3 (omega arith)

pub combine-requires-clause-a : goal.combine-requires-clause-a
combine-requires-clause-a c =
    let start = c.requires.ready.0 in
    let chain = c.requires.ready.1 in
    let n = c.requires.ready.2 in
    let long = c.requires.ready.3 in
    let h = c.requires.ready.4 in
    low start (c.loop-stage.enc, c.loop-stage.board.slots.items) (c.loop-stage.invariant start chain n long h).has.ready.at 3 (omega arith)

pub combine-requires-clause-b : goal.combine-requires-clause-b
combine-requires-clause-b c =
    let start = c.requires.ready.0 in
    let chain = c.requires.ready.1 in
    let n = c.requires.ready.2 in
    let long = c.requires.ready.3 in
    let h = c.requires.ready.4 in
    let l = long_enough start (c.loop-stage.enc, c.loop-stage.board.slots.items) (c.loop-stage.invariant start chain n long h).has.ready.at (met_place c.loop-stage.stage) (omega (arith, n, c.requires.next)) in omega (arith, c.met_at.ensures)

pub returns-in_err-combine : goal.returns-in_err-combine
returns-in_err-combine c start chain n long h =
    let p = err_from_is_err_and c.from_residual-in_err-combine.result c.from_residual-in_err-combine.ensures.1 in
    passed (board_of start) c.combine.new.enc c.combine.new.self.slots.items _ _ c.combine.result c.from_residual-in_err-combine.result _ c.in_err-combine.was p (c.combine.ensures (board_of start) (c.loop-stage.invariant start chain n long h).has.ready.at (rest_fits start (c.loop-stage.enc, c.loop-stage.board.slots.items) chain c.args.context c.loop-stage.stage c.met_at.result (long ∙ sym n) (omega arith) (omega (arith, n, c.requires.next)) c.met_at.ensures (c.loop-stage.invariant start chain n long h)))

pub loop-stage-preserved : goal.loop-stage-preserved
loop-stage-preserved c start chain n long h =
    rest_more start (c.loop-stage.enc, c.loop-stage.board.slots.items) (c.combine.new.enc, c.combine.new.self.slots.items) chain c.args.context c.loop-stage.stage (long ∙ sym n) (omega arith) (omega (arith, n, c.requires.next)) (c.loop-stage.invariant start chain n long h)
    (subst (λ (k : ℕ). Moved start (c.loop-stage.enc, c.loop-stage.board.slots.items) (c.combine.new.enc, c.combine.new.self.slots.items) 3 (and_of (set_at c.loop-stage.enc.sets c.loop-stage.board.slots.items 3) (set_at c.loop-stage.enc.sets c.loop-stage.board.slots.items k))) c.met_at.ensures (went (board_of start) c.combine.new.enc c.combine.new.self.slots.items _ c.combine.result _ c.in_ok-combine.was (c.combine.ensures (board_of start) (c.loop-stage.invariant start chain n long h).has.ready.at (rest_fits start (c.loop-stage.enc, c.loop-stage.board.slots.items) chain c.args.context c.loop-stage.stage c.met_at.result (long ∙ sym n) (omega arith) (omega (arith, n, c.requires.next)) c.met_at.ensures (c.loop-stage.invariant start chain n long h)))))

pub returns : goal.returns
returns c start chain n long h =
    subst (HasRest start (c.loop-stage.enc, c.loop-stage.board.slots.items) chain c.args.context) (let e : c.loop-stage.stage ≡ c.args.next = omega (arith, c.requires.context) in e) (c.loop-stage.invariant start chain n long h)
