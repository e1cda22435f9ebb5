use Rattle.context_plan.proofs.NotedSteps.{widened_new, widened_none}
use Rattle.context_plan.proofs.SceneSteps.{low}
use Rattle.context_plan.proofs.SizeSteps.{fits_small}
use Rattle.context_plan.specs.Scenes.{board_of}
use Rattle.slot_board.proofs.BoardSlots.{passed, went}
use Rattle.slot_board.proofs.Endings.{noted_then}
use Rattle.slot_board.specs.Board.{Fits}
use Rattle.slot_board.specs.declared.steps.Step.TheVariants.{Grow}
use Rattle.std.proofs.Common.{◌≡◌, ◌++◌, [], ◌∷◌, arith, refl, subst, sym}
use Rattle.std.proofs.lemmas.Result.{err_from_is_err_and}
use Rattle.context_plan.proofs.rounds.widen.Goals as goal

pub combine-requires-clause-working : goal.combine-requires-clause-working
combine-requires-clause-working c = let r = c.requires.ready in (board_of r.0, r.1.at)

pub combine-requires-clause-place : goal.combine-requires-clause-place
combine-requires-clause-place c = let r = c.requires.ready in low r.0 (c.args.enc.now, c.args.board.now.slots.items) r.1.at 2 (omega arith)

pub combine-requires-clause-a : goal.combine-requires-clause-a
combine-requires-clause-a c = let r = c.requires.ready in low r.0 (c.args.enc.now, c.args.board.now.slots.items) r.1.at 1 (omega arith)

pub combine-requires-clause-b : goal.combine-requires-clause-b
combine-requires-clause-b c = let r = c.requires.ready in low r.0 (c.args.enc.now, c.args.board.now.slots.items) r.1.at 2 (omega arith)

pub returns-in_err-combine : goal.returns-in_err-combine
returns-in_err-combine c start ready fits =
    let p = err_from_is_err_and c.from_residual.result c.from_residual.ensures.1 in
    passed (board_of start) c.combine.new.enc c.combine.new.self.slots.items _ _ c.combine.result c.from_residual.result _ c.in_err-combine.was p (c.combine.ensures (board_of start) ready.at (fits_small start 2 _ _ fits (λ v is. refl)))

pub is_same-requires-clause-working : goal.is_same-requires-clause-working
is_same-requires-clause-working c =
    let r = c.requires.ready in
    let m = went (board_of r.0) c.combine.new.enc c.combine.new.self.slots.items _ c.combine.result _ c.in_ok-combine.was (c.combine.ensures (board_of r.0) r.1.at (fits_small r.0 2 _ _ r.2 (λ v is. refl))) in
    (board_of r.0, m.at)

pub is_same-requires-clause-a : goal.is_same-requires-clause-a
is_same-requires-clause-a c =
    let r = c.requires.ready in
    let m = went (board_of r.0) c.combine.new.enc c.combine.new.self.slots.items _ c.combine.result _ c.in_ok-combine.was (c.combine.ensures (board_of r.0) r.1.at (fits_small r.0 2 _ _ r.2 (λ v is. refl))) in
    low r.0 (c.combine.new.enc, c.combine.new.self.slots.items) m.at 2 (omega arith)

pub is_same-requires-clause-b : goal.is_same-requires-clause-b
is_same-requires-clause-b c =
    let r = c.requires.ready in
    let m = went (board_of r.0) c.combine.new.enc c.combine.new.self.slots.items _ c.combine.result _ c.in_ok-combine.was (c.combine.ensures (board_of r.0) r.1.at (fits_small r.0 2 _ _ r.2 (λ v is. refl))) in
    low r.0 (c.combine.new.enc, c.combine.new.self.slots.items) m.at 1 (omega arith)

pub returns-then-is_same : goal.returns-then-is_same
returns-then-is_same c start ready fits =
    let m = went (board_of start) c.combine.new.enc c.combine.new.self.slots.items _ c.combine.result _ c.in_ok-combine.was (c.combine.ensures (board_of start) ready.at (fits_small start 2 _ _ fits (λ v is. refl))) in
    widened_none start (c.args.enc.now, c.args.board.now.slots.items) (c.combine.new.enc, c.combine.new.self.slots.items) c.args.a c.args.steps.now.items ready m (c.is_same.ensures.0 (let t = c.if-is_same.true in cc))

pub copy_of-requires-clause-working : goal.copy_of-requires-clause-working
copy_of-requires-clause-working c =
    let r = c.requires.ready in
    let m = went (board_of r.0) c.combine.new.enc c.combine.new.self.slots.items _ c.combine.result _ c.in_ok-combine.was (c.combine.ensures (board_of r.0) r.1.at (fits_small r.0 2 _ _ r.2 (λ v is. refl))) in
    (board_of r.0, m.at)

pub copy_of-requires-clause-place : goal.copy_of-requires-clause-place
copy_of-requires-clause-place c =
    let r = c.requires.ready in
    let m = went (board_of r.0) c.combine.new.enc c.combine.new.self.slots.items _ c.combine.result _ c.in_ok-combine.was (c.combine.ensures (board_of r.0) r.1.at (fits_small r.0 2 _ _ r.2 (λ v is. refl))) in
    low r.0 (c.combine.new.enc, c.combine.new.self.slots.items) m.at 1 (omega arith)

pub copy_of-requires-clause-from : goal.copy_of-requires-clause-from
copy_of-requires-clause-from c =
    let r = c.requires.ready in
    let m = went (board_of r.0) c.combine.new.enc c.combine.new.self.slots.items _ c.combine.result _ c.in_ok-combine.was (c.combine.ensures (board_of r.0) r.1.at (fits_small r.0 2 _ _ r.2 (λ v is. refl))) in
    low r.0 (c.combine.new.enc, c.combine.new.self.slots.items) m.at 2 (omega arith)

pub returns-in_err-copy_of : goal.returns-in_err-copy_of
returns-in_err-copy_of c start ready fits =
    let p = err_from_is_err_and c.from_residual-in_err-copy_of.result c.from_residual-in_err-copy_of.ensures.1 in
    let m = went (board_of start) c.combine.new.enc c.combine.new.self.slots.items _ c.combine.result _ c.in_ok-combine.was (c.combine.ensures (board_of start) ready.at (fits_small start 2 _ _ fits (λ v is. refl))) in
    let small = subst (Fits (board_of start) 1) (sym m.here) (fits_small start 1 _ _ fits (λ v is. refl)) in
    passed (board_of start) c.copy_of.new.enc c.copy_of.new.self.slots.items _ _ c.copy_of.result c.from_residual-in_err-copy_of.result _ c.in_err-copy_of.was p (c.copy_of.ensures (board_of start) m.at small)

pub returns : goal.returns
returns c start ready fits =
    let m = went (board_of start) c.combine.new.enc c.combine.new.self.slots.items _ c.combine.result _ c.in_ok-combine.was (c.combine.ensures (board_of start) ready.at (fits_small start 2 _ _ fits (λ v is. refl))) in
    let small = subst (Fits (board_of start) 1) (sym m.here) (fits_small start 1 _ _ fits (λ v is. refl)) in
    let d = went (board_of start) c.copy_of.new.enc c.copy_of.new.self.slots.items _ c.copy_of.result _ c.in_ok-copy_of.was (c.copy_of.ensures (board_of start) m.at small) in
    noted_then (board_of start) c.copy_of.new.enc c.copy_of.new.self.slots.items (c.note.new.steps.items ≡ c.args.steps.now.items ++ Grow c.args.a ∷ []) _ c.note.result c.note.ensures.never_full c.note.ensures.noted d.at
    (λ done. widened_new start (c.args.enc.now, c.args.board.now.slots.items) (c.combine.new.enc, c.combine.new.self.slots.items) (c.copy_of.new.enc, c.copy_of.new.self.slots.items) c.args.a c.args.steps.now.items c.note.new.steps.items ready m d done)
