use Rattle.context_plan.proofs.SizeSteps.{at_small, fits_meet, may_two, placed_small}
use Rattle.std.proofs.Common.{arith, inl, subst, sym}
use Rattle.slot_board.specs.Board.{Scene}
use Rattle.slot_board.proofs.BoardSlots.{left_with}
use Rattle.context_plan.specs.Scenes.{Left, board_of}
use Rattle.context_plan.specs.Steps.{KeepsHits}
use Rattle.context_plan.specs.declared.rounds.Way.{Way}
use Rattle.context_plan.proofs.SceneSteps.{low}
use Rattle.context_plan.proofs.RoundSteps.{keeps_all, keeps_some}
use Rattle.context_plan.proofs.rounds.keep_hits.Goals as goal

pub combine-requires-clause-working : goal.combine-requires-clause-working
combine-requires-clause-working c = let r = c.requires.ready in (board_of r.0, r.1.at)

pub combine-requires-clause-place : goal.combine-requires-clause-place
combine-requires-clause-place c = let r = c.requires.ready in low r.0 (c.args.enc.now, c.args.board.now.slots.items) r.1.at 2 (omega arith)

pub combine-requires-clause-a : goal.combine-requires-clause-a
combine-requires-clause-a c = let r = c.requires.ready in low r.0 (c.args.enc.now, c.args.board.now.slots.items) r.1.at 0 (omega arith)

pub combine-requires-clause-b : goal.combine-requires-clause-b
combine-requires-clause-b c = let r = c.requires.ready in low r.0 (c.args.enc.now, c.args.board.now.slots.items) r.1.at 2 (omega arith)

pub returns-in-Shrinking : goal.returns-in-Shrinking
returns-in-Shrinking c start ready fits =
    let now : Scene = (c.combine.new.enc, c.combine.new.self.slots.items) in
    subst (λ (w : Way). Left start now (KeepsHits w start (c.args.enc.now, c.args.board.now.slots.items) now) c.combine.result) (sym c.in-Shrinking.is)
    (left_with (board_of start) c.combine.new.enc c.combine.new.self.slots.items _ _ c.combine.result
    (λ m. keeps_some start (c.args.enc.now, c.args.board.now.slots.items) now ready m)
    (c.combine.ensures (board_of start) ready.at
    (fits_meet start 2 _ _ may_two (placed_small start (c.args.enc.now, c.args.board.now.slots.items) ready.at 0 (low start (c.args.enc.now, c.args.board.now.slots.items) ready.at 0 (omega arith)) (inl (omega arith))) (at_small start (c.args.enc.now, c.args.board.now.slots.items) 2 fits))))

pub returns-in-Growing : goal.returns-in-Growing
returns-in-Growing c start ready fits =
    subst (λ (w : Way). KeepsHits w start (c.args.enc.now, c.args.board.now.slots.items) (c.args.enc.now, c.args.board.now.slots.items)) (sym c.in-Growing.is) (keeps_all start (c.args.enc.now, c.args.board.now.slots.items) ready)
