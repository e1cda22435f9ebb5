use Rattle.context_plan.proofs.SizeSteps.{fits_none, placed_small}
use Rattle.context_plan.specs.Rounds.{turn_by}
use Rattle.context_plan.specs.Sizes.{IsSmall}
use Rattle.std.proofs.Common.{arith, inl, subst, sym}
use Rattle.slot_board.specs.Board.{Scene}
use Rattle.slot_board.proofs.BoardSlots.{left_with}
use Rattle.context_plan.specs.Scenes.{Left, board_of, states_at, sys_in}
use Rattle.context_plan.specs.Steps.{Leads}
use Rattle.context_plan.specs.declared.rounds.Way.{Way}
use Rattle.context_plan.proofs.SceneSteps.{low}
use Rattle.context_plan.proofs.RoundSteps.{leads_copied, leads_none}
use Rattle.context_plan.proofs.rounds.begin_next.Goals as goal

pub combine-requires-clause-working : goal.combine-requires-clause-working
combine-requires-clause-working c = let r = c.requires.ready in (board_of r.0, r.1.at)

pub combine-requires-clause-place : goal.combine-requires-clause-place
combine-requires-clause-place c = let r = c.requires.ready in low r.0 (c.args.enc.now, c.args.board.now.slots.items) r.1.at 1 (omega arith)

pub combine-requires-clause-a : goal.combine-requires-clause-a
combine-requires-clause-a c = let r = c.requires.ready in low r.0 (c.args.enc.now, c.args.board.now.slots.items) r.1.at 0 (omega arith)

pub combine-requires-clause-b : goal.combine-requires-clause-b
combine-requires-clause-b c = let r = c.requires.ready in low r.0 (c.args.enc.now, c.args.board.now.slots.items) r.1.at 0 (omega arith)

pub copy_of-requires-clause-working : goal.copy_of-requires-clause-working
copy_of-requires-clause-working c = let r = c.requires.ready in (board_of r.0, r.1.at)

pub copy_of-requires-clause-place : goal.copy_of-requires-clause-place
copy_of-requires-clause-place c = let r = c.requires.ready in low r.0 (c.args.enc.now, c.args.board.now.slots.items) r.1.at 1 (omega arith)

pub copy_of-requires-clause-from : goal.copy_of-requires-clause-from
copy_of-requires-clause-from c = let r = c.requires.ready in low r.0 (c.args.enc.now, c.args.board.now.slots.items) r.1.at 0 (omega arith)

pub returns-in-Shrinking : goal.returns-in-Shrinking
returns-in-Shrinking c start ready fits =
    let now : Scene = (c.combine.new.enc, c.combine.new.self.slots.items) in
    subst (λ (w : Way). Left start now (Leads w start (c.args.enc.now, c.args.board.now.slots.items) now 0) c.combine.result) (sym c.in-Shrinking.is)
    (left_with (board_of start) c.combine.new.enc c.combine.new.self.slots.items _ _ c.combine.result
    (λ m. leads_none start (c.args.enc.now, c.args.board.now.slots.items) now ready m)
    (c.combine.ensures (board_of start) ready.at
    (fits_none start (c.args.enc.now, c.args.board.now.slots.items) (subst (λ (w : Way). IsSmall start (turn_by w (sys_in start) (states_at (c.args.enc.now, c.args.board.now.slots.items) 0) 0)) c.in-Shrinking.is fits))))

pub returns-in-Growing : goal.returns-in-Growing
returns-in-Growing c start ready fits =
    let now : Scene = (c.copy_of.new.enc, c.copy_of.new.self.slots.items) in
    subst (λ (w : Way). Left start now (Leads w start (c.args.enc.now, c.args.board.now.slots.items) now 0) c.copy_of.result) (sym c.in-Growing.is)
    (left_with (board_of start) c.copy_of.new.enc c.copy_of.new.self.slots.items _ _ c.copy_of.result
    (λ m. leads_copied start (c.args.enc.now, c.args.board.now.slots.items) now ready m)
    (c.copy_of.ensures (board_of start) ready.at (inl (placed_small start (c.args.enc.now, c.args.board.now.slots.items) ready.at 0 (low start (c.args.enc.now, c.args.board.now.slots.items) ready.at 0 (omega arith)) (inl (omega arith))))))
