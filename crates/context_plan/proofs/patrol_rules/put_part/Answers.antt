use Rattle.std.proofs.Common.{◌+◌, arith, subst, sym}
use Rattle.slot_board.proofs.BoardSlots.{left_with}
use Rattle.task_core.specs.Tasks.{action_count}
use Rattle.dd_ops.specs.Operations.{and_of, minus_of}
use Rattle.slot_board.specs.Board as board
use Rattle.slot_board.specs.Board.{set_at}
use Rattle.context_plan.specs.PatrolSteps.{PutsPart}
use Rattle.context_plan.specs.Scenes.{Left, Moved, board_of, takers_place}
use Rattle.context_plan.specs.declared.patrol_rules.Part.{Part}
use Rattle.context_plan.proofs.SceneSteps.{low}
use Rattle.context_plan.proofs.VisitRules.{made_part_fits, others_fits, place_within, puts_made, puts_others, puts_whole, taker_within, whole_fits}
use Rattle.context_plan.proofs.patrol_rules.put_part.Goals as goal

pub copy_of-requires-clause-working : goal.copy_of-requires-clause-working
copy_of-requires-clause-working c =
    let start = c.requires.ready.0 in
    let h = c.requires.ready.8 in
    (board_of start, h.patrol.ready.at)

pub copy_of-requires-clause-place : goal.copy_of-requires-clause-place
copy_of-requires-clause-place c =
    let start = c.requires.ready.0 in
    let h = c.requires.ready.8 in
    low start (c.args.enc.now, c.args.board.now.slots.items) h.patrol.ready.at 2 (omega arith)

pub copy_of-requires-clause-from : goal.copy_of-requires-clause-from
copy_of-requires-clause-from c =
    let start = c.requires.ready.0 in
    let conds = c.requires.ready.1 in
    let i = c.requires.ready.2 in
    let a = c.requires.ready.3 in
    let less = c.requires.ready.5 in
    let is_taker = c.requires.ready.6 in
    let below = c.requires.ready.7 in
    let h = c.requires.ready.8 in
    let w = taker_within start conds (c.args.enc.now, c.args.board.now.slots.items) i a less below h in omega (arith, is_taker)

pub combine-requires-clause-working : goal.combine-requires-clause-working
combine-requires-clause-working c =
    let start = c.requires.ready.0 in
    let h = c.requires.ready.8 in
    (board_of start, h.patrol.ready.at)

pub combine-requires-clause-place : goal.combine-requires-clause-place
combine-requires-clause-place c =
    let start = c.requires.ready.0 in
    let h = c.requires.ready.8 in
    low start (c.args.enc.now, c.args.board.now.slots.items) h.patrol.ready.at 2 (omega arith)

pub combine-requires-clause-a : goal.combine-requires-clause-a
combine-requires-clause-a c =
    let start = c.requires.ready.0 in
    let conds = c.requires.ready.1 in
    let i = c.requires.ready.2 in
    let a = c.requires.ready.3 in
    let less = c.requires.ready.5 in
    let is_taker = c.requires.ready.6 in
    let below = c.requires.ready.7 in
    let h = c.requires.ready.8 in
    let w = taker_within start conds (c.args.enc.now, c.args.board.now.slots.items) i a less below h in omega (arith, is_taker)

pub combine-requires-clause-b : goal.combine-requires-clause-b
combine-requires-clause-b c =
    let start = c.requires.ready.0 in
    let conds = c.requires.ready.1 in
    let i = c.requires.ready.2 in
    let a = c.requires.ready.3 in
    let place = c.requires.ready.4 in
    let less = c.requires.ready.5 in
    let below = c.requires.ready.7 in
    let h = c.requires.ready.8 in
    let w = place_within start conds (c.args.enc.now, c.args.board.now.slots.items) i a less below h in omega (arith, place)

pub combine-requires-in-Others-clause-working : goal.combine-requires-in-Others-clause-working
combine-requires-in-Others-clause-working c =
    let start = c.requires.ready.0 in
    let h = c.requires.ready.8 in
    (board_of start, h.patrol.ready.at)

pub combine-requires-in-Others-clause-place : goal.combine-requires-in-Others-clause-place
combine-requires-in-Others-clause-place c =
    let start = c.requires.ready.0 in
    let h = c.requires.ready.8 in
    low start (c.args.enc.now, c.args.board.now.slots.items) h.patrol.ready.at 2 (omega arith)

pub combine-requires-in-Others-clause-a : goal.combine-requires-in-Others-clause-a
combine-requires-in-Others-clause-a c =
    let start = c.requires.ready.0 in
    let conds = c.requires.ready.1 in
    let i = c.requires.ready.2 in
    let a = c.requires.ready.3 in
    let less = c.requires.ready.5 in
    let is_taker = c.requires.ready.6 in
    let below = c.requires.ready.7 in
    let h = c.requires.ready.8 in
    let w = taker_within start conds (c.args.enc.now, c.args.board.now.slots.items) i a less below h in omega (arith, is_taker)

pub combine-requires-in-Others-clause-b : goal.combine-requires-in-Others-clause-b
combine-requires-in-Others-clause-b c =
    let start = c.requires.ready.0 in
    let conds = c.requires.ready.1 in
    let i = c.requires.ready.2 in
    let a = c.requires.ready.3 in
    let place = c.requires.ready.4 in
    let less = c.requires.ready.5 in
    let below = c.requires.ready.7 in
    let h = c.requires.ready.8 in
    let w = place_within start conds (c.args.enc.now, c.args.board.now.slots.items) i a less below h in omega (arith, place)

pub returns-in-Whole : goal.returns-in-Whole
returns-in-Whole c start conds i a place less is_taker below h =
    subst (λ (p : Part). Left start (c.copy_of.new.enc, c.copy_of.new.self.slots.items) (PutsPart p start conds (c.copy_of.new.enc, c.copy_of.new.self.slots.items) i a) c.copy_of.result) (sym c.in-Whole.is)
    (left_with (board_of start) c.copy_of.new.enc c.copy_of.new.self.slots.items _ _ c.copy_of.result
    (λ z. puts_whole start conds (c.args.enc.now, c.args.board.now.slots.items) i a less below h (c.copy_of.new.enc, c.copy_of.new.self.slots.items) (subst (λ j. Moved start (c.args.enc.now, c.args.board.now.slots.items) (c.copy_of.new.enc, c.copy_of.new.self.slots.items) 2 (set_at c.args.enc.now.sets c.args.board.now.slots.items (takers_place (action_count start.task) start.stages i + a))) place (subst (λ k. Moved start (c.args.enc.now, c.args.board.now.slots.items) (c.copy_of.new.enc, c.copy_of.new.self.slots.items) 2 (set_at c.args.enc.now.sets c.args.board.now.slots.items k)) is_taker z)))
    (c.copy_of.ensures (board_of start) h.patrol.ready.at (subst (λ k. board.Fits (board_of start) 2 (set_at c.args.enc.now.sets c.args.board.now.slots.items k)) (sym is_taker) (subst (λ j. board.Fits (board_of start) 2 (set_at c.args.enc.now.sets c.args.board.now.slots.items (takers_place (action_count start.task) start.stages i + a))) (sym place) (whole_fits start conds (c.args.enc.now, c.args.board.now.slots.items) i a less below h)))))

pub returns-in-Made : goal.returns-in-Made
returns-in-Made c start conds i a place less is_taker below h =
    subst (λ (p : Part). Left start (c.combine.new.enc, c.combine.new.self.slots.items) (PutsPart p start conds (c.combine.new.enc, c.combine.new.self.slots.items) i a) c.combine.result) (sym c.in-Made.is)
    (left_with (board_of start) c.combine.new.enc c.combine.new.self.slots.items _ _ c.combine.result
    (λ z. puts_made start conds (c.args.enc.now, c.args.board.now.slots.items) i a less below h (c.combine.new.enc, c.combine.new.self.slots.items) (subst (λ j. Moved start (c.args.enc.now, c.args.board.now.slots.items) (c.combine.new.enc, c.combine.new.self.slots.items) 2 (and_of (set_at c.args.enc.now.sets c.args.board.now.slots.items (takers_place (action_count start.task) start.stages i + a)) (set_at c.args.enc.now.sets c.args.board.now.slots.items j))) place (subst (λ k. Moved start (c.args.enc.now, c.args.board.now.slots.items) (c.combine.new.enc, c.combine.new.self.slots.items) 2 (and_of (set_at c.args.enc.now.sets c.args.board.now.slots.items k) (set_at c.args.enc.now.sets c.args.board.now.slots.items c.args.made))) is_taker z)))
    (c.combine.ensures (board_of start) h.patrol.ready.at (subst (λ k. board.Fits (board_of start) 2 (and_of (set_at c.args.enc.now.sets c.args.board.now.slots.items k) (set_at c.args.enc.now.sets c.args.board.now.slots.items c.args.made))) (sym is_taker) (subst (λ j. board.Fits (board_of start) 2 (and_of (set_at c.args.enc.now.sets c.args.board.now.slots.items (takers_place (action_count start.task) start.stages i + a)) (set_at c.args.enc.now.sets c.args.board.now.slots.items j))) (sym place) (made_part_fits start conds (c.args.enc.now, c.args.board.now.slots.items) i a less below h)))))

pub returns-in-Others : goal.returns-in-Others
returns-in-Others c start conds i a place less is_taker below h =
    subst (λ (p : Part). Left start (c.combine-in-Others.new.enc, c.combine-in-Others.new.self.slots.items) (PutsPart p start conds (c.combine-in-Others.new.enc, c.combine-in-Others.new.self.slots.items) i a) c.combine-in-Others.result) (sym c.in-Others.is)
    (left_with (board_of start) c.combine-in-Others.new.enc c.combine-in-Others.new.self.slots.items _ _ c.combine-in-Others.result
    (λ z. puts_others start conds (c.args.enc.now, c.args.board.now.slots.items) i a less below h (c.combine-in-Others.new.enc, c.combine-in-Others.new.self.slots.items) (subst (λ j. Moved start (c.args.enc.now, c.args.board.now.slots.items) (c.combine-in-Others.new.enc, c.combine-in-Others.new.self.slots.items) 2 (minus_of (set_at c.args.enc.now.sets c.args.board.now.slots.items (takers_place (action_count start.task) start.stages i + a)) (set_at c.args.enc.now.sets c.args.board.now.slots.items j))) place (subst (λ k. Moved start (c.args.enc.now, c.args.board.now.slots.items) (c.combine-in-Others.new.enc, c.combine-in-Others.new.self.slots.items) 2 (minus_of (set_at c.args.enc.now.sets c.args.board.now.slots.items k) (set_at c.args.enc.now.sets c.args.board.now.slots.items c.args.made))) is_taker z)))
    (c.combine-in-Others.ensures (board_of start) h.patrol.ready.at (subst (λ k. board.Fits (board_of start) 2 (minus_of (set_at c.args.enc.now.sets c.args.board.now.slots.items k) (set_at c.args.enc.now.sets c.args.board.now.slots.items c.args.made))) (sym is_taker) (subst (λ j. board.Fits (board_of start) 2 (minus_of (set_at c.args.enc.now.sets c.args.board.now.slots.items (takers_place (action_count start.task) start.stages i + a)) (set_at c.args.enc.now.sets c.args.board.now.slots.items j))) (sym place) (others_fits start conds (c.args.enc.now, c.args.board.now.slots.items) i a less below h)))))
