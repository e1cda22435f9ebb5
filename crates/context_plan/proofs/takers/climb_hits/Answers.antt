use Rattle.context_plan.proofs.TakerFits.{climb_joins, climb_leads, climb_leaves, climb_widens, within_now}
use Rattle.context_plan.proofs.SceneSteps.{low, same_length}
use Rattle.context_plan.proofs.SkipSteps.{climbs_none_new}
use Rattle.context_plan.proofs.TakerSteps.{climbs_more}
use Rattle.context_plan.specs.Scenes.{board_of}
use Rattle.slot_board.proofs.BoardSlots.{action_within, went, passed, left_with, made_at}
use Rattle.std.proofs.Common.{◌≡◌, arith, length}
use Rattle.std.proofs.lemmas.Result.{err_from_is_err_and}
use Rattle.task_core.specs.Tasks.{action_count}
use Rattle.context_plan.proofs.takers.climb_hits.Goals as goal

pub lead_inside-requires-clause-ready : goal.lead_inside-requires-clause-ready
lead_inside-requires-clause-ready c =
    let start = c.requires.ready.0 in
    let x = c.requires.ready.1 in
    let h = c.requires.ready.2 in
    let fits = c.requires.ready.3 in
    (start, h.changed.ready, (climb_leads start x (c.args.enc.now, c.args.board.now.slots.items) c.args.takers c.args.a.0 c.requires.high (within_now start (c.args.enc.now, c.args.board.now.slots.items) c.args.takers h.changed.ready.at c.requires.places) (action_within (board_of start) c.args.enc.now c.args.board.now.slots.items c.args.a.0 h.changed.ready.at c.requires.action) h fits))

pub returns-in_err-lead_inside : goal.returns-in_err-lead_inside
returns-in_err-lead_inside c start x h fits =
    let p = err_from_is_err_and c.from_residual.result c.from_residual.ensures.1 in
    passed (board_of start) c.lead_inside.new.enc c.lead_inside.new.board.slots.items _ _ c.lead_inside.result c.from_residual.result _ c.in_err-lead_inside.was p (c.lead_inside.ensures start h.changed.ready (climb_leads start x (c.args.enc.now, c.args.board.now.slots.items) c.args.takers c.args.a.0 c.requires.high (within_now start (c.args.enc.now, c.args.board.now.slots.items) c.args.takers h.changed.ready.at c.requires.places) (action_within (board_of start) c.args.enc.now c.args.board.now.slots.items c.args.a.0 h.changed.ready.at c.requires.action) h fits))

pub combine-requires-clause-working : goal.combine-requires-clause-working
combine-requires-clause-working c =
    let start = c.requires.ready.0 in
    let x = c.requires.ready.1 in
    let h = c.requires.ready.2 in
    let fits = c.requires.ready.3 in
    let d1 = went (board_of start) c.lead_inside.new.enc c.lead_inside.new.board.slots.items _ c.lead_inside.result _ c.in_ok-lead_inside.was (c.lead_inside.ensures start h.changed.ready (climb_leads start x (c.args.enc.now, c.args.board.now.slots.items) c.args.takers c.args.a.0 c.requires.high (within_now start (c.args.enc.now, c.args.board.now.slots.items) c.args.takers h.changed.ready.at c.requires.places) (action_within (board_of start) c.args.enc.now c.args.board.now.slots.items c.args.a.0 h.changed.ready.at c.requires.action) h fits)) in
    (board_of start, d1.at)

pub combine-requires-clause-place : goal.combine-requires-clause-place
combine-requires-clause-place c =
    let start = c.requires.ready.0 in
    let x = c.requires.ready.1 in
    let h = c.requires.ready.2 in
    let fits = c.requires.ready.3 in
    let d1 = went (board_of start) c.lead_inside.new.enc c.lead_inside.new.board.slots.items _ c.lead_inside.result _ c.in_ok-lead_inside.was (c.lead_inside.ensures start h.changed.ready (climb_leads start x (c.args.enc.now, c.args.board.now.slots.items) c.args.takers c.args.a.0 c.requires.high (within_now start (c.args.enc.now, c.args.board.now.slots.items) c.args.takers h.changed.ready.at c.requires.places) (action_within (board_of start) c.args.enc.now c.args.board.now.slots.items c.args.a.0 h.changed.ready.at c.requires.action) h fits)) in
    low start (c.lead_inside.new.enc, c.lead_inside.new.board.slots.items) d1.at 4 (omega arith)

pub combine-requires-clause-a : goal.combine-requires-clause-a
combine-requires-clause-a c =
    let start = c.requires.ready.0 in
    let x = c.requires.ready.1 in
    let h = c.requires.ready.2 in
    let fits = c.requires.ready.3 in
    let d1 = went (board_of start) c.lead_inside.new.enc c.lead_inside.new.board.slots.items _ c.lead_inside.result _ c.in_ok-lead_inside.was (c.lead_inside.ensures start h.changed.ready (climb_leads start x (c.args.enc.now, c.args.board.now.slots.items) c.args.takers c.args.a.0 c.requires.high (within_now start (c.args.enc.now, c.args.board.now.slots.items) c.args.takers h.changed.ready.at c.requires.places) (action_within (board_of start) c.args.enc.now c.args.board.now.slots.items c.args.a.0 h.changed.ready.at c.requires.action) h fits)) in
    low start (c.lead_inside.new.enc, c.lead_inside.new.board.slots.items) d1.at 2 (omega arith)

pub combine-requires-clause-b : goal.combine-requires-clause-b
combine-requires-clause-b c =
    let start = c.requires.ready.0 in
    let x = c.requires.ready.1 in
    let h = c.requires.ready.2 in
    let fits = c.requires.ready.3 in
    let d1 = went (board_of start) c.lead_inside.new.enc c.lead_inside.new.board.slots.items _ c.lead_inside.result _ c.in_ok-lead_inside.was (c.lead_inside.ensures start h.changed.ready (climb_leads start x (c.args.enc.now, c.args.board.now.slots.items) c.args.takers c.args.a.0 c.requires.high (within_now start (c.args.enc.now, c.args.board.now.slots.items) c.args.takers h.changed.ready.at c.requires.places) (action_within (board_of start) c.args.enc.now c.args.board.now.slots.items c.args.a.0 h.changed.ready.at c.requires.action) h fits)) in
    low start (c.lead_inside.new.enc, c.lead_inside.new.board.slots.items) d1.at 1 (omega arith)

pub returns-in_err-combine : goal.returns-in_err-combine
returns-in_err-combine c start x h fits =
    let p = err_from_is_err_and c.from_residual-in_err-combine.result c.from_residual-in_err-combine.ensures.1 in
    let d1 = went (board_of start) c.lead_inside.new.enc c.lead_inside.new.board.slots.items _ c.lead_inside.result _ c.in_ok-lead_inside.was (c.lead_inside.ensures start h.changed.ready (climb_leads start x (c.args.enc.now, c.args.board.now.slots.items) c.args.takers c.args.a.0 c.requires.high (within_now start (c.args.enc.now, c.args.board.now.slots.items) c.args.takers h.changed.ready.at c.requires.places) (action_within (board_of start) c.args.enc.now c.args.board.now.slots.items c.args.a.0 h.changed.ready.at c.requires.action) h fits)) in
    passed (board_of start) c.combine.new.enc c.combine.new.self.slots.items _ _ c.combine.result c.from_residual-in_err-combine.result _ c.in_err-combine.was p (c.combine.ensures (board_of start) d1.at (climb_leaves start x (c.args.enc.now, c.args.board.now.slots.items) c.args.takers c.args.a.0 c.requires.high (within_now start (c.args.enc.now, c.args.board.now.slots.items) c.args.takers h.changed.ready.at c.requires.places) (action_within (board_of start) c.args.enc.now c.args.board.now.slots.items c.args.a.0 h.changed.ready.at c.requires.action) h fits (c.lead_inside.new.enc, c.lead_inside.new.board.slots.items) d1))

pub is_empty-requires-clause-working : goal.is_empty-requires-clause-working
is_empty-requires-clause-working c =
    let start = c.requires.ready.0 in
    let x = c.requires.ready.1 in
    let h = c.requires.ready.2 in
    let fits = c.requires.ready.3 in
    let d1 = went (board_of start) c.lead_inside.new.enc c.lead_inside.new.board.slots.items _ c.lead_inside.result _ c.in_ok-lead_inside.was (c.lead_inside.ensures start h.changed.ready (climb_leads start x (c.args.enc.now, c.args.board.now.slots.items) c.args.takers c.args.a.0 c.requires.high (within_now start (c.args.enc.now, c.args.board.now.slots.items) c.args.takers h.changed.ready.at c.requires.places) (action_within (board_of start) c.args.enc.now c.args.board.now.slots.items c.args.a.0 h.changed.ready.at c.requires.action) h fits)) in
    let d2 = went (board_of start) c.combine.new.enc c.combine.new.self.slots.items _ c.combine.result _ c.in_ok-combine.was (c.combine.ensures (board_of start) d1.at (climb_leaves start x (c.args.enc.now, c.args.board.now.slots.items) c.args.takers c.args.a.0 c.requires.high (within_now start (c.args.enc.now, c.args.board.now.slots.items) c.args.takers h.changed.ready.at c.requires.places) (action_within (board_of start) c.args.enc.now c.args.board.now.slots.items c.args.a.0 h.changed.ready.at c.requires.action) h fits (c.lead_inside.new.enc, c.lead_inside.new.board.slots.items) d1)) in
    (board_of start, d2.at)

pub is_empty-requires-clause-place : goal.is_empty-requires-clause-place
is_empty-requires-clause-place c =
    let start = c.requires.ready.0 in
    let x = c.requires.ready.1 in
    let h = c.requires.ready.2 in
    let fits = c.requires.ready.3 in
    let d1 = went (board_of start) c.lead_inside.new.enc c.lead_inside.new.board.slots.items _ c.lead_inside.result _ c.in_ok-lead_inside.was (c.lead_inside.ensures start h.changed.ready (climb_leads start x (c.args.enc.now, c.args.board.now.slots.items) c.args.takers c.args.a.0 c.requires.high (within_now start (c.args.enc.now, c.args.board.now.slots.items) c.args.takers h.changed.ready.at c.requires.places) (action_within (board_of start) c.args.enc.now c.args.board.now.slots.items c.args.a.0 h.changed.ready.at c.requires.action) h fits)) in
    let d2 = went (board_of start) c.combine.new.enc c.combine.new.self.slots.items _ c.combine.result _ c.in_ok-combine.was (c.combine.ensures (board_of start) d1.at (climb_leaves start x (c.args.enc.now, c.args.board.now.slots.items) c.args.takers c.args.a.0 c.requires.high (within_now start (c.args.enc.now, c.args.board.now.slots.items) c.args.takers h.changed.ready.at c.requires.places) (action_within (board_of start) c.args.enc.now c.args.board.now.slots.items c.args.a.0 h.changed.ready.at c.requires.action) h fits (c.lead_inside.new.enc, c.lead_inside.new.board.slots.items) d1)) in
    low start (c.combine.new.enc, c.combine.new.self.slots.items) d2.at 4 (omega arith)

pub returns-then-is_empty : goal.returns-then-is_empty
returns-then-is_empty c start x h fits =
    let d1 = went (board_of start) c.lead_inside.new.enc c.lead_inside.new.board.slots.items _ c.lead_inside.result _ c.in_ok-lead_inside.was (c.lead_inside.ensures start h.changed.ready (climb_leads start x (c.args.enc.now, c.args.board.now.slots.items) c.args.takers c.args.a.0 c.requires.high (within_now start (c.args.enc.now, c.args.board.now.slots.items) c.args.takers h.changed.ready.at c.requires.places) (action_within (board_of start) c.args.enc.now c.args.board.now.slots.items c.args.a.0 h.changed.ready.at c.requires.action) h fits)) in
    let d2 = went (board_of start) c.combine.new.enc c.combine.new.self.slots.items _ c.combine.result _ c.in_ok-combine.was (c.combine.ensures (board_of start) d1.at (climb_leaves start x (c.args.enc.now, c.args.board.now.slots.items) c.args.takers c.args.a.0 c.requires.high (within_now start (c.args.enc.now, c.args.board.now.slots.items) c.args.takers h.changed.ready.at c.requires.places) (action_within (board_of start) c.args.enc.now c.args.board.now.slots.items c.args.a.0 h.changed.ready.at c.requires.action) h fits (c.lead_inside.new.enc, c.lead_inside.new.board.slots.items) d1)) in
    climbs_none_new start x (c.args.enc.now, c.args.board.now.slots.items) (c.lead_inside.new.enc, c.lead_inside.new.board.slots.items) (c.combine.new.enc, c.combine.new.self.slots.items) c.args.takers c.args.a.0 c.requires.high
    (within_now start (c.args.enc.now, c.args.board.now.slots.items) c.args.takers h.changed.ready.at c.requires.places) (action_within (board_of start) c.args.enc.now c.args.board.now.slots.items c.args.a.0 h.changed.ready.at c.requires.action) h d1 d2
    (c.is_empty.ensures.0 (let t = c.if-is_empty.true in cc))

pub combine-requires-2-clause-working : goal.combine-requires-2-clause-working
combine-requires-2-clause-working c =
    let start = c.requires.ready.0 in
    let x = c.requires.ready.1 in
    let h = c.requires.ready.2 in
    let fits = c.requires.ready.3 in
    let d1 = went (board_of start) c.lead_inside.new.enc c.lead_inside.new.board.slots.items _ c.lead_inside.result _ c.in_ok-lead_inside.was (c.lead_inside.ensures start h.changed.ready (climb_leads start x (c.args.enc.now, c.args.board.now.slots.items) c.args.takers c.args.a.0 c.requires.high (within_now start (c.args.enc.now, c.args.board.now.slots.items) c.args.takers h.changed.ready.at c.requires.places) (action_within (board_of start) c.args.enc.now c.args.board.now.slots.items c.args.a.0 h.changed.ready.at c.requires.action) h fits)) in
    let d2 = went (board_of start) c.combine.new.enc c.combine.new.self.slots.items _ c.combine.result _ c.in_ok-combine.was (c.combine.ensures (board_of start) d1.at (climb_leaves start x (c.args.enc.now, c.args.board.now.slots.items) c.args.takers c.args.a.0 c.requires.high (within_now start (c.args.enc.now, c.args.board.now.slots.items) c.args.takers h.changed.ready.at c.requires.places) (action_within (board_of start) c.args.enc.now c.args.board.now.slots.items c.args.a.0 h.changed.ready.at c.requires.action) h fits (c.lead_inside.new.enc, c.lead_inside.new.board.slots.items) d1)) in
    (board_of start, d2.at)

pub combine-requires-2-clause-place : goal.combine-requires-2-clause-place
combine-requires-2-clause-place c =
    let start = c.requires.ready.0 in
    let x = c.requires.ready.1 in
    let h = c.requires.ready.2 in
    let fits = c.requires.ready.3 in
    let d1 = went (board_of start) c.lead_inside.new.enc c.lead_inside.new.board.slots.items _ c.lead_inside.result _ c.in_ok-lead_inside.was (c.lead_inside.ensures start h.changed.ready (climb_leads start x (c.args.enc.now, c.args.board.now.slots.items) c.args.takers c.args.a.0 c.requires.high (within_now start (c.args.enc.now, c.args.board.now.slots.items) c.args.takers h.changed.ready.at c.requires.places) (action_within (board_of start) c.args.enc.now c.args.board.now.slots.items c.args.a.0 h.changed.ready.at c.requires.action) h fits)) in
    let d2 = went (board_of start) c.combine.new.enc c.combine.new.self.slots.items _ c.combine.result _ c.in_ok-combine.was (c.combine.ensures (board_of start) d1.at (climb_leaves start x (c.args.enc.now, c.args.board.now.slots.items) c.args.takers c.args.a.0 c.requires.high (within_now start (c.args.enc.now, c.args.board.now.slots.items) c.args.takers h.changed.ready.at c.requires.places) (action_within (board_of start) c.args.enc.now c.args.board.now.slots.items c.args.a.0 h.changed.ready.at c.requires.action) h fits (c.lead_inside.new.enc, c.lead_inside.new.board.slots.items) d1)) in
    let e : length c.combine.new.self.slots.items ≡ length c.args.board.now.slots.items = same_length start (c.args.enc.now, c.args.board.now.slots.items) (c.combine.new.enc, c.combine.new.self.slots.items) h.changed.ready.at d2.at in omega (arith, c.requires.places, c.requires.action)

pub combine-requires-2-clause-a : goal.combine-requires-2-clause-a
combine-requires-2-clause-a c =
    let start = c.requires.ready.0 in
    let x = c.requires.ready.1 in
    let h = c.requires.ready.2 in
    let fits = c.requires.ready.3 in
    let d1 = went (board_of start) c.lead_inside.new.enc c.lead_inside.new.board.slots.items _ c.lead_inside.result _ c.in_ok-lead_inside.was (c.lead_inside.ensures start h.changed.ready (climb_leads start x (c.args.enc.now, c.args.board.now.slots.items) c.args.takers c.args.a.0 c.requires.high (within_now start (c.args.enc.now, c.args.board.now.slots.items) c.args.takers h.changed.ready.at c.requires.places) (action_within (board_of start) c.args.enc.now c.args.board.now.slots.items c.args.a.0 h.changed.ready.at c.requires.action) h fits)) in
    let d2 = went (board_of start) c.combine.new.enc c.combine.new.self.slots.items _ c.combine.result _ c.in_ok-combine.was (c.combine.ensures (board_of start) d1.at (climb_leaves start x (c.args.enc.now, c.args.board.now.slots.items) c.args.takers c.args.a.0 c.requires.high (within_now start (c.args.enc.now, c.args.board.now.slots.items) c.args.takers h.changed.ready.at c.requires.places) (action_within (board_of start) c.args.enc.now c.args.board.now.slots.items c.args.a.0 h.changed.ready.at c.requires.action) h fits (c.lead_inside.new.enc, c.lead_inside.new.board.slots.items) d1)) in
    let e : length c.combine.new.self.slots.items ≡ length c.args.board.now.slots.items = same_length start (c.args.enc.now, c.args.board.now.slots.items) (c.combine.new.enc, c.combine.new.self.slots.items) h.changed.ready.at d2.at in omega (arith, c.requires.places, c.requires.action)

pub combine-requires-2-clause-b : goal.combine-requires-2-clause-b
combine-requires-2-clause-b c =
    let start = c.requires.ready.0 in
    let x = c.requires.ready.1 in
    let h = c.requires.ready.2 in
    let fits = c.requires.ready.3 in
    let d1 = went (board_of start) c.lead_inside.new.enc c.lead_inside.new.board.slots.items _ c.lead_inside.result _ c.in_ok-lead_inside.was (c.lead_inside.ensures start h.changed.ready (climb_leads start x (c.args.enc.now, c.args.board.now.slots.items) c.args.takers c.args.a.0 c.requires.high (within_now start (c.args.enc.now, c.args.board.now.slots.items) c.args.takers h.changed.ready.at c.requires.places) (action_within (board_of start) c.args.enc.now c.args.board.now.slots.items c.args.a.0 h.changed.ready.at c.requires.action) h fits)) in
    let d2 = went (board_of start) c.combine.new.enc c.combine.new.self.slots.items _ c.combine.result _ c.in_ok-combine.was (c.combine.ensures (board_of start) d1.at (climb_leaves start x (c.args.enc.now, c.args.board.now.slots.items) c.args.takers c.args.a.0 c.requires.high (within_now start (c.args.enc.now, c.args.board.now.slots.items) c.args.takers h.changed.ready.at c.requires.places) (action_within (board_of start) c.args.enc.now c.args.board.now.slots.items c.args.a.0 h.changed.ready.at c.requires.action) h fits (c.lead_inside.new.enc, c.lead_inside.new.board.slots.items) d1)) in
    low start (c.combine.new.enc, c.combine.new.self.slots.items) d2.at 4 (omega arith)

pub returns-in_err-combine-2 : goal.returns-in_err-combine-2
returns-in_err-combine-2 c start x h fits =
    let p = err_from_is_err_and c.from_residual-in_err-combine-2.result c.from_residual-in_err-combine-2.ensures.1 in
    let d1 = went (board_of start) c.lead_inside.new.enc c.lead_inside.new.board.slots.items _ c.lead_inside.result _ c.in_ok-lead_inside.was (c.lead_inside.ensures start h.changed.ready (climb_leads start x (c.args.enc.now, c.args.board.now.slots.items) c.args.takers c.args.a.0 c.requires.high (within_now start (c.args.enc.now, c.args.board.now.slots.items) c.args.takers h.changed.ready.at c.requires.places) (action_within (board_of start) c.args.enc.now c.args.board.now.slots.items c.args.a.0 h.changed.ready.at c.requires.action) h fits)) in
    let d2 = went (board_of start) c.combine.new.enc c.combine.new.self.slots.items _ c.combine.result _ c.in_ok-combine.was (c.combine.ensures (board_of start) d1.at (climb_leaves start x (c.args.enc.now, c.args.board.now.slots.items) c.args.takers c.args.a.0 c.requires.high (within_now start (c.args.enc.now, c.args.board.now.slots.items) c.args.takers h.changed.ready.at c.requires.places) (action_within (board_of start) c.args.enc.now c.args.board.now.slots.items c.args.a.0 h.changed.ready.at c.requires.action) h fits (c.lead_inside.new.enc, c.lead_inside.new.board.slots.items) d1)) in
    passed (board_of start) c.combine-2.new.enc c.combine-2.new.self.slots.items _ _ c.combine-2.result c.from_residual-in_err-combine-2.result _ c.in_err-combine-2.was p (c.combine-2.ensures (board_of start) d2.at ((climb_joins start x (c.args.enc.now, c.args.board.now.slots.items) c.args.takers c.args.a.0 c.requires.high (within_now start (c.args.enc.now, c.args.board.now.slots.items) c.args.takers h.changed.ready.at c.requires.places) (action_within (board_of start) c.args.enc.now c.args.board.now.slots.items c.args.a.0 h.changed.ready.at c.requires.action) h fits (c.lead_inside.new.enc, c.lead_inside.new.board.slots.items) (c.combine.new.enc, c.combine.new.self.slots.items) d1 d2)))

pub combine-requires-3-clause-working : goal.combine-requires-3-clause-working
combine-requires-3-clause-working c =
    let start = c.requires.ready.0 in
    let x = c.requires.ready.1 in
    let h = c.requires.ready.2 in
    let fits = c.requires.ready.3 in
    let d1 = went (board_of start) c.lead_inside.new.enc c.lead_inside.new.board.slots.items _ c.lead_inside.result _ c.in_ok-lead_inside.was (c.lead_inside.ensures start h.changed.ready (climb_leads start x (c.args.enc.now, c.args.board.now.slots.items) c.args.takers c.args.a.0 c.requires.high (within_now start (c.args.enc.now, c.args.board.now.slots.items) c.args.takers h.changed.ready.at c.requires.places) (action_within (board_of start) c.args.enc.now c.args.board.now.slots.items c.args.a.0 h.changed.ready.at c.requires.action) h fits)) in
    let d2 = went (board_of start) c.combine.new.enc c.combine.new.self.slots.items _ c.combine.result _ c.in_ok-combine.was (c.combine.ensures (board_of start) d1.at (climb_leaves start x (c.args.enc.now, c.args.board.now.slots.items) c.args.takers c.args.a.0 c.requires.high (within_now start (c.args.enc.now, c.args.board.now.slots.items) c.args.takers h.changed.ready.at c.requires.places) (action_within (board_of start) c.args.enc.now c.args.board.now.slots.items c.args.a.0 h.changed.ready.at c.requires.action) h fits (c.lead_inside.new.enc, c.lead_inside.new.board.slots.items) d1)) in
    let d3 = went (board_of start) c.combine-2.new.enc c.combine-2.new.self.slots.items _ c.combine-2.result _ c.in_ok-combine-2.was (c.combine-2.ensures (board_of start) d2.at ((climb_joins start x (c.args.enc.now, c.args.board.now.slots.items) c.args.takers c.args.a.0 c.requires.high (within_now start (c.args.enc.now, c.args.board.now.slots.items) c.args.takers h.changed.ready.at c.requires.places) (action_within (board_of start) c.args.enc.now c.args.board.now.slots.items c.args.a.0 h.changed.ready.at c.requires.action) h fits (c.lead_inside.new.enc, c.lead_inside.new.board.slots.items) (c.combine.new.enc, c.combine.new.self.slots.items) d1 d2))) in
    (board_of start, d3.at)

pub combine-requires-3-clause-place : goal.combine-requires-3-clause-place
combine-requires-3-clause-place c =
    let start = c.requires.ready.0 in
    let x = c.requires.ready.1 in
    let h = c.requires.ready.2 in
    let fits = c.requires.ready.3 in
    let d1 = went (board_of start) c.lead_inside.new.enc c.lead_inside.new.board.slots.items _ c.lead_inside.result _ c.in_ok-lead_inside.was (c.lead_inside.ensures start h.changed.ready (climb_leads start x (c.args.enc.now, c.args.board.now.slots.items) c.args.takers c.args.a.0 c.requires.high (within_now start (c.args.enc.now, c.args.board.now.slots.items) c.args.takers h.changed.ready.at c.requires.places) (action_within (board_of start) c.args.enc.now c.args.board.now.slots.items c.args.a.0 h.changed.ready.at c.requires.action) h fits)) in
    let d2 = went (board_of start) c.combine.new.enc c.combine.new.self.slots.items _ c.combine.result _ c.in_ok-combine.was (c.combine.ensures (board_of start) d1.at (climb_leaves start x (c.args.enc.now, c.args.board.now.slots.items) c.args.takers c.args.a.0 c.requires.high (within_now start (c.args.enc.now, c.args.board.now.slots.items) c.args.takers h.changed.ready.at c.requires.places) (action_within (board_of start) c.args.enc.now c.args.board.now.slots.items c.args.a.0 h.changed.ready.at c.requires.action) h fits (c.lead_inside.new.enc, c.lead_inside.new.board.slots.items) d1)) in
    let d3 = went (board_of start) c.combine-2.new.enc c.combine-2.new.self.slots.items _ c.combine-2.result _ c.in_ok-combine-2.was (c.combine-2.ensures (board_of start) d2.at ((climb_joins start x (c.args.enc.now, c.args.board.now.slots.items) c.args.takers c.args.a.0 c.requires.high (within_now start (c.args.enc.now, c.args.board.now.slots.items) c.args.takers h.changed.ready.at c.requires.places) (action_within (board_of start) c.args.enc.now c.args.board.now.slots.items c.args.a.0 h.changed.ready.at c.requires.action) h fits (c.lead_inside.new.enc, c.lead_inside.new.board.slots.items) (c.combine.new.enc, c.combine.new.self.slots.items) d1 d2))) in
    low start (c.combine-2.new.enc, c.combine-2.new.self.slots.items) d3.at 1 (omega arith)

pub combine-requires-3-clause-a : goal.combine-requires-3-clause-a
combine-requires-3-clause-a c =
    let start = c.requires.ready.0 in
    let x = c.requires.ready.1 in
    let h = c.requires.ready.2 in
    let fits = c.requires.ready.3 in
    let d1 = went (board_of start) c.lead_inside.new.enc c.lead_inside.new.board.slots.items _ c.lead_inside.result _ c.in_ok-lead_inside.was (c.lead_inside.ensures start h.changed.ready (climb_leads start x (c.args.enc.now, c.args.board.now.slots.items) c.args.takers c.args.a.0 c.requires.high (within_now start (c.args.enc.now, c.args.board.now.slots.items) c.args.takers h.changed.ready.at c.requires.places) (action_within (board_of start) c.args.enc.now c.args.board.now.slots.items c.args.a.0 h.changed.ready.at c.requires.action) h fits)) in
    let d2 = went (board_of start) c.combine.new.enc c.combine.new.self.slots.items _ c.combine.result _ c.in_ok-combine.was (c.combine.ensures (board_of start) d1.at (climb_leaves start x (c.args.enc.now, c.args.board.now.slots.items) c.args.takers c.args.a.0 c.requires.high (within_now start (c.args.enc.now, c.args.board.now.slots.items) c.args.takers h.changed.ready.at c.requires.places) (action_within (board_of start) c.args.enc.now c.args.board.now.slots.items c.args.a.0 h.changed.ready.at c.requires.action) h fits (c.lead_inside.new.enc, c.lead_inside.new.board.slots.items) d1)) in
    let d3 = went (board_of start) c.combine-2.new.enc c.combine-2.new.self.slots.items _ c.combine-2.result _ c.in_ok-combine-2.was (c.combine-2.ensures (board_of start) d2.at ((climb_joins start x (c.args.enc.now, c.args.board.now.slots.items) c.args.takers c.args.a.0 c.requires.high (within_now start (c.args.enc.now, c.args.board.now.slots.items) c.args.takers h.changed.ready.at c.requires.places) (action_within (board_of start) c.args.enc.now c.args.board.now.slots.items c.args.a.0 h.changed.ready.at c.requires.action) h fits (c.lead_inside.new.enc, c.lead_inside.new.board.slots.items) (c.combine.new.enc, c.combine.new.self.slots.items) d1 d2))) in
    low start (c.combine-2.new.enc, c.combine-2.new.self.slots.items) d3.at 1 (omega arith)

pub combine-requires-3-clause-b : goal.combine-requires-3-clause-b
combine-requires-3-clause-b c =
    let start = c.requires.ready.0 in
    let x = c.requires.ready.1 in
    let h = c.requires.ready.2 in
    let fits = c.requires.ready.3 in
    let d1 = went (board_of start) c.lead_inside.new.enc c.lead_inside.new.board.slots.items _ c.lead_inside.result _ c.in_ok-lead_inside.was (c.lead_inside.ensures start h.changed.ready (climb_leads start x (c.args.enc.now, c.args.board.now.slots.items) c.args.takers c.args.a.0 c.requires.high (within_now start (c.args.enc.now, c.args.board.now.slots.items) c.args.takers h.changed.ready.at c.requires.places) (action_within (board_of start) c.args.enc.now c.args.board.now.slots.items c.args.a.0 h.changed.ready.at c.requires.action) h fits)) in
    let d2 = went (board_of start) c.combine.new.enc c.combine.new.self.slots.items _ c.combine.result _ c.in_ok-combine.was (c.combine.ensures (board_of start) d1.at (climb_leaves start x (c.args.enc.now, c.args.board.now.slots.items) c.args.takers c.args.a.0 c.requires.high (within_now start (c.args.enc.now, c.args.board.now.slots.items) c.args.takers h.changed.ready.at c.requires.places) (action_within (board_of start) c.args.enc.now c.args.board.now.slots.items c.args.a.0 h.changed.ready.at c.requires.action) h fits (c.lead_inside.new.enc, c.lead_inside.new.board.slots.items) d1)) in
    let d3 = went (board_of start) c.combine-2.new.enc c.combine-2.new.self.slots.items _ c.combine-2.result _ c.in_ok-combine-2.was (c.combine-2.ensures (board_of start) d2.at ((climb_joins start x (c.args.enc.now, c.args.board.now.slots.items) c.args.takers c.args.a.0 c.requires.high (within_now start (c.args.enc.now, c.args.board.now.slots.items) c.args.takers h.changed.ready.at c.requires.places) (action_within (board_of start) c.args.enc.now c.args.board.now.slots.items c.args.a.0 h.changed.ready.at c.requires.action) h fits (c.lead_inside.new.enc, c.lead_inside.new.board.slots.items) (c.combine.new.enc, c.combine.new.self.slots.items) d1 d2))) in
    low start (c.combine-2.new.enc, c.combine-2.new.self.slots.items) d3.at 2 (omega arith)

pub returns : goal.returns
returns c start x h fits =
    let d1 = went (board_of start) c.lead_inside.new.enc c.lead_inside.new.board.slots.items _ c.lead_inside.result _ c.in_ok-lead_inside.was (c.lead_inside.ensures start h.changed.ready (climb_leads start x (c.args.enc.now, c.args.board.now.slots.items) c.args.takers c.args.a.0 c.requires.high (within_now start (c.args.enc.now, c.args.board.now.slots.items) c.args.takers h.changed.ready.at c.requires.places) (action_within (board_of start) c.args.enc.now c.args.board.now.slots.items c.args.a.0 h.changed.ready.at c.requires.action) h fits)) in
    let d2 = went (board_of start) c.combine.new.enc c.combine.new.self.slots.items _ c.combine.result _ c.in_ok-combine.was (c.combine.ensures (board_of start) d1.at (climb_leaves start x (c.args.enc.now, c.args.board.now.slots.items) c.args.takers c.args.a.0 c.requires.high (within_now start (c.args.enc.now, c.args.board.now.slots.items) c.args.takers h.changed.ready.at c.requires.places) (action_within (board_of start) c.args.enc.now c.args.board.now.slots.items c.args.a.0 h.changed.ready.at c.requires.action) h fits (c.lead_inside.new.enc, c.lead_inside.new.board.slots.items) d1)) in
    let d3 = went (board_of start) c.combine-2.new.enc c.combine-2.new.self.slots.items _ c.combine-2.result _ c.in_ok-combine-2.was (c.combine-2.ensures (board_of start) d2.at ((climb_joins start x (c.args.enc.now, c.args.board.now.slots.items) c.args.takers c.args.a.0 c.requires.high (within_now start (c.args.enc.now, c.args.board.now.slots.items) c.args.takers h.changed.ready.at c.requires.places) (action_within (board_of start) c.args.enc.now c.args.board.now.slots.items c.args.a.0 h.changed.ready.at c.requires.action) h fits (c.lead_inside.new.enc, c.lead_inside.new.board.slots.items) (c.combine.new.enc, c.combine.new.self.slots.items) d1 d2))) in
    let e : length c.args.enc.now.actions ≡ action_count start.task = (made_at (board_of start) c.args.enc.now c.args.board.now.slots.items h.changed.ready.at).actions in
    left_with (board_of start) c.combine-3.new.enc c.combine-3.new.self.slots.items _ _ c.combine-3.result
    (λ d4. climbs_more start x (c.args.enc.now, c.args.board.now.slots.items) (c.lead_inside.new.enc, c.lead_inside.new.board.slots.items) (c.combine.new.enc, c.combine.new.self.slots.items) (c.combine-2.new.enc, c.combine-2.new.self.slots.items) (c.combine-3.new.enc, c.combine-3.new.self.slots.items) c.args.takers c.args.a.0 c.requires.high (omega (arith, c.requires.places)) (omega (arith, c.requires.action)) h d1 d2 d3 d4)
    (c.combine-3.ensures (board_of start) d3.at (climb_widens start x (c.args.enc.now, c.args.board.now.slots.items) c.args.takers c.args.a.0 c.requires.high (within_now start (c.args.enc.now, c.args.board.now.slots.items) c.args.takers h.changed.ready.at c.requires.places) (action_within (board_of start) c.args.enc.now c.args.board.now.slots.items c.args.a.0 h.changed.ready.at c.requires.action) h fits (c.lead_inside.new.enc, c.lead_inside.new.board.slots.items) (c.combine.new.enc, c.combine.new.self.slots.items) (c.combine-2.new.enc, c.combine-2.new.self.slots.items) d1 d2 d3))
