use Rattle.context_plan.proofs.RuleStates.{chooses_none, chooses_more, chooses_all}
use Rattle.context_plan.proofs.SceneSteps.{low, same_length}
use Rattle.context_plan.specs.Scenes.{board_of}
use Rattle.slot_board.proofs.BoardSlots.{went, passed, made_at}
use Rattle.std.proofs.Common.{◌≡◌, arith, inl, length}
use Rattle.std.proofs.lemmas.Result.{err_from_is_err_and}
use Rattle.task_core.specs.Tasks.{action_count}
use Rattle.context_plan.proofs.rule_states.choose_all.Goals as goal

pub loop-a-init : goal.loop-a-init
loop-a-init c start ready every =
    chooses_none start (c.args.enc.now, c.args.board.now.slots.items) c.args.takers c.args.place ready

pub combine-requires-clause-working : goal.combine-requires-clause-working
combine-requires-clause-working c =
    let start = c.requires.ready.0 in
    let ready = c.requires.ready.1 in
    let every = c.requires.ready.2 in
    (board_of start, (c.loop-a.invariant start ready every).changed.ready.at)

pub combine-requires-clause-place : goal.combine-requires-clause-place
combine-requires-clause-place c =
    let start = c.requires.ready.0 in
    let ready = c.requires.ready.1 in
    let every = c.requires.ready.2 in
    let l : length c.loop-a.board.slots.items ≡ length c.args.board.now.slots.items = same_length start (c.args.enc.now, c.args.board.now.slots.items) (c.loop-a.enc, c.loop-a.board.slots.items) ready.at (c.loop-a.invariant start ready every).changed.ready.at in
    omega (arith, c.requires.places)

pub combine-requires-clause-a : goal.combine-requires-clause-a
combine-requires-clause-a c =
    let start = c.requires.ready.0 in
    let ready = c.requires.ready.1 in
    let every = c.requires.ready.2 in
    low start (c.loop-a.enc, c.loop-a.board.slots.items) (c.loop-a.invariant start ready every).changed.ready.at 4 (omega arith)

pub combine-requires-clause-b : goal.combine-requires-clause-b
combine-requires-clause-b c =
    let start = c.requires.ready.0 in
    let ready = c.requires.ready.1 in
    let every = c.requires.ready.2 in
    let l : length c.loop-a.board.slots.items ≡ length c.args.board.now.slots.items = same_length start (c.args.enc.now, c.args.board.now.slots.items) (c.loop-a.enc, c.loop-a.board.slots.items) ready.at (c.loop-a.invariant start ready every).changed.ready.at in
    omega (arith, c.requires.places, c.requires.apart)

pub returns-in_err-combine : goal.returns-in_err-combine
returns-in_err-combine c start ready every =
    let p = err_from_is_err_and c.from_residual.result c.from_residual.ensures.1 in
    passed (board_of start) c.combine.new.enc c.combine.new.self.slots.items _ _ c.combine.result c.from_residual.result _ c.in_err-combine.was p (c.combine.ensures (board_of start) (c.loop-a.invariant start ready every).changed.ready.at (inl (every _)))

pub loop-a-preserved : goal.loop-a-preserved
loop-a-preserved c start ready every =
    let e : length c.args.enc.now.actions ≡ action_count start.task = (made_at (board_of start) c.args.enc.now c.args.board.now.slots.items ready.at).actions in
    chooses_more start (c.args.enc.now, c.args.board.now.slots.items) (c.loop-a.enc, c.loop-a.board.slots.items) (c.combine.new.enc, c.combine.new.self.slots.items) c.args.takers c.args.place c.loop-a.a c.requires.high (omega (arith, c.requires.apart, c.requires.actions)) (omega (arith, c.requires.places, c.requires.actions)) (omega (arith, c.requires.actions)) ready (c.loop-a.invariant start ready every)
    (went (board_of start) c.combine.new.enc c.combine.new.self.slots.items _ c.combine.result _ c.in_ok-combine.was (c.combine.ensures (board_of start) (c.loop-a.invariant start ready every).changed.ready.at (inl (every _))))

pub returns : goal.returns
returns c start ready every =
    chooses_all start (c.args.enc.now, c.args.board.now.slots.items) (c.loop-a.enc, c.loop-a.board.slots.items) c.args.takers c.args.place c.loop-a.a c.args.actions (omega arith) (c.loop-a.invariant start ready every)
