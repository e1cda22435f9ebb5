use Rattle.std.proofs.Common.{◌≡◌, ◌+◌, arith, length}
use Rattle.task_core.specs.Tasks.{action_count}
use Rattle.slot_board.proofs.BoardSlots.{left_with}
use Rattle.judge_sets.proofs.JudgeSteps.{none_read}
use Rattle.judge_sets.proofs.reading.read_none.Goals as goal

pub whole-requires-clause-working : goal.whole-requires-clause-working
whole-requires-clause-working c = let r = c.requires in (r.0.start, r.1.at)

pub whole-requires-clause-place : goal.whole-requires-clause-place
whole-requires-clause-place c =
    let r = c.requires in
    let long : length c.args.board.now.slots.items ≡ r.0.start.places = r.1.at.long in
    let places : r.0.start.places ≡ 7 + action_count r.0.start.task = r.0.places in
    omega arith

pub returns : goal.returns
returns c scene has =
    left_with scene.start c.whole.new.enc c.whole.new.self.slots.items _ _ c.whole.result
    (λ moved. none_read scene c.args.enc.now c.whole.new.enc c.args.board.now.slots.items c.whole.new.self.slots.items has moved) (c.whole.ensures scene.start has.at)
