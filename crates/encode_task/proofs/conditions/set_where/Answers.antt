-- The parts one by one, where they found no room by halves.
use Rattle.std.proofs.Common.{◌+◌, subst}
use Rattle.dd_sets.specs.Frames.{OwnsAnswer}
use Rattle.task_core.specs.Conditions.{depth, holds}
use Rattle.encode_task.proofs.HalfLemmas.{after_refusal, below_after, room_after, small_after}
use Rattle.encode_task.proofs.conditions.set_where.Goals as goal

pub returns-in-Ok-clause-answer : goal.returns-in-Ok-clause-answer
returns-in-Ok-clause-answer c = subst (OwnsAnswer c.args.sets.now c.by_halves.new.sets (holds c.args.cond.now)) c.in-Ok.is c.by_halves.ensures

pub one_by_one-requires : goal.one_by_one-requires
one_by_one-requires c =
    below_after c.args.sets.now c.by_halves.new.sets c.args.cond.now (subst (OwnsAnswer c.args.sets.now c.by_halves.new.sets (holds c.args.cond.now)) c.in-Err-Full.is c.by_halves.ensures) c.requires

pub returns-in-Err-Full-clause-answer : goal.returns-in-Err-Full-clause-answer
returns-in-Err-Full-clause-answer c =
    after_refusal c.args.sets.now c.by_halves.new.sets c.one_by_one.new.sets (holds c.args.cond.now) c.one_by_one.result
    (subst (OwnsAnswer c.args.sets.now c.by_halves.new.sets (holds c.args.cond.now)) c.in-Err-Full.is c.by_halves.ensures) c.one_by_one.ensures.answer

pub returns-in-Err-Full-clause-full : goal.returns-in-Err-Full-clause-full
returns-in-Err-Full-clause-full c full w small =
    let none = subst (OwnsAnswer c.args.sets.now c.by_halves.new.sets (holds c.args.cond.now)) c.in-Err-Full.is c.by_halves.ensures in
    room_after c.args.sets.now c.by_halves.new.sets (depth c.args.cond.now + 4) none
    (c.one_by_one.ensures.full full w (small_after c.args.sets.now c.by_halves.new.sets w c.args.cond.now none small))

pub returns-in-Err-Memory-clause-answer : goal.returns-in-Err-Memory-clause-answer
returns-in-Err-Memory-clause-answer c = subst (OwnsAnswer c.args.sets.now c.by_halves.new.sets (holds c.args.cond.now)) c.in-Err-Memory.is c.by_halves.ensures
