use Rattle.std.proofs.Common.{arith}
use Rattle.dd_sets.specs.LiveSets.{everything}
use Rattle.fair_plan.proofs.Boards.{low_in, puts}
use Rattle.fair_plan.proofs.steps.begin.Goals as goal

pub whole-requires-clause-working : goal.whole-requires-clause-working
whole-requires-clause-working c = let r = c.requires in (r.0.start, r.1)

pub whole-requires-clause-place : goal.whole-requires-clause-place
whole-requires-clause-place c = let r = c.requires in low_in r.0 c.args.enc.now c.args.board.now.slots.items r.1 6 (omega arith)

pub returns : goal.returns
returns c origin at =
    puts origin (c.args.enc.now, c.args.board.now.slots.items) (c.whole.new.enc, c.whole.new.self.slots.items) 6 everything c.whole.result (c.whole.ensures origin.start at)
