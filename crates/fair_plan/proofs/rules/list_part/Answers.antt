use Rattle.std.proofs.Common.{arith}
use Rattle.fair_plan.proofs.Boards.{low_in}
use Rattle.fair_plan.proofs.rules.list_part.Goals as goal

pub only_cubes-requires-clause-working : goal.only_cubes-requires-clause-working
only_cubes-requires-clause-working c = let r = c.requires in (r.0.start, r.1.at)

pub only_cubes-requires-clause-place : goal.only_cubes-requires-clause-place
only_cubes-requires-clause-place c = let r = c.requires in low_in r.0 c.args.enc.now c.args.board.now.slots.items r.1.at 0 (omega arith)
