-- The next layer has what the first actions lead into this one.
use Rattle.std.proofs.Common.{ℕ}
use Rattle.dd_nodes.specs.Subfunctions.{Function}
use Rattle.slot_board.specs.Board.{Start}
use Rattle.reach_plan.specs.Searches.{BeginsRound, HasGrown}
use Rattle.reach_plan.proofs.search.grow.Given as goal

abbrev pub invariant-loop-a : goal.invariant-loop-a
invariant-loop-a l = (start : Start) (k : ℕ) (f : Function) (h : ℕ → Function) → BeginsRound l.fn.aim.class start l.fn.enc l.fn.board.slots.items k f h l.fn.steps.items l.fn.spent.items
    → HasGrown l.fn.aim.class start l.enc l.board.slots.items k f h l.a l.steps.items l.spent.items
