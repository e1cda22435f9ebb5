use Rattle.std.proofs.Common.{◌≡◌, false}
use Rattle.std.specs.List.{list_any, range_with_len}
use Rattle.dd_nodes.specs.Subfunctions.{Function}
use Rattle.plan_certs.specs.Named.{set_of}
use Rattle.slot_board.specs.Board.{Start}
use Rattle.cert_check.specs.Sets.{leaves_by, states_in}
use Rattle.cert_check.specs.Sizes.{HasSet, LeaveFits}
use Rattle.cert_check.proofs.judging.some_is_way_out.Given as goal

-- no action so far is a way out
abbrev pub invariant-loop-a : goal.invariant-loop-a
invariant-loop-a l = (start : Start) (f : Function) → HasSet start l.fn.enc l.fn.board.slots.items f (states_in start.task (set_of l.fn.set)) → LeaveFits start l.fn.asked.class f (set_of l.fn.set)
    → HasSet start l.enc l.board.slots.items f (states_in start.task (set_of l.fn.set)) × (list_any (leaves_by l.fn.asked.class start.task f (set_of l.fn.set)) (range_with_len 0 l.a) ≡ false)
