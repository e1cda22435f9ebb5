use Rattle.std.proofs.Common.{drop, map}
use Rattle.dd_nodes.specs.Subfunctions.{Function}
use Rattle.plan_certs.specs.Named.{set_of}
use Rattle.slot_board.specs.Board.{Start}
use Rattle.cert_check.specs.Sets.{IsKept}
use Rattle.cert_check.specs.Sizes.{HasUnion, SetsFit}
use Rattle.cert_check.proofs.LoopLemmas.{Looked}
use Rattle.cert_check.proofs.judging.some_set_is_left.Given as goal

-- the sets so far have no way out
abbrev pub invariant-loop-set : goal.invariant-loop-set
invariant-loop-set l = (start : Start) (f : Function) → HasUnion start l.fn.enc l.fn.board.slots.items f → SetsFit start l.fn.asked.class f (map set_of l.fn.sets) → IsKept l.fn.asked.class start.task f
    → Looked start l.fn.asked.class l.enc l.board.slots.items f (drop l.set-index l.sets) l.fn.sets
