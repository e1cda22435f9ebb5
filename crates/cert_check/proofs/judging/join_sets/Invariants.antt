use Rattle.std.proofs.Common.{drop, map}
use Rattle.dd_nodes.specs.Subfunctions.{Function}
use Rattle.plan_certs.specs.Named.{set_of}
use Rattle.slot_board.specs.Board.{Start}
use Rattle.task_core.specs.declared.classes.Class.{Class}
use Rattle.cert_check.specs.Sizes.{HasUnion, SetsFit}
use Rattle.cert_check.proofs.LoopLemmas.{Joined}
use Rattle.cert_check.proofs.judging.join_sets.Given as goal

-- the sets so far are joined
abbrev pub invariant-loop-set : goal.invariant-loop-set
invariant-loop-set l = (start : Start) (class : Class) (f : Function) → HasUnion start l.fn.enc l.fn.board.slots.items f → SetsFit start class f (map set_of l.fn.sets)
    → Joined start class l.enc l.board.slots.items f (drop l.set-index l.sets) l.fn.sets
