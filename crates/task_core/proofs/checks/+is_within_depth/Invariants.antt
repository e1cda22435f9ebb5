-- The loop goes on while each part so far passes.
use Rattle.std.proofs.Common.{◌≡◌, ◌-◌, drop, map, leb}
use Rattle.task_core.specs.Conditions.{depth, greatest}
use Rattle.task_core.proofs.checks.+is_within_depth.Given as goal

abbrev pub invariant-loop-part : goal.invariant-loop-part
invariant-loop-part l = leb (greatest (map depth (drop l.part-index l.part-items))) (l.levels - 1) ≡ leb (depth l.cond) l.levels
