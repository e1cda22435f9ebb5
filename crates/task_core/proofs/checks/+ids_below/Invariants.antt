-- The loop goes on while each part so far passes.
use Rattle.std.proofs.Common.{◌≡◌, drop, map}
use Rattle.std.specs.List.{list_all}
use Rattle.task_core.specs.Conditions.{ids_below}
use Rattle.task_core.proofs.checks.+ids_below.Given as goal

abbrev pub invariant-loop-part : goal.invariant-loop-part
invariant-loop-part l = list_all (λ part. part) (map (ids_below l.fluents) (drop l.part-index l.part-items)) ≡ ids_below l.fluents l.cond
