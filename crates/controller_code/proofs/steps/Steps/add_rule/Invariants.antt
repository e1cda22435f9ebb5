-- The literals from the place on.
use Rattle.std.specs.Prelude.{Option, Some, drop, if◌then◌else◌}
use Rattle.task_core.specs.Cubes.{matches}
use Rattle.task_core.specs.Vectors.{Vector}
use Rattle.controller_code.specs.Steps.{AreKept, Decides}
use Rattle.controller_code.specs.declared.steps.Move.{Move}
use Rattle.controller_code.proofs.steps.Steps.add_rule.Given as goal

abbrev pub invariant-loop-place : goal.invariant-loop-place
invariant-loop-place l = record {
  kept : AreKept l.fn.self.list.items l.self.list.items;
  decides : (v : Vector) (other : Option Move) → Decides l.fn.self.list.items v l.rest other
      → Decides l.self.list.items v l.all (if matches (drop l.place l.rule.cube.items) v then Some l.rule.action else other);
}
