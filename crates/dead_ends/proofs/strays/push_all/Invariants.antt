-- The outcomes so far, and those of the steps that are left, are together all.
use Rattle.std.proofs.Common.{◌≡◌, ◌++◌, drop, map}
use Rattle.dead_ends.specs.Strays.{strays_from}
use Rattle.dead_ends.specs.Values.{AreWithin, stray_value}
use Rattle.plan_witness.specs.Values.{steps_value}
use Rattle.task_core.specs.States.{IsWithin, vector}
use Rattle.task_core.specs.Tasks.{fluent_count, system_of}
use Rattle.dead_ends.proofs.strays.push_all.Given as goal

abbrev pub invariant-loop-number : goal.invariant-loop-number
invariant-loop-number l = let n = fluent_count l.task in record {
  so_far : map (stray_value n) l.strays.items
      ++ strays_from (system_of l.task) (map (vector n) l.leaving.states.now) l.leaving.back l.number (vector n l.before) (steps_value n (drop l.number l.steps))
      ≡ map (stray_value n) l.fn.strays.items
      ++ strays_from (system_of l.task) (map (vector n) l.leaving.states.now) l.leaving.back 0 (vector n l.start) (steps_value n l.steps);
  before : IsWithin n l.before;
  within : AreWithin n l.fn.strays.items → AreWithin n l.strays.items;
}
