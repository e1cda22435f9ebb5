-- The outcomes so far are those that were there, and those of the numbers so far.
use Rattle.std.proofs.Common.{◌≡◌, ◌++◌, map}
use Rattle.std.specs.List.{filter_map, range_with_len}
use Rattle.dead_ends.specs.Strays.{stray_by}
use Rattle.dead_ends.specs.Values.{AreWithin, stray_value}
use Rattle.plan_witness.specs.Values.{step_value}
use Rattle.task_core.specs.States.{vector}
use Rattle.task_core.specs.Tasks.{fluent_count, system_of}
use Rattle.dead_ends.proofs.strays.push_strays.Given as goal

abbrev pub invariant-loop-outcome : goal.invariant-loop-outcome
invariant-loop-outcome l = let n = fluent_count l.task in record {
  so_far : map (stray_value n) l.strays.items
      ≡ map (stray_value n) l.fn.strays.items
      ++ filter_map (stray_by (system_of l.task) (map (vector n) l.leaving.states.now) l.leaving.back l.taken.number (vector n l.taken.before.now) (step_value n l.taken.step.now)) (range_with_len 0 l.outcome);
  within : AreWithin n l.fn.strays.items → AreWithin n l.strays.items;
}
