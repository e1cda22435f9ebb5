-- The parts so far are in the accumulator; the rest name fluents of the table.
use Rattle.std.proofs.Common.{◌≡◌, true, [], ◌∷◌, drop, map, take}
use Rattle.std.specs.List.{list_all}
use Rattle.dd_sets.specs.Frames.{Owns}
use Rattle.task_core.specs.Conditions.{ids_below}
use Rattle.encode_task.proofs.PartLemmas.{all_hold, some_hold}
use Rattle.encode_task.proofs.conditions.+one_by_one.Given as goal

abbrev pub invariant-loop-part : goal.invariant-loop-part
invariant-loop-part l = record {
  owns : Owns l.fn.sets l.sets ((l.all.0, all_hold (take l.part-index l.part-items)) ∷ []);
  below : list_all (λ part. part) (map (ids_below l.sets.vars) (drop l.part-index l.part-items)) ≡ true;
}

abbrev pub invariant-loop-part-2 : goal.invariant-loop-part-2
invariant-loop-part-2 l = record {
  owns : Owns l.fn.sets l.sets ((l.any.0, some_hold (take l.part-index l.part-items)) ∷ []);
  below : list_all (λ part. part) (map (ids_below l.sets.vars) (drop l.part-index l.part-items)) ≡ true;
}
