use Rattle.std.proofs.Common.{◌≡◌, true, false, map, drop}
use Rattle.std.specs.List.{list_all, list_any}
use Rattle.task_core.specs.Conditions.{holds}
use Rattle.task_core.specs.Cubes.{matches}
use Rattle.task_core.specs.Vectors.{Vector, value_of}
use Rattle.controller_rules.proofs.guards.+value_in.Given as goal

abbrev pub invariant-loop-part : goal.invariant-loop-part
invariant-loop-part l = record {
  fails : (v : Vector) → list_all (λ part. part (value_of v)) (map holds (drop l.part-index l.part-items)) ≡ false → holds l.cond (value_of v) ≡ false;
  rest : l.known ≡ true → (v : Vector) → matches l.cube v ≡ true
      → list_all (λ part. part (value_of v)) (map holds (drop l.part-index l.part-items)) ≡ holds l.cond (value_of v);
}

abbrev pub invariant-loop-part-2 : goal.invariant-loop-part-2
invariant-loop-part-2 l = record {
  holds_then : (v : Vector) → list_any (λ part. part (value_of v)) (map holds (drop l.part-index l.part-items)) ≡ true → holds l.cond (value_of v) ≡ true;
  rest : l.known ≡ true → (v : Vector) → matches l.cube v ≡ true
      → list_any (λ part. part (value_of v)) (map holds (drop l.part-index l.part-items)) ≡ holds l.cond (value_of v);
}
