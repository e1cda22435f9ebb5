-- The set has the states that the states so far give.
use Rattle.std.proofs.Common.{◌≡◌, ℕ, ◌≤◌, true, List, [], map, length, take}
use Rattle.std.specs.List.{flat_map, fold}
use Rattle.task_core.specs.Vectors.{Vector}
use Rattle.task_core.specs.States.{ShowsVectors}
use Rattle.task_core.specs.Initial.{add_state, applied, entry_of, entry_within}
use Rattle.task_core.proofs.initial.states_after.Given as goal

abbrev pub invariant-loop-state : goal.invariant-loop-state
invariant-loop-state l = record {
  few : length l.found.keys ≤ l.limit;
  shown : (n : ℕ) (vs : List Vector) → entry_within n (entry_of l.entry) ≡ true → ShowsVectors n l.states vs
      → ShowsVectors n l.found.keys (fold add_state [] (flat_map (λ v. map (applied n v) (entry_of l.entry)) (take l.state-index vs)));
}
