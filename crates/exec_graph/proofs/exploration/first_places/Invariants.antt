-- The places of the states so far.
use Rattle.std.proofs.Common.{◌≡◌, ℕ, [], map, take}
use Rattle.std.specs.List.{All, fold}
use Rattle.task_core.specs.States.{IsWithin}
use Rattle.exec_graph.specs.Counting.{add_configuration}
use Rattle.exec_graph.specs.Drafts.{beginnings}
use Rattle.exec_graph.specs.Moves.{IsPlaceWithin, configuration_of}
use Rattle.exec_graph.proofs.exploration.first_places.Given as goal

abbrev pub invariant-loop-state : goal.invariant-loop-state
invariant-loop-state l = record {
  list : (n : ℕ) → All (IsWithin n) l.states
      → map (configuration_of n) l.places.keys ≡ fold add_configuration [] (beginnings n (take l.state-index l.states));
  within : (n : ℕ) → All (IsWithin n) l.states → All (IsPlaceWithin n) l.places.keys;
}
