-- The place is looked for among those that are left.
use Rattle.std.proofs.Common.{◌≡◌, ℕ, drop}
use Rattle.task_core.specs.States.{IsWithin}
use Rattle.exec_graph.specs.Moves.{configuration_of}
use Rattle.plan_picture.specs.Places.{AreWithin, configurations_of, place_from}
use Rattle.plan_picture.proofs.places.number_of.Given as goal

abbrev pub invariant-loop-number : goal.invariant-loop-number
invariant-loop-number l = (n : ℕ) → AreWithin n l.places → IsWithin n l.wanted.state
    → place_from l.number (configurations_of n (drop l.number l.places)) (configuration_of n l.wanted)
    ≡ place_from 0 (configurations_of n l.places) (configuration_of n l.wanted)
