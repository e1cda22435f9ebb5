-- The state isn't among those so far.
use Rattle.std.proofs.Common.{◌≡◌, ◌+◌, ℕ, drop, map}
use Rattle.std.specs.List.{All}
use Rattle.task_core.specs.States.{IsWithin, vector}
use Rattle.counterexamples.specs.Places.{place_in}
use Rattle.counterexamples.proofs.numbers.place_of.Given as goal

abbrev pub invariant-loop-place : goal.invariant-loop-place
invariant-loop-place l = (n : ℕ) → All (IsWithin n) l.states → IsWithin n l.state
    → l.place + place_in (map (vector n) (drop l.place l.states)) (vector n l.state) ≡ place_in (map (vector n) l.states) (vector n l.state)
