-- The set has the states of before and those with an alternative so far applied.
use Rattle.std.proofs.Common.{◌≡◌, ℕ, true, List, map, take}
use Rattle.std.specs.List.{fold, list_all}
use Rattle.task_core.specs.Vectors.{Vector}
use Rattle.task_core.specs.States.{IsWithin, ShowsVectors, vector}
use Rattle.task_core.specs.Initial.{add_state, applied, entry_of, lit_within}
use Rattle.initial_number.proofs.alternatives.add_alternatives.Given as goal

abbrev pub invariant-loop-alternative : goal.invariant-loop-alternative
invariant-loop-alternative l =
    (n : ℕ) (vs : List Vector) → list_all (list_all (lit_within n)) (entry_of l.entry) ≡ true → IsWithin n l.state → ShowsVectors n l.fn.made.keys vs
    → ShowsVectors n l.made.keys (fold add_state vs (map (applied n (vector n l.state)) (take l.alternative-index (entry_of l.entry))))
