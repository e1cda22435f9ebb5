-- The outcomes so far were added.
use Rattle.std.proofs.Common.{◌≡◌, ◌++◌, map, drop}
use Rattle.never_executed.specs.Makers.{outcome_names, place_in, places_from}
use Rattle.never_executed.specs.Values.{maker_value}
use Rattle.never_executed.proofs.makers.push_makers.Given as goal

abbrev pub invariant-loop-outcome : goal.invariant-loop-outcome
invariant-loop-outcome l =
    map maker_value l.found.items ++ map (place_in l.id.0) (places_from (outcome_names l.lit) l.outcome (drop l.outcome l.action.outcomes.items))
    ≡ map maker_value l.fn.found.items ++ map (place_in l.id.0) (places_from (outcome_names l.lit) 0 l.action.outcomes.items)
