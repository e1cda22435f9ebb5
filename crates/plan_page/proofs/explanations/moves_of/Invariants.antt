-- The moves so far, and those of the numbers that are left.
use Rattle.std.proofs.Common.{◌≡◌, ◌++◌, List, drop, map}
use Rattle.std.specs.Option.{option_map}
use Rattle.plan_picture.specs.Runs.{PlainMove}
use Rattle.plan_picture.specs.Values.{move_value}
use Rattle.plan_page.specs.Explanations.{moves_of}
use Rattle.plan_page.proofs.explanations.moves_of.Given as goal

abbrev pub invariant-loop-number : goal.invariant-loop-number
invariant-loop-number l =
    option_map (λ (rest : List PlainMove). map move_value l.moves.items ++ rest) (moves_of (drop l.number l.rules) (drop l.number l.outcomes))
    ≡ moves_of l.rules l.outcomes
