-- Patrol goals: some conditions are each to come about again and again. A patrol goal is
--   (ag (af p)), or
--   (ag (and (af p1) .. (af pm))) with m at least 1.
-- The p are without operators.
use Rattle.std.specs.Prelude.{List, [], ◌∷◌, Option, None, Some, map}
use Rattle.std.specs.Option.{option_map}
use Rattle.ctl_syntax.specs.Goals.{CtlTree, CtlTrees, plain, all, af, ag, no_goal, goal_then}
use Rattle.ctl_syntax.specs.Goals.{goal_row}

-- the propositions of a row of one `(af p)` or more
abbrev pub visits_of : {P : Type 0} → CtlTrees P → Option (List P)
visits_of (goal_then (af (plain p)) no_goal) = Some (p ∷ [])
visits_of (goal_then (af (plain p)) gs) = option_map (λ ps. p ∷ ps) (visits_of gs)
visits_of _ = None

-- the propositions of a goal, where it is a patrol goal
abbrev pub patrol_of : {P : Type 0} → CtlTree P → Option (List P)
patrol_of (ag (af (plain p))) = Some (p ∷ [])
patrol_of (ag (all gs)) = visits_of gs
patrol_of _ = None

-- the goal that each of the propositions comes about again and again
abbrev pub patrol_tree : {P : Type 0} → List P → CtlTree P
patrol_tree ps = ag (all (goal_row (map (λ p. af (plain p)) ps)))
