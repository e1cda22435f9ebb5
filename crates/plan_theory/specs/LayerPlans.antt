-- The plan that is printed, by its class: which of the solutions it is. That it is one, and that
-- there is none where none is printed, is said by paths and tables alone.
use Rattle.std.specs.Prelude.{ℕ, zero, suc, Bool, false, List, map, Option, None, Some, ◌==◌}
use Rattle.std.specs.List.{find, flat_map}
use Rattle.std.specs.Option.{option_and_then}
use Rattle.task_core.specs.Vectors.{Vector}
use Rattle.task_core.specs.Systems.{System}
use Rattle.task_core.specs.Cubes.{SetOfVectors, cubes_of}
use Rattle.task_core.specs.declared.classes.Class.{Class}
use Rattle.plan_rules.specs.Rules.{PlanRule}
use Rattle.plan_theory.specs.Layers.{action_numbers, leads_by, layer, rank_within}

-- the action for a state of a rank: the least-numbered one that leads into the layer before
abbrev pub action_of_rank : Class → System → Vector → ℕ → Option ℕ
action_of_rank class sys v zero = None
action_of_rank class sys v (suc k) =
    find (leads_by class sys (layer class sys k) v) (action_numbers sys)

-- the action of a state whose rank is 1 to K; other states have none
abbrev pub chosen_action : Class → System → ℕ → Vector → Option ℕ
chosen_action class sys K v =
    option_and_then (action_of_rank class sys v) (rank_within class sys K v)

abbrev pub is_action : ℕ → Option ℕ → Bool
is_action a None = false
is_action a (Some b) = a == b

-- the states that take the action
abbrev pub takers : Class → System → ℕ → ℕ → SetOfVectors
takers class sys K a = λ v. is_action a (chosen_action class sys K v)

-- actions in rising number, and for each the cubes of the states that take it
abbrev pub rules_of_action : Class → System → ℕ → ℕ → List PlanRule
rules_of_action class sys K a =
    map (λ cube. record { cube = cube; action = a }) (cubes_of sys.fluents (takers class sys K a))

abbrev pub printed_rules : Class → System → ℕ → List PlanRule
printed_rules class sys K = flat_map (rules_of_action class sys K) (action_numbers sys)
