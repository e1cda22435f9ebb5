-- Private: how many fluents the outcomes leave alone.
use Rattle.std.specs.Prelude.{◌≡◌, ℕ, zero, suc, ◌+◌, ◌<◌, Bool, true, not, cond, List, [], ◌∷◌, is_some}
use Rattle.std.specs.List.{list_any}
use Rattle.dd_nodes.specs.Subfunctions.{Function}
use Rattle.dd_ops.specs.Operations.{variable}
use Rattle.task_core.specs.declared.literals.FluentId.{FluentId}
use Rattle.dd_sets.specs.LiveSets.{listed_set}
use Rattle.dd_sets.specs.declared.slots.SetId.{SetId}
use Rattle.encode_task.specs.Slots.{ActionSlots}

-- how many numbers below n pass a test
abbrev pub count_below : (ℕ → Bool) → ℕ → ℕ
count_below test zero = 0
count_below test (suc n) = cond (test n) 1 0 + count_below test n

-- whether an outcome that lists these fluents leaves fluent f alone, whether some outcome of an
-- action does, and whether some outcome of some action does
abbrev pub leaves : ℕ → List (FluentId × SetId) → Bool
leaves f changed = not (is_some (listed_set changed f))

abbrev pub action_leaves : ℕ → ActionSlots → Bool
action_leaves f action = list_any (leaves f) action.outcomes

abbrev pub some_leaves : List ActionSlots → ℕ → Bool
some_leaves actions f = list_any (action_leaves f) actions

-- the set is where one of the first n fluents is true that some outcome leaves alone
abbrev pub IsLeftAlone : ℕ → List ActionSlots → Function → Type 0
IsLeftAlone n actions set =
    (f : ℕ) × (f < n) × (some_leaves actions f ≡ true) × (set ≡ variable f)

-- how many of the first n fluents an outcome leaves alone, and these numbers added up for the
-- outcomes of an action, and for those of all actions
abbrev pub left_by : ℕ → List (FluentId × SetId) → ℕ
left_by n changed = count_below (λ f. leaves f changed) n

abbrev pub left_in_outcomes : ℕ → List (List (FluentId × SetId)) → ℕ
left_in_outcomes n [] = 0
left_in_outcomes n (changed ∷ outcomes) = left_by n changed + left_in_outcomes n outcomes

abbrev pub left_in_actions : ℕ → List ActionSlots → ℕ
left_in_actions n [] = 0
left_in_actions n (action ∷ actions) =
    left_in_outcomes n action.outcomes + left_in_actions n actions
