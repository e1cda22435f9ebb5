-- The most outcomes of one action of a task, by the numbers of its actions and by their list.
use Rattle.std.proofs.Common.{◌≡◌, ℕ, ◌+◌, suc, List, [], ◌∷◌, map, length, Some, refl, ◌∙◌, ap, arith, slice_get}
use Rattle.std.specs.List.{range_with_len}
use Rattle.std.specs.Option.{option_map_or}
use Rattle.task_core.specs.Conditions.{greatest}
use Rattle.task_core.specs.Systems.{most_outcomes}
use Rattle.task_core.specs.Tasks.{outcomes_at, system_of}
use Rattle.task_core.specs.declared.actions.GroundAction.{GroundAction}
use Rattle.task_core.specs.declared.tasks.Task.{Task}
use Rattle.list_laws.proofs.Elements.{map-range}

-- a list of values, by the numbers of its elements

pub most_of_list : (task : Task) → most_outcomes (system_of task) ≡ greatest (map (λ (action : GroundAction). length action.outcomes.items) task.actions.items)
most_of_list task =
    ap greatest
    (map-range (λ a. length (outcomes_at task a)) (λ (action : GroundAction). length action.outcomes.items) task.actions.items 0
    (λ k action is. ap length (ap (λ a. outcomes_at task a) (omega arith) ∙ ap (λ found. option_map_or (λ (action : GroundAction). action.outcomes.items) found []) is)))
