-- What the tests of an action say.
use Rattle.std.proofs.Common.{◌≡◌, ℕ, ◌≤◌, ◌<◌, ◌^◌, ◌&&◌, true, ltb, length}
use Rattle.std.specs.List.{list_all}
use Rattle.std.proofs.lemmas.Bool.{and_parts, leb-true, ltb-true}
use Rattle.task_core.specs.Actions.{action_is_shallow, action_within, outcome_is_shallow, outcome_within}
use Rattle.task_core.specs.Conditions.{depth, ids_below, is_shallow}
use Rattle.task_core.specs.declared.actions.GroundAction.{GroundAction}

pub exec_shallow : (action : GroundAction) → action_is_shallow action ≡ true → depth action.exec ≤ 200
exec_shallow action shallow =
    leb-true (depth action.exec) 200
    ((and_parts (is_shallow action.exec) (list_all outcome_is_shallow action.outcomes.items) shallow).0)

pub few_outcomes : (n : ℕ) (action : GroundAction) → action_within n action ≡ true → length action.outcomes.items < 2 ^ 32
few_outcomes n action within =
    ltb-true (length action.outcomes.items) (2 ^ 32)
    ((and_parts ((ids_below n action.exec && list_all (outcome_within n) action.outcomes.items) && ltb 0 (length action.outcomes.items)) (ltb (length action.outcomes.items) (2 ^ 32)) within).1)
