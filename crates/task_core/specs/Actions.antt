-- What an outcome does to the values of the fluents, and when the parts of a task name its fluents
-- alone.
use Rattle.std.specs.Prelude.{ℕ, ◌^◌, Bool, true, false, ◌&&◌, if◌then◌else◌, nat_lt, map}
use Rattle.std.specs.Prelude.{length, Option, Some, None}
use Rattle.std.specs.List.{list_all, list_any, range_with_len}
use Rattle.task_core.specs.Vectors.{Vector, value_of}
use Rattle.task_core.specs.Conditions.{holds, ids_below, is_shallow}
use Rattle.task_core.specs.Initial.{lit_within, names_it}
use Rattle.task_core.specs.declared.literals.Lit.{Lit}
use Rattle.task_core.specs.declared.conditions.Cond.{Cond}
use Rattle.task_core.specs.declared.actions.Change.{Change}
use Rattle.task_core.specs.declared.actions.Outcome.{Outcome}
use Rattle.task_core.specs.declared.actions.GroundAction.{GroundAction}

-- whether a change, its condition read at these values, makes fluent f true (positive) or false
-- (not positive)
abbrev pub change_makes : Bool → (ℕ → Bool) → ℕ → Change → Bool
change_makes positive value f c = names_it positive f c.lits.items && holds c.cond value

-- whether some change of the outcome adds fluent f; whether some change deletes it
abbrev pub adds : Outcome → (ℕ → Bool) → ℕ → Bool
adds o value f = list_any (change_makes true value f) o.changes.items

abbrev pub deletes : Outcome → (ℕ → Bool) → ℕ → Bool
deletes o value f = list_any (change_makes false value f) o.changes.items

-- the value of fluent f after the outcome: true where it is added, else false where it is deleted,
-- else as before
abbrev pub after_value : Outcome → (ℕ → Bool) → ℕ → Bool
after_value o value f =
    if adds o value f then true else if deletes o value f then false else value f

-- the state after the outcome, over n fluents
abbrev pub after : ℕ → Outcome → Vector → Vector
after n o v = map (after_value o (value_of v)) (range_with_len 0 n)

-- whether every fluent that an outcome names is below n, those of its conditions too
abbrev pub change_within : ℕ → Change → Bool
change_within n c = ids_below n c.cond && list_all (lit_within n) c.lits.items

abbrev pub outcome_within : ℕ → Outcome → Bool
outcome_within n o = list_all (change_within n) o.changes.items

-- whether every fluent that an action names is below n, and it has at least one and fewer than 2^32
-- outcomes
abbrev pub action_within : ℕ → GroundAction → Bool
action_within n a =
    ids_below n a.exec
    && list_all (outcome_within n) a.outcomes.items
    && nat_lt 0 (length a.outcomes.items)
    && nat_lt (length a.outcomes.items) (2 ^ 32)

-- whether every fluent that a goal names is below n, where there is a goal
abbrev pub goal_within : ℕ → Option Cond → Bool
goal_within n None = true
goal_within n (Some goal) = ids_below n goal

-- whether every condition of an action, or of a goal where there is one, is at most 200 deep
abbrev pub change_is_shallow : Change → Bool
change_is_shallow c = is_shallow c.cond

abbrev pub outcome_is_shallow : Outcome → Bool
outcome_is_shallow o = list_all change_is_shallow o.changes.items

abbrev pub action_is_shallow : GroundAction → Bool
action_is_shallow a = is_shallow a.exec && list_all outcome_is_shallow a.outcomes.items

abbrev pub goal_is_shallow : Option Cond → Bool
goal_is_shallow None = true
goal_is_shallow (Some goal) = is_shallow goal
