-- The outcomes that would make a literal true.
use Rattle.std.specs.Prelude.{ℕ, suc, Bool, true, List, [], ◌∷◌, ◌++◌, map, if◌then◌else◌, slice_get}
use Rattle.std.specs.List.{flat_map, list_any}
use Rattle.std.specs.Option.{option_map_or}
use Rattle.task_core.specs.Initial.{names_it}
use Rattle.task_core.specs.declared.actions.Change.{Change}
use Rattle.task_core.specs.declared.actions.GroundAction.{GroundAction}
use Rattle.task_core.specs.declared.actions.Outcome.{Outcome}
use Rattle.task_core.specs.declared.conditions.Cond.{Cond}
use Rattle.task_core.specs.declared.literals.Lit.{Lit}
use Rattle.task_core.specs.declared.tasks.Task.{Task}
use Rattle.relaxed_reach.specs.Literals.{LiteralSet, can_be}
use Rattle.never_executed.specs.Blocked.{blocked}

-- an outcome of an action, by their numbers
pub record MakerPlace : Type 0 where
  pub action : ℕ
  pub outcome : ℕ

-- whether a change, and an outcome, names the literal
abbrev pub change_names : Lit → Change → Bool
change_names lit change = names_it lit.positive lit.fluent.0 change.lits.items

abbrev pub outcome_names : Lit → Outcome → Bool
outcome_names lit outcome = list_any (change_names lit) outcome.changes.items

-- the numbers, from the first one on, of the elements that pass
abbrev pub places_from : {X : Type 0} → (X → Bool) → ℕ → List X → List ℕ
places_from passes first [] = []
places_from passes first (x ∷ xs) =
    if passes x then first ∷ places_from passes (suc first) xs else places_from passes (suc first) xs

-- an outcome of the action with this number
abbrev pub place_in : ℕ → ℕ → MakerPlace
place_in action outcome = record { action = action; outcome = outcome }

-- the outcomes of actions, the first of which has this number, that name the literal
abbrev pub makers_from : Lit → ℕ → List GroundAction → List MakerPlace
makers_from lit first [] = []
makers_from lit first (action ∷ actions) =
    map (place_in first) (places_from (outcome_names lit) 0 action.outcomes.items)
    ++ makers_from lit (suc first) actions

-- all outcomes of the task that name the literal, in order
abbrev pub makers : Task → Lit → List MakerPlace
makers task lit = makers_from lit 0 task.actions.items

-- what a change lacks to make the literal true, if it names it
abbrev pub change_lacks : LiteralSet → Lit → Change → List Cond
change_lacks set lit change = if change_names lit change then blocked set change.cond else []

-- what an outcome of an action lacks to make the literal true: the parts of the precondition that
-- never hold; where it can hold, those of the conditions of the changes that name the literal
abbrev pub lacks_in : LiteralSet → Lit → GroundAction → Outcome → List Cond
lacks_in set lit action outcome =
    if can_be action.exec set true
    then flat_map (change_lacks set lit) outcome.changes.items else blocked set action.exec

abbrev pub lacks : Task → LiteralSet → Lit → MakerPlace → List Cond
lacks task set lit place =
    option_map_or (λ action. option_map_or (λ outcome. lacks_in set lit action outcome)
    (slice_get action.outcomes.items place.outcome) []) (slice_get task.actions.items place.action) []
