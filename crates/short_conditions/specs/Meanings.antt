-- What the parts of a task mean, however their conditions are built.
use Rattle.std.specs.Prelude.{◌≡◌, ℕ, Bool, true, List, Option, map}
use Rattle.std.specs.List.{list_all}
use Rattle.std.specs.Option.{option_map}
use Rattle.task_core.specs.Conditions.{holds}
use Rattle.task_core.specs.Cubes.{Cube}
use Rattle.task_core.specs.Names.{Name, name_of}
use Rattle.task_core.specs.declared.conditions.Cond.{Cond}
use Rattle.task_core.specs.declared.actions.Change.{Change}
use Rattle.task_core.specs.declared.actions.Outcome.{Outcome}
use Rattle.task_core.specs.declared.actions.GroundAction.{GroundAction}

-- where a condition holds
abbrev pub Meaning : Type 0
Meaning = (ℕ → Bool) → Bool

abbrev pub change_meaning : Change → Cube × Meaning
change_meaning change = (change.lits.items, holds change.cond)

abbrev pub outcome_meaning : Outcome → List (Cube × Meaning)
outcome_meaning outcome = map change_meaning outcome.changes.items

abbrev pub action_meaning : GroundAction → Name × Meaning × List (List (Cube × Meaning))
action_meaning action =
    (name_of action, holds action.exec, map outcome_meaning action.outcomes.items)

abbrev pub goal_meaning : Option Cond → Option Meaning
goal_meaning goal = option_map holds goal

-- Private: one part of a task means what the other does, and keeps the limits that the other keeps
pub record Replaces {X M : Type 0} (meaning : X → M) (fits : ℕ → X → Bool) (is_shallow : X → Bool) (old new : X) : Type 0 where
  pub means : meaning new ≡ meaning old
  pub within : (n : ℕ) → fits n old ≡ true → fits n new ≡ true
  pub shallow : is_shallow old ≡ true → is_shallow new ≡ true

-- Private: the same of the parts in two lists, place by place
abbrev pub ReplacesEach : {X M : Type 0} → (X → M) → (ℕ → X → Bool) → (X → Bool) → List X → List X → Type 0
ReplacesEach meaning fits is_shallow =
    Replaces (map meaning) (λ n. list_all (fits n)) (list_all is_shallow)
