-- The least set of literals that has all of the initial states and loses none.
use Rattle.std.specs.Prelude.{◌≡◌, ℕ, Bool, true, ◌&&◌, ◌||◌}
use Rattle.std.specs.List.{list_any}
use Rattle.task_core.specs.Initial.{entries_of, names_it}
use Rattle.task_core.specs.States.{truth}
use Rattle.task_core.specs.Vectors.{same_value}
use Rattle.task_core.specs.declared.actions.Change.{Change}
use Rattle.task_core.specs.declared.actions.GroundAction.{GroundAction}
use Rattle.task_core.specs.declared.actions.InitSpec.{InitSpec}
use Rattle.task_core.specs.declared.actions.Outcome.{Outcome}
use Rattle.task_core.specs.declared.tasks.Task.{Task}
use Rattle.relaxed_reach.specs.Literals.{LiteralSet, can_be}

-- the literals of the facts, and those of all alternatives of the uncertain entries
abbrev pub starts : InitSpec → LiteralSet
starts init f value =
    same_value (truth init.facts f) value
    || list_any (list_any (names_it value f)) (entries_of init)

-- whether a change, an outcome, an action, a task makes a literal true where the literals of the set
-- can be true
abbrev pub change_gives : LiteralSet → ℕ → Bool → Change → Bool
change_gives set f value change = names_it value f change.lits.items && can_be change.cond set true

abbrev pub outcome_gives : LiteralSet → ℕ → Bool → Outcome → Bool
outcome_gives set f value outcome = list_any (change_gives set f value) outcome.changes.items

abbrev pub action_gives : LiteralSet → ℕ → Bool → GroundAction → Bool
action_gives set f value action =
    can_be action.exec set true && list_any (outcome_gives set f value) action.outcomes.items

abbrev pub task_gives : Task → LiteralSet → ℕ → Bool → Bool
task_gives task set f value = list_any (action_gives set f value) task.actions.items

-- the literals of the one set are in the other
abbrev pub IsPartOf : LiteralSet → LiteralSet → Type 0
IsPartOf set other = (f : ℕ) (value : Bool) → set f value ≡ true → other f value ≡ true

-- the set has the literals with which the task starts, and what its actions give is in it
pub record IsRelaxed (task : Task) (set : LiteralSet) : Type 0 where
  pub starts : IsPartOf (starts task.init) set
  pub closed : IsPartOf (task_gives task set) set

-- it is the least of these sets
pub record IsLeastRelaxed (task : Task) (set : LiteralSet) : Type 0 where
  pub relaxed : IsRelaxed task set
  pub least : (other : LiteralSet) → IsRelaxed task other → IsPartOf set other
