-- Private: where a search began, what stands on its board, and what a list of steps leaves there.
-- Every set is small by the width of the search, so that sizes play no part.
use Rattle.std.specs.Prelude.{◌≡◌, ℕ, ◌+◌, ◌^◌, ◌<◌, ◌≤◌, List, [], ◌∷◌, Result, ⊤}
use Rattle.dd_nodes.specs.Subfunctions.{Function}
use Rattle.dd_sets.specs.LiveSets.{IsLive, IsSets}
use Rattle.dd_sets.specs.declared.errors.SetErr.{SetErr}
use Rattle.slot_board.specs.Board as board
use Rattle.slot_board.specs.Board.{Scene}
use Rattle.board_steps.specs.Steps.{after_steps}
use Rattle.board_steps.specs.declared.steps.Step.{Step}
use Rattle.board_steps.specs.declared.steps.Step.TheVariants.{Whole, Fluent, Fix, Kept, Copy, Combine, Lead}
use Rattle.task_core.specs.Cubes.{SetOfVectors}
use Rattle.task_core.specs.Systems.{System}
use Rattle.task_core.specs.Tasks.{action_count, fluent_count, system_of}
use Rattle.task_core.specs.Vectors.{value_of}
use Rattle.fair_plan.specs.Places.{place_count}

-- where a search began, for so many stages or visits
pub record Origin : Type 0 where
  pub start : board.Start
  pub widest : start.width ≡ 2 ^ fluent_count start.task + 1
  pub spare : 196 ≤ start.spare
  pub count : ℕ
  pub places : start.places ≡ place_count (action_count start.task) count

abbrev pub sys_of : Origin → System
sys_of origin = system_of origin.start.task

-- how many actions there are
abbrev pub actions_of : Origin → ℕ
actions_of origin = action_count origin.start.task

-- the set at a place, and its states
abbrev pub set_in : Scene → ℕ → Function
set_in x k = board.set_at x.0.sets x.1 k

abbrev pub states_in : Scene → ℕ → SetOfVectors
states_in x k v = set_in x k (value_of v)

-- the board is the search's, and the sets are sets
pub record IsThere (origin : Origin) (x : Scene) : Type 0 where
  pub at : board.At origin.start x.0 x.1
  pub sound : IsSets x.0.sets

-- what a call leaves: the board, and a fact
abbrev pub Leaves : {T : Type 0} → Origin → Scene → Type 0 → Result T SetErr → Type 0
Leaves origin y Fact = board.Left origin.start y.0 y.1 (IsThere origin y × Fact)

-- the places and the action of a step are there
abbrev pub IsStepOf : Origin → Step → Type 0
IsStepOf origin (Whole k) = k < origin.start.places
IsStepOf origin (Fluent k f) =
    (k < origin.start.places) × (f.0 < fluent_count origin.start.task)
IsStepOf origin (Fix k f value) =
    (k < origin.start.places) × (f.0 < fluent_count origin.start.task)
IsStepOf origin (Kept k slot) =
    (k < origin.start.places) × IsLive origin.start.enc.sets slot.0
IsStepOf origin (Copy k from) = (k < origin.start.places) × (from < origin.start.places)
IsStepOf origin (Combine k operation a b) =
    (k < origin.start.places) × (a < origin.start.places) × (b < origin.start.places)
IsStepOf origin (Lead k outcomes action from) =
    (k < origin.start.places) × (from < origin.start.places) × (action.0 < actions_of origin)

abbrev pub AreStepsOf : Origin → List Step → Type 0
AreStepsOf origin [] = ⊤
AreStepsOf origin (step ∷ steps) = IsStepOf origin step × AreStepsOf origin steps

-- the steps were made
abbrev pub IsAfter : Origin → Scene → Scene → List Step → Type 0
IsAfter origin x y steps =
    (k : ℕ) → k < origin.start.places
    → set_in y k ≡ after_steps origin.start (set_in x) steps k

-- one place has another set, and the others have theirs
pub record Puts (origin : Origin) (x y : Scene) (place : ℕ) (set : Function) : Type 0 where
  pub here : set_in y place ≡ set
  pub others : (k : ℕ) → k < origin.start.places → (k ≡ place → ⊥) → set_in y k ≡ set_in x k
