-- The sets of states on the board of a search, and what a call leaves of them. There are eight
-- working places, of which place 5 has the guard of the rounds that are made; then, for each stage
-- and the end after the last one, the states of its context and those where it is met; then, for
-- each of these, the states that take each action; and then, for each action, the states of the rules
-- for one context and one next context. For a patrol goal the places before those of actions have the
-- states that are left, and where each visit is made.
use Rattle.std.specs.Prelude.{◌≡◌, ℕ, suc, ◌+◌, ◌*◌, ◌<◌, ◌≤◌, ◌⊎◌, List, [], ◌∷◌}
use Rattle.std.specs.Prelude.{Result, length}
use Rattle.dd_nodes.specs.Subfunctions.{Function}
use Rattle.dd_ops.specs.Operations.{and_of}
use Rattle.dd_sets.specs.LiveSets.{IsSets}
use Rattle.dd_sets.specs.declared.errors.SetErr.{SetErr}
use Rattle.encode_task.specs.Made.{MadeOf}
use Rattle.encode_task.specs.Slots.{Encoded}
use Rattle.slot_board.specs.Board as board
use Rattle.slot_board.specs.Board.{Scene}
use Rattle.slot_board.specs.declared.board.Outcomes.TheVariants as Outcomes
use Rattle.task_core.specs.Cubes.{SetOfVectors}
use Rattle.task_core.specs.Systems.{IsVector, System}
use Rattle.task_core.specs.Tasks.{action_count, fluent_count, system_of}
use Rattle.task_core.specs.Vectors.{Vector, value_of}
use Rattle.task_core.specs.declared.tasks.Task.{Task}
use Rattle.context_plan.specs.Guards.{guarded_system}

-- where work began on a task, with so many stages or visits, and a width by which sets are small; and
-- the guard of the rounds that are made
pub record Start : Type 0 where
  pub task : Task
  pub enc : Encoded
  pub made : MadeOf task enc
  pub stages : ℕ
  pub width : ℕ
  pub wide : fluent_count task + 2 ≤ width
  pub guard : SetOfVectors

-- the same with another guard
abbrev pub guarded : Start → SetOfVectors → Start
guarded start guard = record start { guard = guard }

abbrev pub sys_of : Start → System
sys_of start = system_of start.task

-- the system in which actions are taken in states of the guard alone
abbrev pub sys_in : Start → System
sys_in start = guarded_system (sys_of start) start.guard

-- the places of the states of the context of stage i, counted from 0, of those where the stage is
-- met, and the first place of those that take actions
abbrev pub win_place : ℕ → ℕ
win_place i = 8 + 2 * i

abbrev pub met_place : ℕ → ℕ
met_place i = 9 + 2 * i

abbrev pub takers_place : ℕ → ℕ → ℕ → ℕ
takers_place actions stages i = 10 + 2 * stages + i * actions

-- the first place of those for the states of rules
abbrev pub rules_place : ℕ → ℕ → ℕ
rules_place actions stages = takers_place actions stages (suc stages)

abbrev pub place_count : ℕ → ℕ → ℕ
place_count actions stages = takers_place actions stages (suc (suc stages))

-- the places that may hold rough sets
abbrev pub rough_places : List ℕ
rough_places = 2 ∷ 3 ∷ 4 ∷ []

-- so its board begins
abbrev pub board_of : Start → board.Start
board_of start = record {
  task = start.task;
  enc = start.enc;
  made = start.made;
  places = place_count (action_count start.task) start.stages;
  spare = action_count start.task + 6 * start.stages + 218;
  width = start.width;
  wide = start.wide;
  rough = rough_places;
}

-- the states of the set at a place
abbrev pub states_at : Scene → ℕ → SetOfVectors
states_at x place v = board.set_at x.0.sets x.1 place (value_of v)

-- two sets have the same states of the task
abbrev pub SameStates : Start → SetOfVectors → SetOfVectors → Type 0
SameStates start f g = (v : Vector) → IsVector (sys_of start) v → f v ≡ g v

abbrev pub IsAt : Start → Scene → Type 0
IsAt start x = board.At (board_of start) x.0 x.1

abbrev pub Left : {T : Type 0} → Start → Scene → Type 0 → Result T SetErr → Type 0
Left start x = board.Left (board_of start) x.0 x.1

abbrev pub Moved : Start → Scene → Scene → ℕ → Function → Type 0
Moved start x y = board.Moved (board_of start) x.0.sets x.1 y.0 y.1

abbrev pub HasNothing : Start → Scene → Type 0
HasNothing start x = board.HasNothing (board_of start) x.0 x.1

-- the board is the search's, and the sets are sets
pub record IsReady (start : Start) (x : Scene) : Type 0 where
  pub at : IsAt start x
  pub sound : IsSets x.0.sets

-- sets changed at working places alone
pub record Worked (start : Start) (x y : Scene) : Type 0 where
  pub ready : IsReady start y
  pub kept : (k : ℕ) → 8 ≤ k → k < length y.1 → states_at y k ≡ states_at x k

-- a place lies outside those from one up to another
abbrev pub Outside : ℕ → ℕ → ℕ → Type 0
Outside from to k = (k < from) ⊎ (to ≤ k)

-- sets changed at working places, and at those from one up to another
pub record Changed (start : Start) (x y : Scene) (from to : ℕ) : Type 0 where
  pub ready : IsReady start y
  pub kept : (k : ℕ) → 8 ≤ k → k < length y.1 → Outside from to k
      → states_at y k ≡ states_at x k

-- the same, and the states of the guard stand at its place
pub record IsGuarded (start : Start) (x : Scene) : Type 0 where
  pub at : IsAt start x
  pub sound : IsSets x.0.sets
  pub guard : SameStates start (states_at x 5) start.guard

pub record WorkedIn (start : Start) (x y : Scene) : Type 0 where
  pub ready : IsGuarded start y
  pub kept : (k : ℕ) → 8 ≤ k → k < length y.1 → states_at y k ≡ states_at x k

pub record ChangedIn (start : Start) (x y : Scene) (from to : ℕ) : Type 0 where
  pub ready : IsGuarded start y
  pub kept : (k : ℕ) → 8 ≤ k → k < length y.1 → Outside from to k
      → states_at y k ≡ states_at x k

-- where an action can be executed in the guard, and leads into the states at place 0
abbrev pub led_inside : Start → Scene → ℕ → Function
led_inside start x a =
    and_of (board.set_at x.0.sets x.1 5)
    (board.led Outcomes.Every start.task a (board.set_at x.0.sets x.1 0))
