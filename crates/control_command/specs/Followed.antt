-- Private: what the search for a controller rests on: that the slots which it asks hold sets, and
-- that it steps from states of the task alone.
use Rattle.std.specs.Prelude.{◌≡◌, ℕ, ◌<◌, List, All, length}
use Rattle.context_plan.specs.Scenes.{Start}
use Rattle.context_plan.specs.Sizes.{EverySetIsSmall}
use Rattle.context_plan.specs.Tables.{HasTable}
use Rattle.dd_sets.specs.LiveSets.{IsLive, LiveSets}
use Rattle.dd_sets.specs.declared.slots.SetId.{SetId}
use Rattle.encode_task.specs.Slots.{Encoded}
use Rattle.plan_theory.specs.UntilChains.{UntilSets}
use Rattle.slot_board.specs.Board.{slot_at}
use Rattle.task_core.specs.States.{IsWithin}
use Rattle.task_core.specs.declared.tasks.Task.{Task}
use Rattle.control_command.specs.declared.followed.Place.{Place}

-- each of these slots holds a set
abbrev pub AreSlotsLive : LiveSets → List SetId → Type 0
AreSlotsLive sets slots = (i : ℕ) → i < length slots → IsLive sets (slot_at slots i)

-- no state of these configurations has a true fluent from n on
abbrev pub AreReachedWithin : ℕ → List Place → Type 0
AreReachedWithin n places = All (λ place. IsWithin n place.state) places

-- the board of a search for so many stages has the sets of a plan with contexts for the task. Its
-- width is one by which every set is small, as it takes as many sets more as there are actions
pub record IsTableThere (task : Task) (now : Encoded) (slots : List SetId) (stages : ℕ) : Type 0 where
  pub start : Start
  pub chain : UntilSets
  pub of_task : start.task ≡ task
  pub count : start.stages ≡ stages
  pub table : HasTable start (now, slots) chain
  pub small : EverySetIsSmall start
