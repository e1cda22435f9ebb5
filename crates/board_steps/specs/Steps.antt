-- What is done on a board as a list of steps, each of which puts a set at a place, and which
-- sets stand at the places then.
use Rattle.std.specs.Prelude.{◌≡◌, ℕ, ◌<◌, ◌==◌, if◌then◌else◌, List, [], ◌∷◌, ⊤}
use Rattle.dd_nodes.specs.Subfunctions.{Function}
use Rattle.dd_ops.specs.Operations.{cofactor_of, variable}
use Rattle.dd_sets.specs.LiveSets.{IsLive, IsSets, everything, set_of}
use Rattle.dd_sets.specs.declared.slots.SetId.{SetId}
use Rattle.encode_task.specs.Slots.{Encoded}
use Rattle.task_core.specs.Tasks.{action_count, fluent_count}
use Rattle.slot_board.specs.Board.{At, Fits, LeadFits, Start, combined, led, set_at}
use Rattle.board_steps.specs.declared.steps.Step.{Step}
use Rattle.board_steps.specs.declared.steps.Step.TheVariants.{Whole, Fluent, Fix, Kept, Copy, Combine, Lead}

-- the set at each place
abbrev pub Placed : Type 0
Placed = ℕ → Function

-- the same sets, but for one place
abbrev pub with_set : Placed → ℕ → Function → Placed
with_set placed place set other = if other == place then set else placed other

-- the place that a step is about, and the set that it puts there
abbrev pub place_of : Step → ℕ
place_of (Whole k) = k
place_of (Fluent k f) = k
place_of (Fix k f value) = k
place_of (Kept k slot) = k
place_of (Copy k from) = k
place_of (Combine k operation a b) = k
place_of (Lead k outcomes action from) = k

abbrev pub set_made : Start → Placed → Step → Function
set_made start placed (Whole k) = everything
set_made start placed (Fluent k f) = variable f.0
set_made start placed (Fix k f value) = cofactor_of (placed k) f.0 value
set_made start placed (Kept k slot) = set_of start.enc.sets slot.0
set_made start placed (Copy k from) = placed from
set_made start placed (Combine k operation a b) = combined operation (placed a) (placed b)
set_made start placed (Lead k outcomes action from) =
    led outcomes start.task action.0 (placed from)

-- the sets after a step, and after steps in turn
abbrev pub after_step : Start → Placed → Step → Placed
after_step start placed step = with_set placed (place_of step) (set_made start placed step)

abbrev pub after_steps : Start → Placed → List Step → Placed
after_steps start placed [] = placed
after_steps start placed (step ∷ steps) =
    after_steps start (after_step start placed step) steps

-- a step can be made: what it speaks of is there, and the place may hold the set
abbrev pub CanMake : Start → Placed → Step → Type 0
CanMake start placed (Whole k) = k < start.places
CanMake start placed (Fluent k f) =
    (k < start.places) × (f.0 < fluent_count start.task) × Fits start k (variable f.0)
CanMake start placed (Fix k f value) =
    (k < start.places) × (f.0 < fluent_count start.task)
    × Fits start k (cofactor_of (placed k) f.0 value)
CanMake start placed (Kept k slot) =
    (k < start.places) × IsLive start.enc.sets slot.0
    × Fits start k (set_of start.enc.sets slot.0)
CanMake start placed (Copy k from) =
    (k < start.places) × (from < start.places) × Fits start k (placed from)
CanMake start placed (Combine k operation a b) =
    (k < start.places) × (a < start.places) × (b < start.places)
    × Fits start k (combined operation (placed a) (placed b))
CanMake start placed (Lead k outcomes action from) =
    (k < start.places) × (from < start.places) × (action.0 < action_count start.task)
    × LeadFits start outcomes action.0 (placed from)

-- steps can be made in turn
abbrev pub CanMakeAll : Start → Placed → List Step → Type 0
CanMakeAll start placed [] = ⊤
CanMakeAll start placed (step ∷ steps) =
    CanMake start placed step × CanMakeAll start (after_step start placed step) steps

-- the board has these sets at its places
pub record Shows (start : Start) (now : Encoded) (slots : List SetId) (placed : Placed)
    : Type 0 where
  pub at : At start now slots
  pub sound : IsSets now.sets
  pub sets : (k : ℕ) → k < start.places → set_at now.sets slots k ≡ placed k
