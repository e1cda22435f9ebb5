-- Private: what an outcome leaves, and where all outcomes are on one side of a set.
use Rattle.std.specs.Prelude.{ℕ, not, ◌&&◌, [], ◌∷◌, Result}
use Rattle.dd_nodes.specs.Subfunctions.{Function}
use Rattle.dd_ops.specs.Operations.{and_of, minus_of}
use Rattle.task_core.specs.declared.tasks.Task.{Task}
use Rattle.dd_sets.specs.Frames.{Owns, OwnsAnswer}
use Rattle.dd_sets.specs.LiveSets.{LiveSets}
use Rattle.dd_sets.specs.Rooms.{Rough, Small}
use Rattle.dd_sets.specs.declared.errors.SetErr.{SetErr}
use Rattle.dd_sets.specs.declared.slots.SetId.{SetId}
use Rattle.encode_task.specs.TaskSets.{exec_set}
use Rattle.preimage.specs.Preimages.{some_outcome_in, strong_preimage}
use Rattle.preimage.specs.WorkingSets.{PreimageFits, first_every, first_some}
use Rattle.preimage.specs.declared.slots.Side.{Side}
use Rattle.preimage.specs.declared.slots.Side.TheVariants.{Inside, Outside}

-- what an outcome leads to states on the other side of a set, by what it leads to states and what it
-- leads into the set
abbrev pub off_side : Side → Function → Function → Function
off_side Inside lands led = minus_of lands led
off_side Outside lands led = and_of led lands

-- what of a set an outcome leads to no state, or to one on this side
abbrev pub on_side : Side → Function → Function → Function → Function
on_side side lands rest led = minus_of rest (off_side side lands led)

-- where the action can be executed, and no outcome leads to a state in a set
abbrev pub none_into : Task → ℕ → Function → Function
none_into task a set values = exec_set task a values && not (some_outcome_in task a set values)

-- where it can be executed, and all outcomes that lead to states are on one side of the set
abbrev pub all_outcomes_on : Side → Task → ℕ → Function → Function
all_outcomes_on Inside = strong_preimage
all_outcomes_on Outside = none_into

-- the sets that are made on a side of a set are small
abbrev pub SideFits : ℕ → Side → Task → ℕ → Function → Type 0
SideFits width Inside task a set = PreimageFits width task a first_every set
SideFits width Outside task a set = PreimageFits width task a first_some set

-- what an outcome leads into a set is small, and what is made of it and of the rest is rough
pub record PartFits (vars width : ℕ) (side : Side) (lands f g : Function) : Type 0 where
  pub rest : Rough vars width f
  pub led : Small vars width g
  pub other : Rough vars width (off_side side lands g)
  pub left : Rough vars width (on_side side lands f g)

-- a slot is a caller's, and a call after it answered this
abbrev pub AreOwned : LiveSets → SetId → Result SetId SetErr → Type 0
AreOwned sets a b =
    (before : LiveSets) × (now : LiveSets) × (f : Function) × (g : Function)
    × Owns before now ((a.0, f) ∷ []) × OwnsAnswer now sets g b
