-- The states from which a set is met for certain, whatever the outcomes are.
use Rattle.std.specs.Prelude.{◌≡◌, ℕ, zero, suc, ◌+◌, ◌^◌, true, ◌||◌, Option, None}
use Rattle.std.specs.List.{find, range_with_len}
use Rattle.std.specs.Option.{option_and_then}
use Rattle.task_core.specs.Cubes.{SetOfVectors}
use Rattle.task_core.specs.Systems.{System, IsVector}
use Rattle.task_core.specs.Vectors.{Vector}
use Rattle.plan_theory.specs.Layers.{action_numbers, must_lead}
use Rattle.plan_theory.specs.Safe.{some_must_lead}

-- those from which it is met within k steps
abbrev pub near : System → SetOfVectors → ℕ → SetOfVectors
near sys met zero v = met v
near sys met (suc k) v = near sys met k v || some_must_lead sys (near sys met k) v

-- those from which it is met at all: no way to it is longer than there are states
abbrev pub stage_set : System → SetOfVectors → SetOfVectors
stage_set sys met = near sys met (2 ^ sys.fluents)

-- it is met from the same vectors within k steps as within one more
abbrev pub IsLastNear : System → SetOfVectors → ℕ → Type 0
IsLastNear sys met k = (v : Vector) → IsVector sys v → near sys met (suc k) v ≡ near sys met k v

-- the rank of a state: the least number of steps within which the set is met for certain
abbrev pub stage_rank : System → SetOfVectors → Vector → Option ℕ
stage_rank sys met v = find (λ k. near sys met k v) (range_with_len 0 (2 ^ sys.fluents + 1))

-- the action for a state of a rank: the least-numbered one of which every outcome is one step
-- nearer; none where the set is met
abbrev pub action_at_rank : System → SetOfVectors → Vector → ℕ → Option ℕ
action_at_rank sys met v zero = None
action_at_rank sys met v (suc k) = find (must_lead sys (near sys met k) v) (action_numbers sys)

-- the action of a state; states without a rank have none
abbrev pub stage_action : System → SetOfVectors → Vector → Option ℕ
stage_action sys met v = option_and_then (action_at_rank sys met v) (stage_rank sys met v)

-- a set with the vectors to be met and every state that has an action with all outcomes in it
pub record IsStageSet (sys : System) (met set : SetOfVectors) : Type 0 where
  pub holds_met : (v : Vector) → IsVector sys v → met v ≡ true → set v ≡ true
  pub closed : (v : Vector) → IsVector sys v → some_must_lead sys set v ≡ true → set v ≡ true

-- the least such set
pub record IsLeastStageSet (sys : System) (met set : SetOfVectors) : Type 0 where
  pub stage : IsStageSet sys met set
  pub least : (other : SetOfVectors) → IsStageSet sys met other → (v : Vector) → IsVector sys v
      → set v ≡ true → other v ≡ true
