-- The states in which one can stay for ever.
use Rattle.std.specs.Prelude.{◌≡◌, ℕ, zero, suc, ◌^◌, Bool, true, ◌&&◌, Option}
use Rattle.std.specs.List.{find, list_any}
use Rattle.task_core.specs.Cubes.{SetOfVectors}
use Rattle.task_core.specs.Systems.{System, IsVector}
use Rattle.task_core.specs.Vectors.{Vector}
use Rattle.plan_theory.specs.Layers.{action_numbers, must_lead}

-- whether some action can be executed and has every outcome in the set
abbrev pub some_must_lead : System → SetOfVectors → Vector → Bool
some_must_lead sys set v = list_any (must_lead sys set v) (action_numbers sys)

-- the states of a set from which one can stay in it for k steps
abbrev pub safe_round : System → SetOfVectors → ℕ → SetOfVectors
safe_round sys keep zero v = keep v
safe_round sys keep (suc k) v =
    safe_round sys keep k v && some_must_lead sys (safe_round sys keep k) v

-- those from which one can stay in it for ever: what is left after as many rounds as there are
-- states
abbrev pub safe_set : System → SetOfVectors → SetOfVectors
safe_set sys keep = safe_round sys keep (2 ^ sys.fluents)

-- so many rounds leave the same vectors as one more
abbrev pub IsLastSafeRound : System → SetOfVectors → ℕ → Type 0
IsLastSafeRound sys keep k = (v : Vector) → IsVector sys v
    → safe_round sys keep (suc k) v ≡ safe_round sys keep k v

-- the action to stay there: the least-numbered one that has every outcome in the set
abbrev pub safe_action : System → SetOfVectors → Vector → Option ℕ
safe_action sys keep v = find (must_lead sys (safe_set sys keep) v) (action_numbers sys)

-- a part of a set of which each state has an action with every outcome in that part
pub record IsSafeSet (sys : System) (keep set : SetOfVectors) : Type 0 where
  pub inside : (v : Vector) → IsVector sys v → set v ≡ true → keep v ≡ true
  pub stays : (v : Vector) → IsVector sys v → set v ≡ true → some_must_lead sys set v ≡ true

-- the largest such part
pub record IsLargestSafeSet (sys : System) (keep set : SetOfVectors) : Type 0 where
  pub safe : IsSafeSet sys keep set
  pub largest : (other : SetOfVectors) → IsSafeSet sys keep other → (v : Vector) → IsVector sys v
      → other v ≡ true → set v ≡ true
