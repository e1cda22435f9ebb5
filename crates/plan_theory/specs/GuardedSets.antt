-- The states from which a set is met for certain, whatever the outcomes are, in states of a guard
-- until then.
use Rattle.std.specs.Prelude.{◌≡◌, ℕ, zero, suc, ◌+◌, ◌^◌, true, ◌||◌, ◌&&◌, Option, None}
use Rattle.std.specs.List.{find, range_with_len}
use Rattle.std.specs.Option.{option_and_then}
use Rattle.task_core.specs.Cubes.{SetOfVectors}
use Rattle.task_core.specs.Systems.{System, IsVector}
use Rattle.task_core.specs.Vectors.{Vector}
use Rattle.plan_theory.specs.Layers.{action_numbers, must_lead}
use Rattle.plan_theory.specs.Safe.{some_must_lead}

-- the guard that asks for nothing
abbrev pub anywhere : SetOfVectors
anywhere v = true

-- those from which it is met within k steps
abbrev pub guarded_near : System → SetOfVectors → SetOfVectors → ℕ → SetOfVectors
guarded_near sys guard met zero v = met v
guarded_near sys guard met (suc k) v =
    guarded_near sys guard met k v
    || (guard v && some_must_lead sys (guarded_near sys guard met k) v)

-- those from which it is met at all: no way to it is longer than there are states
abbrev pub guarded_set : System → SetOfVectors → SetOfVectors → SetOfVectors
guarded_set sys guard met = guarded_near sys guard met (2 ^ sys.fluents)

-- it is met from the same vectors within k steps as within one more
abbrev pub IsLastGuarded : System → SetOfVectors → SetOfVectors → ℕ → Type 0
IsLastGuarded sys guard met k =
    (v : Vector) → IsVector sys v
    → guarded_near sys guard met (suc k) v ≡ guarded_near sys guard met k v

-- the rank of a state: the least number of steps within which the set is met for certain
abbrev pub guarded_rank : System → SetOfVectors → SetOfVectors → Vector → Option ℕ
guarded_rank sys guard met v =
    find (λ k. guarded_near sys guard met k v) (range_with_len 0 (2 ^ sys.fluents + 1))

-- the action for a state of a rank: the least-numbered one of which every outcome has a lower rank;
-- none where the set is met
abbrev pub action_at_guarded_rank : System → SetOfVectors → SetOfVectors → Vector → ℕ → Option ℕ
action_at_guarded_rank sys guard met v zero = None
action_at_guarded_rank sys guard met v (suc k) =
    find (must_lead sys (guarded_near sys guard met k) v) (action_numbers sys)

-- the action of a state; states without a rank have none
abbrev pub guarded_action : System → SetOfVectors → SetOfVectors → Vector → Option ℕ
guarded_action sys guard met v =
    option_and_then (action_at_guarded_rank sys guard met v) (guarded_rank sys guard met v)

-- a set with the vectors to be met, and with every state of the guard that has an action with all
-- outcomes in the set
pub record IsGuardedSet (sys : System) (guard met set : SetOfVectors) : Type 0 where
  pub holds_met : (v : Vector) → IsVector sys v → met v ≡ true → set v ≡ true
  pub closed : (v : Vector) → IsVector sys v → guard v ≡ true → some_must_lead sys set v ≡ true
      → set v ≡ true

-- the least such set
pub record IsLeastGuardedSet (sys : System) (guard met set : SetOfVectors) : Type 0 where
  pub guarded : IsGuardedSet sys guard met set
  pub least : (other : SetOfVectors) → IsGuardedSet sys guard met other → (v : Vector)
      → IsVector sys v → set v ≡ true → other v ≡ true
