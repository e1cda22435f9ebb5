-- Patrol goals as sets: each of some sets is to be met again and again. And the states from which
-- that can be had: a largest set from each state of which each of the sets is met at last within the
-- largest set, so a greatest set over least ones.
use Rattle.std.specs.Prelude.{◌≡◌, ℕ, zero, suc, ◌^◌, Bool, true, ◌&&◌, List}
use Rattle.std.specs.List.{Contains, list_all}
pub use Rattle.ctl_syntax.specs.Patrols.{patrol_tree}
use Rattle.ctl_syntax.specs.Truth.{Satisfies}
use Rattle.task_core.specs.ContextPlans.{Configuration, ContextPlan, Follows}
use Rattle.task_core.specs.Cubes.{SetOfVectors}
use Rattle.task_core.specs.Systems.{System, IsVector}
use Rattle.task_core.specs.Vectors.{Vector}
use Rattle.plan_theory.specs.GuardedSets.{guarded_near, guarded_set}
use Rattle.plan_theory.specs.Safe.{some_must_lead}
use Rattle.plan_theory.specs.UntilChains.{StateIsIn}

-- each of the sets is met again and again from a configuration on, along the paths of the plan
abbrev pub HasPatrol : System → ContextPlan → List SetOfVectors → Configuration → Type 0
HasPatrol sys plan visits = Satisfies (Follows sys plan) StateIsIn (patrol_tree visits)

-- the states of a set in which a visit is made, and from which some action stays in the set
abbrev pub visited : System → SetOfVectors → SetOfVectors → SetOfVectors
visited sys set visit v = set v && (visit v && some_must_lead sys set v)

-- the states of a set from which such a state is met within k steps in the set
abbrev pub visit_near : System → SetOfVectors → SetOfVectors → ℕ → SetOfVectors
visit_near sys set visit = guarded_near sys set (visited sys set visit)

-- those from which it is met at all
abbrev pub visit_set : System → SetOfVectors → SetOfVectors → SetOfVectors
visit_set sys set visit = guarded_set sys set (visited sys set visit)

-- what is left after so many rounds: at first all states; each round keeps those from which every
-- visit can be made within what the round before left
abbrev pub patrol_round : System → List SetOfVectors → ℕ → SetOfVectors
patrol_round sys visits zero v = sys.in_space v
patrol_round sys visits (suc r) v =
    patrol_round sys visits r v
    && list_all (λ visit. visit_set sys (patrol_round sys visits r) visit v) visits

-- the states from which every visit can be made again and again: what is left after as many rounds
-- as there are states
abbrev pub patrol_set : System → List SetOfVectors → SetOfVectors
patrol_set sys visits = patrol_round sys visits (2 ^ sys.fluents)

-- so many rounds leave the same vectors as one more
abbrev pub IsLastPatrolRound : System → List SetOfVectors → ℕ → Type 0
IsLastPatrolRound sys visits r =
    (v : Vector) → IsVector sys v
    → patrol_round sys visits (suc r) v ≡ patrol_round sys visits r v

-- a set of states from each of which each visit can be made within the set
pub record IsPatrolSet (sys : System) (visits : List SetOfVectors) (set : SetOfVectors)
    : Type 0 where
  pub inside : (v : Vector) → IsVector sys v → set v ≡ true → sys.in_space v ≡ true
  pub each : (v : Vector) (visit : SetOfVectors) → IsVector sys v → set v ≡ true
      → Contains visits visit → visit_set sys set visit v ≡ true

-- the largest such set
pub record IsLargestPatrolSet (sys : System) (visits : List SetOfVectors) (set : SetOfVectors)
    : Type 0 where
  pub patrol : IsPatrolSet sys visits set
  pub largest : (other : SetOfVectors) → IsPatrolSet sys visits other → (v : Vector)
      → IsVector sys v → other v ≡ true → set v ≡ true

-- it has each initial state
abbrev pub covers_patrol : System → List SetOfVectors → Bool
covers_patrol sys visits = list_all (patrol_set sys visits) sys.initial
