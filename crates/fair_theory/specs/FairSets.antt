-- The states from which goals can be had whose actions may be tried again: the largest set of states
-- from each of which what is asked for can be come to by actions that never lead out of the set
-- (Cimatti, Pistore, Roveri, Traverso 2003: the strong cyclic fixpoint, here with a guard, with a
-- target that is a set, and with several targets at once).
use Rattle.std.specs.Prelude.{◌≡◌, Bool, true, false, ◌&&◌, List, [], ◌∷◌, ℕ}
use Rattle.std.specs.List.{Contains, list_all}
use Rattle.task_core.specs.Cubes.{SetOfVectors}
use Rattle.task_core.specs.Systems.{System, IsVector, HasOutcome}
use Rattle.task_core.specs.Vectors.{Vector}
pub use Rattle.plan_theory.specs.GuardedSets.{anywhere}
use Rattle.plan_theory.specs.Layers.{may_lead, must_lead}
use Rattle.plan_theory.specs.Safe.{some_must_lead}
use Rattle.plan_theory.specs.UntilChains.{SetStage, UntilSets}

-- what is asked for in each state of a set: it lies inside, the set can be stayed in where that is
-- asked for, and from it each target can be come to, in states of the guard until then
pub record Asked : Type 0 where
  pub inside : SetOfVectors
  pub stays : Bool
  pub guard : SetOfVectors
  pub targets : List SetOfVectors

-- from a state the target can be come to: it holds there; or the state is one of the guard, some
-- action has every outcome in the set, and from some outcome of it the target can be come to
pub data CanComeTo (sys : System) (set guard target : SetOfVectors) : Vector → Type 0 where
  here : (v : Vector) → target v ≡ true → CanComeTo sys set guard target v
  by : (v : Vector) (action : ℕ) (t : Vector) → guard v ≡ true → must_lead sys set v action ≡ true
      → HasOutcome sys v action t → CanComeTo sys set guard target t
      → CanComeTo sys set guard target v

-- a state has what is asked for, by actions that stay in the set
pub record HasAsked (sys : System) (asked : Asked) (set : SetOfVectors) (v : Vector) : Type 0 where
  pub inside : asked.inside v ≡ true
  pub stays : asked.stays ≡ true → some_must_lead sys set v ≡ true
  pub comes : (target : SetOfVectors) → Contains asked.targets target
      → CanComeTo sys set asked.guard target v

-- each state of the set has it
abbrev pub IsFairSet : System → Asked → SetOfVectors → Type 0
IsFairSet sys asked set = (v : Vector) → IsVector sys v → set v ≡ true → HasAsked sys asked set v

-- a set has the states from which a target can be come to by actions that stay in another set
pub record HasAllComing (sys : System) (left guard target near : SetOfVectors) : Type 0 where
  pub made : (v : Vector) → IsVector sys v → target v ≡ true → near v ≡ true
  pub closed : (v : Vector) (action : ℕ) → IsVector sys v → guard v ≡ true
      → must_lead sys left v action ≡ true → may_lead sys near v action ≡ true → near v ≡ true

-- the sets that have each state from which what is asked for can be had: those that lie inside, and,
-- of a set that has them, the states from which another such set can be stayed in, or from which a
-- target can be come to within another such set
pub data IsFairBound (sys : System) (asked : Asked) : SetOfVectors → Type 0 where
  all_inside : (set : SetOfVectors)
      → ((v : Vector) → IsVector sys v → asked.inside v ≡ true → set v ≡ true)
      → IsFairBound sys asked set
  all_staying : (left set next : SetOfVectors) → asked.stays ≡ true → IsFairBound sys asked left
      → IsFairBound sys asked set
      → ((v : Vector) → IsVector sys v → set v ≡ true → some_must_lead sys left v ≡ true
      → next v ≡ true)
      → IsFairBound sys asked next
  all_coming : (left set near next target : SetOfVectors) → Contains asked.targets target
      → IsFairBound sys asked left → IsFairBound sys asked set
      → HasAllComing sys left asked.guard target near
      → ((v : Vector) → IsVector sys v → set v ≡ true → near v ≡ true → next v ≡ true)
      → IsFairBound sys asked next

-- the largest set of states that have what is asked for
pub record IsLargestFairSet (sys : System) (asked : Asked) (set : SetOfVectors) : Type 0 where
  pub fair : IsFairSet sys asked set
  pub bound : IsFairBound sys asked set

-- a stage asks for its target, where the stages after it can be had, and for the guard until then
abbrev pub stage_asks : SetStage → SetOfVectors → Asked
stage_asks stage later = record {
  inside = anywhere;
  stays = false;
  guard = stage.guard;
  targets = (λ v. stage.target v && later v) ∷ [];
}

-- the end of an until-chain asks to stay in the set that is kept
abbrev pub end_asks : SetOfVectors → Asked
end_asks keep = record { inside = keep; stays = true; guard = anywhere; targets = [] }

-- a patrol asks for each visit, and to go on
abbrev pub patrol_asks : List SetOfVectors → Asked
patrol_asks visits =
    record { inside = anywhere; stays = true; guard = anywhere; targets = visits }

-- the set has the states from which the stages can be met, one after another, and then the set be
-- kept: from the last stage back
pub data IsChainWin (sys : System) (keep : SetOfVectors) : List SetStage → SetOfVectors → Type 0 where
  at_end : (set : SetOfVectors) → IsLargestFairSet sys (end_asks keep) set
      → IsChainWin sys keep [] set
  at_stage : (stage : SetStage) (rest : List SetStage) (later set : SetOfVectors)
      → IsChainWin sys keep rest later → IsLargestFairSet sys (stage_asks stage later) set
      → IsChainWin sys keep (stage ∷ rest) set

-- an until-chain, or the visits of a patrol, as sets of states
pub data SetGoal : Type 0 where
  chain_goal : UntilSets → SetGoal
  patrol_goal : List SetOfVectors → SetGoal

-- the set has the states from which the goal can be had
abbrev pub IsFairWin : System → SetGoal → SetOfVectors → Type 0
IsFairWin sys (chain_goal chain) set = IsChainWin sys chain.keep chain.stages set
IsFairWin sys (patrol_goal visits) set = IsLargestFairSet sys (patrol_asks visits) set

-- a set has each initial state
abbrev pub covers_initial : System → SetOfVectors → Bool
covers_initial sys set = list_all set sys.initial
