-- What a goal asks of a single run, and which runs have fair outcomes. A run never ends. The logic has
-- no excluded middle, so "at some place" is said as: not at no place.
use Rattle.std.specs.Prelude.{◌≡◌, ◌≤◌, ◌<◌, ℕ, suc, true, List, [], ◌∷◌}
use Rattle.std.specs.List.{Contains}
use Rattle.task_core.specs.ContextPlans.{Configuration, ContextPlan, Follows, IsInitial}
use Rattle.task_core.specs.Cubes.{SetOfVectors}
use Rattle.task_core.specs.Systems.{System}
use Rattle.plan_theory.specs.UntilChains.{SetStage}
use Rattle.fair_theory.specs.FairSets.{SetGoal, chain_goal, patrol_goal}

-- a run of the plan: the configuration at each place, from an initial one on
pub record IsRun (sys : System) (plan : ContextPlan) (run : ℕ → Configuration) : Type 0 where
  pub initial : IsInitial sys (run 0)
  pub follows : (n : ℕ) → Follows sys plan (run n) (run (suc n))

-- it is not so at no place
abbrev pub NotNever : (ℕ → Type 0) → Type 0
NotNever Is = ((n : ℕ) → Is n → ⊥) → ⊥

-- the run comes to the configuration infinitely often: after no place never again
abbrev pub ComesAgain : (ℕ → Configuration) → Configuration → Type 0
ComesAgain run x = (n : ℕ) → NotNever (λ m. (n ≤ m) × (run m ≡ x))

-- it takes the step from x to y infinitely often
abbrev pub TakesAgain : (ℕ → Configuration) → Configuration → Configuration → Type 0
TakesAgain run x y = (n : ℕ) → NotNever (λ m. (n ≤ m) × (run m ≡ x) × (run (suc m) ≡ y))

-- outcomes are fair: where the run comes to a state and context infinitely often, each outcome there
-- comes about infinitely often
abbrev pub HasFairOutcomes : System → ContextPlan → (ℕ → Configuration) → Type 0
HasFairOutcomes sys plan run =
    (x y : Configuration) → ComesAgain run x → Follows sys plan x y → TakesAgain run x y

-- from place n on the run meets the stages, one after another, each in states of its guard until then,
-- and keeps the set from then on
abbrev pub RunMeets : (ℕ → Configuration) → SetOfVectors → List SetStage → ℕ → Type 0
RunMeets run keep [] n = (m : ℕ) → n ≤ m → keep (run m).state ≡ true
RunMeets run keep (stage ∷ rest) n =
    NotNever (λ m. (n ≤ m)
    × ((k : ℕ) → n ≤ k → k < m → stage.guard (run k).state ≡ true)
    × (stage.target (run m).state ≡ true)
    × RunMeets run keep rest m)

-- the run makes each visit infinitely often
abbrev pub RunPatrols : (ℕ → Configuration) → List SetOfVectors → Type 0
RunPatrols run visits =
    (visit : SetOfVectors) → Contains visits visit
    → (n : ℕ) → NotNever (λ m. (n ≤ m) × (visit (run m).state ≡ true))

-- the goal's own path formula: of an until-chain (af (and P CHAIN)) or (au G (and P CHAIN)), and of a
-- patrol (ag (and (af P) .. (af P)))
abbrev pub RunHas : (ℕ → Configuration) → SetGoal → Type 0
RunHas run (chain_goal chain) = RunMeets run chain.keep chain.stages 0
RunHas run (patrol_goal visits) = RunPatrols run visits
