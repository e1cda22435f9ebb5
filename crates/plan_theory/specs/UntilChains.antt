-- Until-chains as sets: each stage is to be met at last, in states of its guard until then, and once
-- all are met the states are to stay within a set for ever (Pistore, Traverso 2001: extended goals, of
-- the kinds "reach" and "maintain"). And the states from which that can be had, stage by stage, from
-- the last one back.
use Rattle.std.specs.Prelude.{◌≡◌, ℕ, suc, ◌+◌, ◌-◌, Bool, true, ◌&&◌, List, [], ◌∷◌, drop, length}
use Rattle.std.specs.Prelude.{if◌then◌else◌}
use Rattle.std.specs.List.{list_all}
pub use Rattle.ctl_syntax.specs.UntilChains.{GuardedStage, until_tree}
use Rattle.ctl_syntax.specs.Truth.{Satisfies}
use Rattle.task_core.specs.ContextPlans.{Configuration, ContextPlan, Follows}
use Rattle.task_core.specs.Cubes.{SetOfVectors}
use Rattle.task_core.specs.Systems.{System}
use Rattle.task_core.specs.Vectors.{Vector}
use Rattle.plan_theory.specs.GuardedSets.{guarded_set}
use Rattle.plan_theory.specs.Safe.{safe_set}

-- the state of a configuration lies in the set
abbrev pub StateIsIn : SetOfVectors → Configuration → Type 0
StateIsIn set x = set x.state ≡ true

-- a stage: the set to be met, and the guard
abbrev pub SetStage : Type 0
SetStage = GuardedStage SetOfVectors

-- the stages to be met one after another, and the set to stay in from then on
pub record UntilSets : Type 0 where
  pub stages : List SetStage
  pub keep : SetOfVectors

-- the until-chain is true at a configuration, along the paths of the plan
abbrev pub HasUntil : System → ContextPlan → UntilSets → Configuration → Type 0
HasUntil sys plan chain =
    Satisfies (Follows sys plan) StateIsIn (until_tree chain.stages chain.keep)

-- a plan for n stages has a context for each of them, and one more for the end
abbrev pub until_contexts : UntilSets → ℕ
until_contexts chain = suc (length chain.stages)

-- the stages from number c on; number 1 is the first
abbrev pub guarded_from : ℕ → List SetStage → List SetStage
guarded_from c stages = drop (c - 1) stages

-- the states from which all the stages can be met, one after another, and then the set be kept; for
-- no stage those from which it can be kept
abbrev pub until_win : System → SetOfVectors → List SetStage → SetOfVectors
until_win sys keep [] = safe_set sys keep
until_win sys keep (stage ∷ rest) =
    guarded_set sys stage.guard (λ v. stage.target v && until_win sys keep rest v)

-- where a stage is met: its set holds, and the rest of the until-chain can be had
abbrev pub until_met : System → SetOfVectors → SetStage → List SetStage → SetOfVectors
until_met sys keep stage rest v = stage.target v && until_win sys keep rest v

-- the states of a context: those from which the stages from its number on can be had
abbrev pub until_win_at : System → UntilSets → ℕ → SetOfVectors
until_win_at sys chain c = until_win sys chain.keep (guarded_from c chain.stages)

-- how many stages, one after another from the first on, are met in a state
abbrev pub until_met_count : System → SetOfVectors → List SetStage → Vector → ℕ
until_met_count sys keep [] v = 0
until_met_count sys keep (stage ∷ rest) v =
    if until_met sys keep stage rest v then suc (until_met_count sys keep rest v) else 0

-- the first stage from number c on that isn't met in a state; the number after the last stage where
-- all are
abbrev pub until_advance : System → UntilSets → ℕ → Vector → ℕ
until_advance sys chain c v = c + until_met_count sys chain.keep (guarded_from c chain.stages) v

-- each initial state is one of context 1
abbrev pub covers_until : System → UntilSets → Bool
covers_until sys chain = list_all (until_win_at sys chain 1) sys.initial
