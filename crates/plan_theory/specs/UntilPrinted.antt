-- The plan that is printed for an until-chain: which of the plans it is.
use Rattle.std.specs.Prelude.{ℕ, suc, ◌-◌, ◌==◌, ◌&&◌, List, [], ◌∷◌, Option}
use Rattle.std.specs.List.{range_with_len}
use Rattle.task_core.specs.Cubes.{SetOfVectors}
use Rattle.task_core.specs.Systems.{System}
use Rattle.task_core.specs.Vectors.{Vector}
use Rattle.plan_rules.specs.Rules.{ContextRule}
use Rattle.plan_theory.specs.ContextRules.{StatesOfRules, context_rules}
use Rattle.plan_theory.specs.GuardedSets.{guarded_action}
use Rattle.plan_theory.specs.LayerPlans.{is_action}
use Rattle.plan_theory.specs.Safe.{safe_action}
use Rattle.plan_theory.specs.UntilChains.{SetStage, UntilSets, guarded_from, until_advance}
use Rattle.plan_theory.specs.UntilChains.{until_contexts, until_met, until_win_at}

-- the action towards the first of some stages; where there is none, the action that keeps the set
abbrev pub until_towards : System → SetOfVectors → List SetStage → Vector → Option ℕ
until_towards sys keep [] v = safe_action sys keep v
until_towards sys keep (stage ∷ rest) v =
    guarded_action sys stage.guard (until_met sys keep stage rest) v

-- the action towards stage j, or, after the last one, that keeps the set
abbrev pub until_action : System → UntilSets → ℕ → Vector → Option ℕ
until_action sys chain j v = until_towards sys chain.keep (guarded_from j chain.stages) v

-- the states of context c in which stage j is the first that isn't met, and the action towards it
-- is a
abbrev pub until_states : System → UntilSets → StatesOfRules
until_states sys chain c j a v =
    until_win_at sys chain c v
    && ((until_advance sys chain c v == j) && is_action a (until_action sys chain j v))

-- the next contexts of context c: its own number and the later ones
abbrev pub until_nexts : UntilSets → ℕ → List ℕ
until_nexts chain c = range_with_len c (suc (until_contexts chain) - c)

-- the rules of the plan
abbrev pub until_rules : System → UntilSets → List ContextRule
until_rules sys chain =
    context_rules sys (until_states sys chain) (until_nexts chain) (until_contexts chain)
