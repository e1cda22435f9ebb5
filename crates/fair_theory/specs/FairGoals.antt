-- Goals with stages whose actions may be tried again and again. A strong cyclic stage says that, until
-- it is met, it can still be met; under fair outcomes it is met then (Cimatti, Pistore, Roveri,
-- Traverso 2003: strong cyclic planning; Daniele, Traverso, Vardi 1999). In computation tree logic
-- that is a weak until, so that goals of this kind are judged as all other goals are.
--
-- Example: (af (and at-tray (af at-table))) becomes
--   (aw (and (and) (ef S)) S) with S = (and at-tray (aw (and (and) (ef T)) T)) and
--   T = (and at-table (ag (and))).
-- The guard of `af` is the conjunction of nothing, and a chain that ends with `af` keeps it.
use Rattle.std.specs.Prelude.{List, [], ◌∷◌, map, ℕ, length}
use Rattle.ctl_syntax.specs.Conditions.{CondTree}
use Rattle.ctl_syntax.specs.GoalValues.{GoalTree, until_chain, patrol_goal}
use Rattle.ctl_syntax.specs.Goals.{CtlTree, plain, all, ag, aw, ef, goal_row, goal_then, no_goal}
use Rattle.ctl_syntax.specs.UntilChains.{GuardedStage}

-- both goals are true
abbrev pub both : {P : Type 0} → CtlTree P → CtlTree P → CtlTree P
both g h = all (goal_then g (goal_then h no_goal))

-- until the second goal is true, the first one is, and the second one may still become true
abbrev pub fair_until : {P : Type 0} → CtlTree P → CtlTree P → CtlTree P
fair_until guard met = aw (both guard (ef met)) met

-- the goal of the stages of an until-chain, and of what is kept after the last one: each stage is met
-- where its target holds and the goal of the stages after it is true
abbrev pub fair_chain : {P : Type 0} → List (GuardedStage P) → P → CtlTree P
fair_chain [] keep = ag (plain keep)
fair_chain (stage ∷ rest) keep =
    fair_until (plain stage.guard) (both (plain stage.target) (fair_chain rest keep))

-- the goal of the visits of a patrol: from wherever it comes, each can be made
abbrev pub fair_patrol : {P : Type 0} → List P → CtlTree P
fair_patrol visits = ag (all (goal_row (map (λ visit. ef (plain visit)) visits)))

-- the goal by which the plans for an until-chain or a patrol goal are judged, where actions may be
-- tried again
abbrev pub fair_tree : GoalTree → CtlTree CondTree
fair_tree (until_chain chain) = fair_chain chain.stages chain.keep
fair_tree (patrol_goal visits) = fair_patrol visits

-- a goal of so many stages has each target, and what comes after, twice; with more stages it is too
-- large to be judged
abbrev pub most_fair_stages : ℕ
most_fair_stages = 12

-- how many stages a goal has
abbrev pub stage_count : GoalTree → ℕ
stage_count (until_chain chain) = length chain.stages
stage_count (patrol_goal visits) = 0
