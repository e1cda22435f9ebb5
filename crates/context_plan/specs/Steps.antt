-- Private: what the parts of a search do to the sets of states on its board. The states that a
-- round begins with stand at place 0, those that it ends with at 1; at 3 stand the states that are
-- still without an action, or whose stage is still to be found, and at 4 those that are new, or of
-- some rules.
use Rattle.std.specs.Prelude.{◌≡◌, ◌≢◌, ℕ, suc, ◌+◌, ◌*◌, ◌<◌, ◌≤◌, true, false, not, ◌&&◌, ◌||◌}
use Rattle.std.specs.Prelude.{Bool, List, drop, length, slice_index_or}
use Rattle.std.specs.List.{list_any, range_with_len}
use Rattle.plan_theory.specs.GuardedSets.{guarded_set}
use Rattle.plan_theory.specs.UntilChains.{SetStage, UntilSets, covers_until, until_win}
use Rattle.plan_theory.specs.UntilPrinted.{until_towards}
use Rattle.plan_theory.specs.Safe.{safe_set}
use Rattle.plan_theory.specs.StageSets.{stage_action, stage_set}
use Rattle.plan_theory.specs.Layers.{must_lead}
use Rattle.plan_theory.specs.LayerPlans.{is_action}
use Rattle.task_core.specs.Cubes.{SetOfVectors}
use Rattle.task_core.specs.Systems.{IsVector, System}
use Rattle.task_core.specs.Tasks.{action_count}
use Rattle.task_core.specs.Vectors.{Vector}
use Rattle.task_core.specs.declared.conditions.Cond.{Cond}
use Rattle.ctl_syntax.specs.Conditions.{states_of}
use Rattle.ctl_syntax.specs.declared.context_goals.UntilStage.{UntilStage}
use Rattle.slot_board.specs.Board.{Scene}
use Rattle.context_plan.specs.Rounds.{first_lead, from_stage, hits_by, last_turn, turn, turn_by}
use Rattle.context_plan.specs.Rounds.{turns}
use Rattle.context_plan.specs.Scenes.{Changed, ChangedIn, IsGuarded, IsReady, SameStates}
use Rattle.context_plan.specs.Scenes.{Start, WorkedIn, met_place, states_at, sys_in, sys_of}
use Rattle.context_plan.specs.Scenes.{takers_place, win_place}
use Rattle.context_plan.specs.Sizes.{UntilFits}
use Rattle.context_plan.specs.WorkingSets.{kept_states, met_first}
use Rattle.context_plan.specs.declared.rounds.Way.{Way}
use Rattle.context_plan.specs.declared.rounds.Way.TheVariants.{Growing, Shrinking}

-- the states at 2 and at 4 alone changed
pub record OnlyHits (start : Start) (x y : Scene) : Type 0 where
  pub ready : IsGuarded start y
  pub kept : (k : ℕ) → k < length y.1 → k ≢ 2 → k ≢ 4 → states_at y k ≡ states_at x k

-- an action is spent where rounds grow: it leads into a set, whichever it is, from some states alone,
-- which are found already. Where rounds shrink, none is
abbrev pub IsSpent : Way → Start → SetOfVectors → ℕ → Type 0
IsSpent Shrinking start found a = ⊥
IsSpent Growing start found a = (set : SetOfVectors) (v : Vector) → IsVector (sys_in start) v
    → must_lead (sys_in start) set v a ≡ true → found v ≡ true

-- the actions that are marked are spent
pub record AreSpent (way : Way) (start : Start) (found : SetOfVectors) (marks : List Bool)
    : Type 0 where
  pub long : length marks ≡ action_count start.task
  pub each : (a : ℕ) → a < action_count start.task → slice_index_or marks a false ≡ true
      → IsSpent way start found a

-- a round on the states at 0 adds by an action states at 1 alone
abbrev pub HitsAmong : Way → Start → Scene → ℕ → Type 0
HitsAmong way start x a = (v : Vector) → IsVector (sys_in start) v
    → hits_by way (states_at x 0) (λ u. must_lead (sys_in start) (states_at x 0) u a) v ≡ true
    → states_at x 1 v ≡ true

-- of the states at 2 stayed those that a round adds
pub record KeepsHits (way : Way) (start : Start) (x y : Scene) : Type 0 where
  pub worked : WorkedIn start x y
  pub near : states_at y 0 ≡ states_at x 0
  pub next : states_at y 1 ≡ states_at x 1
  pub hits : states_at y 2 ≡ hits_by way (states_at x 0) (states_at x 2)

-- the states that a round adds by one action were added to the next ones
pub record AddsHits (way : Way) (start : Start) (x y : Scene) (a : ℕ) : Type 0 where
  pub worked : WorkedIn start x y
  pub near : states_at y 0 ≡ states_at x 0
  pub next : SameStates start (states_at y 1) (λ v. states_at x 1 v
      || hits_by way (states_at x 0) (λ u. must_lead (sys_in start) (states_at x 0) u a) v)

-- a round was made on the first states, as far as the first n actions have it
pub record Leads (way : Way) (start : Start) (x y : Scene) (n : ℕ) : Type 0 where
  pub worked : WorkedIn start x y
  pub near : states_at y 0 ≡ states_at x 0
  pub next : SameStates start (states_at y 1) (turn_by way (sys_in start) (states_at x 0) n)

-- a round was made on the states at a place
pub record TurnedFrom (way : Way) (start : Start) (x y : Scene) (place : ℕ) : Type 0 where
  pub worked : WorkedIn start x y
  pub near : states_at y 0 ≡ states_at x place
  pub next : SameStates start (states_at y 1) (turn way (sys_in start) (states_at x place))

-- k rounds were made on a set, and one more
pub record HasTurned (way : Way) (start : Start) (x y : Scene) (set : SetOfVectors) (k : ℕ)
    : Type 0 where
  pub worked : WorkedIn start x y
  pub near : SameStates start (states_at y 0) (turns way (sys_in start) set k)
  pub next : SameStates start (states_at y 1) (turns way (sys_in start) set (suc k))

-- all rounds were made
pub record HasLast (way : Way) (start : Start) (x y : Scene) (set : SetOfVectors) : Type 0 where
  pub worked : WorkedIn start x y
  pub near : SameStates start (states_at y 0) (last_turn way (sys_in start) set)

-- the states in which the condition to keep holds stand at a place
pub record HasKept (start : Start) (x y : Scene) (place : ℕ) (cond : Cond) : Type 0 where
  pub changed : Changed start x y place (place + 1)
  pub kept : states_at y place ≡ kept_states (sys_of start) (states_of cond)

-- the states of the last context stand at a place
pub record EndWon (start : Start) (x y : Scene) (place : ℕ) (cond : Cond) : Type 0 where
  pub changed : Changed start x y place (place + 1)
  pub win : SameStates start (states_at y place) (safe_set (sys_of start) (states_of cond))

-- where a stage is met, by the states of the next context, two places farther on
abbrev pub met_by : Scene → ℕ → Cond → SetOfVectors
met_by x place cond v = states_of cond v && states_at x (place + 2) v

-- where a stage is met stands one place farther on
pub record StageMet (start : Start) (x y : Scene) (place : ℕ) (cond : Cond) : Type 0 where
  pub changed : Changed start x y place (place + 2)
  pub met : states_at y (place + 1) ≡ met_by x place cond

-- the states of a stage's context stand at a place, and after it those where the stage is met
pub record StageWon (start : Start) (x y : Scene) (place : ℕ) (stage : UntilStage) : Type 0 where
  pub changed : Changed start x y place (place + 2)
  pub win : SameStates start (states_at y place)
      (guarded_set (sys_of start) (states_of stage.guard) (met_by x place stage.target))
  pub met : SameStates start (states_at y (place + 1)) (met_by x place stage.target)

-- the states of the contexts from stage i on stand at their places, and those where their stages
-- are met
pub record Won (start : Start) (x : Scene) (chain : UntilSets) (i : ℕ) : Type 0 where
  pub wins : (j : ℕ) → i ≤ j → j ≤ start.stages
      → SameStates start (states_at x (win_place j))
      (until_win (sys_of start) chain.keep (drop j chain.stages))
  pub mets : (j : ℕ) → i ≤ j → j < start.stages
      → SameStates start (states_at x (met_place j))
      (met_first (sys_of start) chain.keep (drop j chain.stages))

-- they were put there
pub record HasWins (start : Start) (x y : Scene) (chain : UntilSets) (i : ℕ) : Type 0 where
  pub changed : Changed start x y 8 (9 + 2 * start.stages)
  pub won : Won start y chain i

-- of the states without an action, each took the least-numbered one that leads into the first
-- states, as far as it is one of the first n
pub record Shared (start : Start) (x y : Scene) (takers n : ℕ) : Type 0 where
  pub changed : ChangedIn start x y takers (takers + action_count start.task)
  pub near : states_at y 0 ≡ states_at x 0
  pub next : states_at y 1 ≡ states_at x 1
  pub rest : SameStates start (states_at y 3)
      (λ v. states_at x 3 v
      && not (list_any (must_lead (sys_in start) (states_at x 0) v) (range_with_len 0 n)))
  pub taken : (a : ℕ) → a < action_count start.task → a < n
      → SameStates start (states_at y (takers + a))
      (λ v. states_at x (takers + a) v
      || first_lead (sys_in start) (states_at x 0) (states_at x 3) a v)
  pub later : (a : ℕ) → a < action_count start.task → n ≤ a
      → states_at y (takers + a) ≡ states_at x (takers + a)

-- a round was made on the first states, as far as the first n actions have it, and each new state
-- took the least-numbered action that leads into the first states
pub record Climbs (start : Start) (x y : Scene) (takers n : ℕ) : Type 0 where
  pub changed : ChangedIn start x y takers (takers + action_count start.task)
  pub near : states_at y 0 ≡ states_at x 0
  pub next : SameStates start (states_at y 1) (turn_by Growing (sys_in start) (states_at x 0) n)
  pub taken : (a : ℕ) → a < action_count start.task → a < n
      → SameStates start (states_at y (takers + a)) (λ v. states_at x (takers + a) v
      || first_lead (sys_in start) (states_at x 0) (λ u. not (states_at x 0 u)) a v)
  pub later : (a : ℕ) → a < action_count start.task → n ≤ a
      → states_at y (takers + a) ≡ states_at x (takers + a)

-- all states of a stage's context took their actions
pub record Climbed (start : Start) (x y : Scene) (met takers : ℕ) : Type 0 where
  pub changed : ChangedIn start x y takers (takers + action_count start.task)
  pub taken : (a : ℕ) → a < action_count start.task
      → SameStates start (states_at y (takers + a))
      (λ v. states_at x (takers + a) v || (stage_set (sys_in start) (states_at x met) v
      && is_action a (stage_action (sys_in start) (states_at x met) v)))

-- of the states at a place, each took the least-numbered action that leads into those at another
pub record FirstTaken (start : Start) (x y : Scene) (near rest takers : ℕ) : Type 0 where
  pub changed : ChangedIn start x y takers (takers + action_count start.task)
  pub taken : (a : ℕ) → a < action_count start.task
      → SameStates start (states_at y (takers + a))
      (λ v. states_at x (takers + a) v
      || first_lead (sys_in start) (states_at x near) (states_at x rest) a v)

-- the states of a context that take an action towards its stage
abbrev pub takers_of : System → SetOfVectors → List SetStage → ℕ → SetOfVectors
takers_of sys keep stages a v =
    until_win sys keep stages v && is_action a (until_towards sys keep stages v)

-- the board has the states of all contexts, and where all stages are met; and of the first i
-- contexts the states that take each action; and what the search makes is small, and each initial
-- state is one of the first context
pub record HasTakers (start : Start) (x : Scene) (chain : UntilSets) (i : ℕ) : Type 0 where
  pub ready : IsReady start x
  pub fits : UntilFits start chain
  pub covered : covers_until (sys_of start) chain ≡ true
  pub won : Won start x chain 0
  pub last : SameStates start (states_at x (met_place start.stages)) (λ v. false)
  pub taken : (j a : ℕ) → j < i → j ≤ start.stages → a < action_count start.task
      → SameStates start
      (states_at x (takers_place (action_count start.task) start.stages j + a))
      (takers_of (sys_of start) chain.keep (drop j chain.stages) a)
  pub untaken : (j a : ℕ) → i ≤ j → j ≤ start.stages → a < action_count start.task
      → SameStates start
      (states_at x (takers_place (action_count start.task) start.stages j + a)) (λ v. false)

-- the states of a context in which the stages before a next one are met stand at 3
pub record HasRest (start : Start) (x : Scene) (chain : UntilSets) (c j : ℕ) : Type 0 where
  pub has : HasTakers start x chain (suc start.stages)
  pub rest : SameStates start (states_at x 3) (from_stage (sys_of start) chain c j)

-- for each of the first n actions, the states at 4 that take it were put at a place
pub record Chooses (start : Start) (x y : Scene) (takers place n : ℕ) : Type 0 where
  pub changed : Changed start x y place (place + action_count start.task)
  pub chosen : states_at y 4 ≡ states_at x 4
  pub sets : (a : ℕ) → a < action_count start.task → a < n
      → states_at y (place + a) ≡ (λ v. states_at x 4 v && states_at x (takers + a) v)
