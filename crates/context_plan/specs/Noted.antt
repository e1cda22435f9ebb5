-- Private: the steps of rounds that changed something, in the first pass and in the second.
use Rattle.std.specs.Prelude.{◌≡◌, ◌⊎◌, ℕ, suc, ◌+◌, ◌<◌, ◌≤◌, ◌||◌, ◌&&◌, true, List, [], ◌∷◌, ◌++◌}
use Rattle.std.specs.Prelude.{⊤, None, Option, Some, Vec, false, get_or, length, map, ◌-◌}
use Rattle.std.specs.declared.alloc.Global.{Global}
use Rattle.plan_theory.specs.UntilChains.{UntilSets}
use Rattle.task_core.specs.declared.conditions.Cond.{Cond}
use Rattle.plan_theory.specs.Patrols.{covers_patrol, patrol_set}
use Rattle.context_plan.specs.Chains.{visit_sets}
use Rattle.context_plan.specs.PatrolSizes.{made_in, within_round}
use Rattle.context_plan.specs.PatrolSteps.{HasPatrol, made_at_last}
use Rattle.context_plan.specs.WorkingSets.{guard_in, met_in}
use Rattle.plan_theory.specs.Layers.{must_lead}
use Rattle.plan_theory.specs.LayerPlans.{is_action}
use Rattle.plan_theory.specs.StageSets.{near as near_within, stage_action, stage_set}
use Rattle.task_core.specs.Cubes.{SetOfVectors}
use Rattle.task_core.specs.Systems.{IsVector}
use Rattle.task_core.specs.Tasks.{action_count}
use Rattle.task_core.specs.Vectors.{Vector}
use Rattle.task_core.specs.declared.literals.ActionId.{ActionId}
use Rattle.slot_board.specs.Board.{Scene}
use Rattle.slot_board.specs.declared.steps.Step.{Step}
use Rattle.slot_board.specs.declared.steps.Step.TheVariants.{Advance, Grow}
use Rattle.context_plan.specs.Rounds.{turn_by, turns}
use Rattle.context_plan.specs.Scenes.{ChangedIn, IsAt, SameStates, Start, WorkedIn, guarded}
use Rattle.context_plan.specs.Scenes.{states_at, sys_in, sys_of}
use Rattle.context_plan.specs.Steps.{Climbs, HitsAmong}
use Rattle.context_plan.specs.declared.rounds.Way.{Way}
use Rattle.context_plan.specs.declared.rounds.Way.TheVariants.{Growing, Shrinking}

-- the states from which a set is reached within k rounds, and those with what the first n actions
-- lead into them
abbrev pub near_at : Start → SetOfVectors → ℕ → SetOfVectors
near_at start set k = near_within (sys_in start) set k

abbrev pub next_at : Start → SetOfVectors → ℕ → ℕ → SetOfVectors
next_at start set k n = turn_by Growing (sys_in start) (near_at start set k) n

-- in round k an action leads into the near states only from these, or from where an action before it
-- does
abbrev pub AddsNothing : Start → SetOfVectors → ℕ → ℕ → Type 0
AddsNothing start set k a = (v : Vector) → IsVector (sys_in start) v
    → must_lead (sys_in start) (near_at start set k) v a ≡ true → next_at start set k a v ≡ true

-- the states within k rounds are all from which the set is reached
abbrev pub AreAll : Start → SetOfVectors → ℕ → Type 0
AreAll start set k = SameStates start (near_at start set k) (stage_set (sys_in start) set)

-- after the first n actions of round k, these steps leave out only what adds nothing, and they end
-- where the states within so many rounds are all
abbrev pub AreStepsFrom : Start → SetOfVectors → ℕ → ℕ → List Step → Type 0
AreStepsFrom start set k n [] = (n ≡ 0) × AreAll start set k
AreStepsFrom start set k n (Grow a ∷ rest) =
    (n ≤ a.0) × (a.0 < action_count start.task)
    × ((b : ℕ) → n ≤ b → b < a.0 → AddsNothing start set k b)
    × AreStepsFrom start set k (a.0 + 1) rest
AreStepsFrom start set k n (Advance ∷ rest) =
    (n ≤ action_count start.task)
    × ((b : ℕ) → n ≤ b → b < action_count start.task → AddsNothing start set k b)
    × AreStepsFrom start set (suc k) 0 rest

-- these steps lead from the set to there: what follows there follows them from the set on
abbrev pub HasLed : Start → SetOfVectors → ℕ → ℕ → List Step → Type 0
HasLed start set k n steps =
    (rest : List Step) → AreStepsFrom start set k n rest → AreStepsFrom start set 0 0 (steps ++ rest)

-- the same where rounds grow; of rounds that shrink nothing is said
abbrev pub LedBy : Way → Start → SetOfVectors → ℕ → ℕ → List Step → Type 0
LedBy Shrinking start set k n steps = ⊤
LedBy Growing start set k n steps = HasLed start set k n steps

abbrev pub AreNoted : Way → Start → SetOfVectors → List Step → Type 0
AreNoted Shrinking start set steps = ⊤
AreNoted Growing start set steps = AreStepsFrom start set 0 0 steps

-- an action's step is noted, or a round adds by it states at 1 alone
abbrev pub IsNoted : Way → Start → Scene → ActionId → List Step → List Step → Type 0
IsNoted way start x a before after =
    (after ≡ before ++ Grow a ∷ []) ⊎ ((after ≡ before) × HitsAmong way start x a.0)

-- the steps of a round on some states are noted, of whatever rounds it is one
abbrev pub NotesRound : Way → Start → SetOfVectors → List Step → List Step → Type 0
NotesRound way start near before after =
    (set : SetOfVectors) (k : ℕ) → SameStates start near (turns way (sys_in start) set k)
    → LedBy way start set k 0 before
    → LedBy way start set k (action_count start.task) after

-- the states at 2 were joined to those at 1, and the step is noted unless these had them
pub record Widened (start : Start) (x y : Scene) (a : ActionId) (before after : List Step)
    : Type 0 where
  pub worked : WorkedIn start x y
  pub near : states_at y 0 ≡ states_at x 0
  pub next : SameStates start (states_at y 1) (λ v. states_at x 1 v || states_at x 2 v)
  pub noted : (after ≡ before ++ Grow a ∷ []) ⊎ ((after ≡ before)
      × SameStates start (states_at x 1) (λ v. states_at x 1 v || states_at x 2 v))

-- in the second pass: round k began with the states near the set, each of which took the action of
-- its rank; the first n actions of the round are taken where they are new, and the rest of the steps
-- follows
pub record HasRetraced (start : Start) (x begun y : Scene) (met takers k n : ℕ) (rest : List Step)
    : Type 0 where
  pub changed : ChangedIn start x begun takers (takers + action_count start.task)
  pub near : SameStates start (states_at begun 0) (near_at start (states_at x met) k)
  pub taken : (a : ℕ) → a < action_count start.task
      → SameStates start (states_at begun (takers + a))
      (λ v. states_at x (takers + a) v || (near_at start (states_at x met) k v
      && is_action a (stage_action (sys_in start) (states_at x met) v)))
  pub climbs : Climbs start begun y takers n
  pub follows : AreStepsFrom start (states_at x met) k n rest

-- the second pass is somewhere, from which the rest follows
abbrev pub RetracedOn : Start → Scene → Scene → ℕ → ℕ → List Step → Type 0
RetracedOn start x y met takers rest =
    (begun : Scene) × (k : ℕ) × (n : ℕ) × HasRetraced start x begun y met takers k n rest

-- the steps at a place of a list
abbrev pub steps_at : List (Vec Step Global) → ℕ → List Step
steps_at notes i = get_or (map (λ (steps : Vec Step Global). steps.items) notes) i []

-- from stage i on, the steps of each stage are noted, those of the last stage first
abbrev pub NotedStages : Start → UntilSets → ℕ → List (Vec Step Global) → Type 0
NotedStages start chain i notes =
    (length notes + i ≡ start.stages)
    × ((j : ℕ) → i ≤ j → j < start.stages
    → AreStepsFrom (guarded start (guard_in chain j)) (met_in (sys_of start) chain j) 0 0
    (steps_at notes (start.stages - suc j)))

-- of the first n visits the steps of round r are noted
abbrev pub NotedVisits : Start → List Cond → ℕ → ℕ → List (Vec Step Global) → Type 0
NotedVisits start conds r n notes =
    (length notes ≡ n) × ((i : ℕ) → i < n
    → AreStepsFrom (within_round start conds r) (made_in start conds r i) 0 0 (steps_at notes i))

-- of all visits the steps of the last round are noted, which are those in the states of the plan
abbrev pub NotedLast : Start → List Cond → List (Vec Step Global) → Type 0
NotedLast start conds notes =
    (length notes ≡ length conds) × ((i : ℕ) → i < length conds
    → AreStepsFrom (guarded start (patrol_set (sys_of start) (visit_sets conds)))
    (made_at_last start conds i) 0 0 (steps_at notes i))

-- rounds lost an initial state, so that there is no plan, or they left the states of the plan, and
-- the steps towards each visit
abbrev pub FoundNotes : Start → List Cond → Scene → Option (Vec (Vec Step Global) Global) → Type 0
FoundNotes start conds x None =
    IsAt start x × (covers_patrol (sys_of start) (visit_sets conds) ≡ false)
FoundNotes start conds x (Some notes) =
    HasPatrol start conds x 0 × NotedLast start conds notes.items
