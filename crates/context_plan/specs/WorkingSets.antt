-- The sets of states that a search for an until-chain's plan makes: if each of them has a small
-- diagram, few nodes are enough, however many fluents there are.
use Rattle.std.specs.Prelude.{◌≡◌, ℕ, suc, ◌+◌, ◌<◌, ◌≤◌, ◌==◌, true, false, ◌&&◌, List, [], ◌∷◌, drop}
use Rattle.std.specs.Prelude.{Contains, length, nat_le}
use Rattle.plan_theory.specs.GuardedSets.{anywhere, guarded_action, guarded_near}
use Rattle.plan_theory.specs.LayerPlans.{is_action}
use Rattle.plan_theory.specs.Safe.{safe_action, safe_round, safe_set}
use Rattle.plan_theory.specs.UntilChains.{SetStage, UntilSets, covers_until, until_advance}
use Rattle.plan_theory.specs.UntilChains.{until_met, until_win_at}
use Rattle.ctl_syntax.specs.declared.context_goals.UntilChain.{UntilChain}
use Rattle.ctl_syntax.specs.declared.context_goals.UntilStage.{UntilStage}
use Rattle.dd_nodes.specs.Subfunctions.{Function}
use Rattle.dd_sets.specs.Rooms.{Small}
use Rattle.encode_task.specs.TaskSets.{first_values, initial_set, space_set}
use Rattle.encode_task.specs.WorkingSets.{IsMadeByEncode, IsPartOf}
use Rattle.preimage.specs.WorkingSets.{IsMadeByRound, first_every, hits_at}
use Rattle.task_core.specs.Cubes.{SetOfVectors}
use Rattle.task_core.specs.Systems.{System}
use Rattle.task_core.specs.Tasks.{action_count, fluent_count, system_of}
use Rattle.task_core.specs.declared.tasks.Task.{Task}
use Rattle.context_plan.specs.Chains.{until_sets}

-- a set of states over n fluents, as the function that is true on it
abbrev pub function_of : ℕ → SetOfVectors → Function
function_of n set values = set (first_values n values)

-- where an action can be executed in a guard, and every outcome lies in a set
abbrev pub hits_inside : Task → SetOfVectors → Function → ℕ → Function
hits_inside task guard set a values =
    function_of (fluent_count task) guard values && hits_at first_every task set a values

-- the sets that are made of some sets, of which each has the guard in which alone actions count
abbrev pub IsMadeInside : Task → (SetOfVectors → Function → Type 0) → Function → Type 0
IsMadeInside task rounds f =
    (guard : SetOfVectors) × (set : Function) × rounds guard set
    × IsMadeByRound task first_every (hits_inside task guard set) set f

-- the states in which the condition to keep holds
abbrev pub kept_states : System → SetOfVectors → SetOfVectors
kept_states sys keep v = sys.in_space v && keep v

-- where the first of some stages is met, and its guard; where there is none, nowhere
abbrev pub met_first : System → SetOfVectors → List SetStage → SetOfVectors
met_first sys keep [] v = false
met_first sys keep (stage ∷ rest) v = until_met sys keep stage rest v

abbrev pub guard_first : List SetStage → SetOfVectors
guard_first [] v = false
guard_first (stage ∷ rest) v = stage.guard v

-- where stage i is met, counted from 0, and its guard
abbrev pub met_in : System → UntilSets → ℕ → SetOfVectors
met_in sys chain i = met_first sys chain.keep (drop i chain.stages)

abbrev pub guard_in : UntilSets → ℕ → SetOfVectors
guard_in chain i = guard_first (drop i chain.stages)

-- the states of the context of stage i from which it is met within k steps
abbrev pub near_in : System → UntilSets → ℕ → ℕ → SetOfVectors
near_in sys chain i = guarded_near sys (guard_in chain i) (met_in sys chain i)

-- those of them to which action a is given
abbrev pub taken_within : System → UntilSets → ℕ → ℕ → ℕ → SetOfVectors
taken_within sys chain i k a v = near_in sys chain i k v
    && is_action a (guarded_action sys (guard_in chain i) (met_in sys chain i) v)

-- the states of the last context to which action a is given
abbrev pub taken_at_end : System → UntilSets → ℕ → SetOfVectors
taken_at_end sys chain a v =
    safe_set sys chain.keep v && is_action a (safe_action sys chain.keep v)

-- the states of context c from which stage j is turned to next, and those from which it is stage j or
-- a later one; both are counted from 1
abbrev pub turning_to : System → UntilSets → ℕ → ℕ → SetOfVectors
turning_to sys chain c j v = until_win_at sys chain c v && (until_advance sys chain c v == j)

abbrev pub turning_from : System → UntilSets → ℕ → ℕ → SetOfVectors
turning_from sys chain c j v =
    until_win_at sys chain c v && nat_le j (until_advance sys chain c v)

-- the sets from which preimages are made, each with its guard: the initial states and all states,
-- what is left of the states of the condition to keep after k rounds, and for each stage, in its
-- guard, the states from which it is met within k steps
pub data IsRoundSet (task : Task) (chain : UntilSets) : SetOfVectors → Function → Type 0 where
  initial_states : IsRoundSet task chain anywhere (initial_set task)
  all_states : IsRoundSet task chain anywhere (space_set task)
  left : (k : ℕ) → IsRoundSet task chain anywhere (function_of (fluent_count task)
      (safe_round (system_of task) (kept_states (system_of task) chain.keep) k))
  near_stage : (i k : ℕ) → i < length chain.stages
      → IsRoundSet task chain (guard_in chain i) (function_of (fluent_count task)
      (near_in (system_of task) chain i k))

-- all the sets: those of the task, the parts of the until-chain's conditions, those of the round
-- sets, where there is a plan, the states to which it gives an action, and the states of each context
-- by the stage that they turn to. Past the steps that the plan takes to meet a stage the states to
-- which it gives an action towards it stay the same
pub data IsWorkingSet (task : Task) (chain : UntilChain) : Function → Type 0 where
  of_task : (set : Function) → IsMadeByEncode task set → IsWorkingSet task chain set
  of_guard : (stage : UntilStage) (set : Function) → Contains chain.stages.items stage
      → IsPartOf stage.guard set → IsWorkingSet task chain set
  of_target : (stage : UntilStage) (set : Function) → Contains chain.stages.items stage
      → IsPartOf stage.target set → IsWorkingSet task chain set
  of_keep : (set : Function) → IsPartOf chain.keep set → IsWorkingSet task chain set
  of_round : (set : Function) → IsMadeInside task (IsRoundSet task (until_sets chain)) set
      → IsWorkingSet task chain set
  taken : (i k a : ℕ) → covers_until (system_of task) (until_sets chain) ≡ true
      → i < length chain.stages.items → a < action_count task
      → IsWorkingSet task chain (function_of (fluent_count task)
      (taken_within (system_of task) (until_sets chain) i k a))
  taken_last : (a : ℕ) → covers_until (system_of task) (until_sets chain) ≡ true
      → a < action_count task → IsWorkingSet task chain
      (function_of (fluent_count task) (taken_at_end (system_of task) (until_sets chain) a))
  turned : (c j : ℕ) → 1 ≤ c → c ≤ j → j ≤ suc (length chain.stages.items)
      → IsWorkingSet task chain (function_of (fluent_count task)
      (turning_to (system_of task) (until_sets chain) c j))
  turned_later : (c j : ℕ) → 1 ≤ c → c ≤ j → j ≤ suc (length chain.stages.items)
      → IsWorkingSet task chain (function_of (fluent_count task)
      (turning_from (system_of task) (until_sets chain) c j))

-- w is greater by two than the number of fluents, and than the nodes of each of these sets, at least
pub record BoundsUntilSets (w : ℕ) (task : Task) (chain : UntilChain) : Type 0 where
  pub fluents : fluent_count task + 2 ≤ w
  pub small : (set : Function) → IsWorkingSet task chain set → Small (fluent_count task) w set
