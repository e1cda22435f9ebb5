-- The sets of states that a search for a patrol goal's plan makes: if each of them has a small
-- diagram, few nodes are enough, however many fluents there are. Rounds and visits are counted from
-- 0 here.
use Rattle.std.specs.Prelude.{◌≡◌, ℕ, suc, ◌+◌, ◌<◌, ◌≤◌, true, false, ◌&&◌, List, Contains, get_or, length}
use Rattle.std.specs.Prelude.{take}
use Rattle.std.specs.List.{list_all}
use Rattle.plan_theory.specs.GuardedSets.{anywhere}
use Rattle.plan_theory.specs.LayerPlans.{is_action}
use Rattle.plan_theory.specs.Patrols.{covers_patrol, patrol_round, patrol_set, visit_near, visit_set}
use Rattle.plan_theory.specs.PatrolPrinted.{patrol_action}
use Rattle.dd_nodes.specs.Subfunctions.{Function}
use Rattle.dd_sets.specs.Rooms.{Small}
use Rattle.encode_task.specs.TaskSets.{initial_set, space_set}
use Rattle.encode_task.specs.WorkingSets.{IsMadeByEncode, IsPartOf}
use Rattle.task_core.specs.Cubes.{SetOfVectors}
use Rattle.task_core.specs.Systems.{System}
use Rattle.task_core.specs.Tasks.{action_count, fluent_count, system_of}
use Rattle.task_core.specs.declared.conditions.Cond.{Cond}
use Rattle.task_core.specs.declared.tasks.Task.{Task}
use Rattle.context_plan.specs.Chains.{visit_sets}
use Rattle.context_plan.specs.WorkingSets.{IsMadeInside, function_of}

-- visit i of some
abbrev pub visit_at : List SetOfVectors → ℕ → SetOfVectors
visit_at visits i = get_or visits i (λ v. false)

-- the states of round r from which visit i is made within k steps in what the round before left
abbrev pub near_visit_in : System → List SetOfVectors → ℕ → ℕ → ℕ → SetOfVectors
near_visit_in sys visits r i = visit_near sys (patrol_round sys visits r) (visit_at visits i)

-- the states from which each of the first j visits can be made there
abbrev pub first_visits_in : System → List SetOfVectors → ℕ → ℕ → SetOfVectors
first_visits_in sys visits r j v = patrol_round sys visits r v
    && list_all (λ visit. visit_set sys (patrol_round sys visits r) visit v) (take j visits)

-- the states of the plan from which visit i is made within k steps and to which action a is given in
-- its context
abbrev pub visit_taken_in : System → List SetOfVectors → ℕ → ℕ → ℕ → SetOfVectors
visit_taken_in sys visits i k a v =
    visit_near sys (patrol_set sys visits) (visit_at visits i) k v
    && is_action a (patrol_action sys visits (suc i) v)

-- the sets from which preimages are made, each with its guard: the initial states and all states,
-- and, in what each round leaves, that set and the states from which a visit is made within k steps
pub data IsRoundSet (task : Task) (visits : List SetOfVectors)
    : SetOfVectors → Function → Type 0 where
  initial_states : IsRoundSet task visits anywhere (initial_set task)
  all_states : IsRoundSet task visits anywhere (space_set task)
  left : (r : ℕ) → IsRoundSet task visits (patrol_round (system_of task) visits r)
      (function_of (fluent_count task) (patrol_round (system_of task) visits r))
  near_visit : (r i k : ℕ) → i < length visits
      → IsRoundSet task visits (patrol_round (system_of task) visits r)
      (function_of (fluent_count task) (near_visit_in (system_of task) visits r i k))

-- all the sets: those of the task, the parts of the conditions, those of the round sets, the states
-- from which each of the first visits can be made, and where there is a plan, those to which it gives
-- an action. Past the steps that it takes to make a visit the last ones stay the same
pub data IsWorkingSet (task : Task) (conds : List Cond) : Function → Type 0 where
  of_task : (set : Function) → IsMadeByEncode task set → IsWorkingSet task conds set
  of_visit : (cond : Cond) (set : Function) → Contains conds cond → IsPartOf cond set
      → IsWorkingSet task conds set
  of_round : (set : Function) → IsMadeInside task (IsRoundSet task (visit_sets conds)) set
      → IsWorkingSet task conds set
  first_visits : (r j : ℕ) → j ≤ length conds → IsWorkingSet task conds
      (function_of (fluent_count task)
      (first_visits_in (system_of task) (visit_sets conds) r j))
  taken : (i k a : ℕ) → covers_patrol (system_of task) (visit_sets conds) ≡ true
      → i < length conds → a < action_count task → IsWorkingSet task conds
      (function_of (fluent_count task)
      (visit_taken_in (system_of task) (visit_sets conds) i k a))

-- w is greater by two than the number of fluents, and than the nodes of each of these sets, at least
pub record BoundsPatrolSets (w : ℕ) (task : Task) (conds : List Cond) : Type 0 where
  pub fluents : fluent_count task + 2 ≤ w
  pub small : (set : Function) → IsWorkingSet task conds set → Small (fluent_count task) w set
