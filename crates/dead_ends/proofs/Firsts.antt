-- The first of some states that is a dead end.
use Rattle.std.proofs.Common.{◌≡◌, ◌<◌, ◌+◌, ℕ, List, Some, get_or, length, map, subst, sym, ap, ◌∙◌, slice_get, arith}
use borrow.Author.Count.{below_more}
use Rattle.std.specs.Option.{option_map}
use Rattle.std.proofs.lemmas.Option.{same_Some, slice_get-get_or, slice_get-map, slice_get_within}
use Rattle.std.proofs.lemmas.List.{length-map}
use Rattle.dead_ends.specs.DeadEnds.{HasPlanFrom, IsDeadEnd}
use Rattle.dead_ends.specs.Started.{HasOutlook, IsFirstStart, IsFrontOf, IsLike, StartsAt}
use Rattle.dead_ends.specs.ToldRuns.{IsFirstDeadEnd}
use Rattle.dead_ends.specs.declared.outlooks.Outlook.{Outlook}
use Rattle.dead_ends.specs.declared.outlooks.Outlook.TheVariants.{DeadEnd, Plan}
use Rattle.dead_ends.proofs.Starts.{dead_alike, like_count, plan_alike}
use Rattle.dead_ends.proofs.Told.{front_dead}
use Rattle.task_core.specs.States.{vector}
use Rattle.task_core.specs.Systems.{System}
use Rattle.task_core.specs.Tasks.{fluent_count, initial_states, system_of}
use Rattle.task_core.specs.Vectors.{Vector}
use Rattle.task_core.specs.declared.classes.Class.{Class}
use Rattle.task_core.specs.declared.states.State.{State}
use Rattle.task_core.specs.declared.tasks.Task.{Task}

-- the vector of the state at a place
pub vector_at : (n : ℕ) (states : List State) (state : State) (place : ℕ) → place < length states → state ≡ get_or states place state
    → slice_get (map (vector n) states) place ≡ Some (vector n state)
vector_at n states state place below is =
    slice_get-map (vector n) states place
    ∙ ap (option_map (vector n)) (slice_get-get_or states place state below ∙ ap Some (sym is))

abbrev PlansBefore : Class → Task → List State → ℕ → Type 0
PlansBefore class task states place = (k : ℕ) (v : Vector) → k < place → slice_get (map (vector (fluent_count task)) states) k ≡ Some v → HasPlanFrom class (system_of task) v

-- a state that is a dead end, by a task that is alike
pub dead_here : (class : Class) (task other : Task) (states : List State) (state : State) (place : ℕ) (outlook : Outlook) → IsLike task other → place < length states → state ≡ get_or states place state
    → HasOutlook class (system_of other) (vector (fluent_count other) state) outlook → outlook ≡ DeadEnd → PlansBefore class task states place
    → IsFirstDeadEnd class (system_of task) (map (vector (fluent_count task)) states) place
dead_here class task other states state place outlook like below is has dead first =
    let found : IsDeadEnd class (system_of other) (vector (fluent_count other) state) = subst (HasOutlook class (system_of other) (vector (fluent_count other) state)) dead has in
    record {
      state = vector (fluent_count task) state;
      placed = vector_at (fluent_count task) states state place below is;
      dead = subst (λ (n : ℕ). IsDeadEnd class (system_of task) (vector n state)) (like_count task other like) (dead_alike class task other (vector (fluent_count other) state) like found);
      first = first;
    }

-- one more state from which there is a plan
pub plan_here : (class : Class) (task other : Task) (states : List State) (state : State) (place : ℕ) (outlook : Outlook) → IsLike task other → place < length states → state ≡ get_or states place state
    → HasOutlook class (system_of other) (vector (fluent_count other) state) outlook → outlook ≡ Plan → PlansBefore class task states place
    → (k : ℕ) (v : Vector) → k < place + 1 → slice_get (map (vector (fluent_count task)) states) k ≡ Some v → HasPlanFrom class (system_of task) v
plan_here class task other states state place outlook like below is has plan first =
    let each = below_more (λ k. (v : Vector) → slice_get (map (vector (fluent_count task)) states) k ≡ Some v → HasPlanFrom class (system_of task) v) place
    (λ k less v at. first k v less at)
    (λ v at.
    let found : HasPlanFrom class (system_of other) (vector (fluent_count other) state) = subst (HasOutlook class (system_of other) (vector (fluent_count other) state)) plan has in
    let here : HasPlanFrom class (system_of task) (vector (fluent_count task) state) = subst (λ (n : ℕ). HasPlanFrom class (system_of task) (vector n state)) (like_count task other like) (plan_alike class task other (vector (fluent_count other) state) like found) in
    subst (HasPlanFrom class (system_of task)) (same_Some (vector (fluent_count task) state) v (sym (vector_at (fluent_count task) states state place below is) ∙ at)) here) in
    λ k v less at. each k less v at

-- the first initial state that is a dead end, in which another task begins
pub first_start : (class : Class) (task middle other : Task) (states : List State) (state : State) (number : ℕ)
    → IsFrontOf (initial_states task) (map (vector (fluent_count task)) states)
    → IsFirstDeadEnd class (system_of task) (map (vector (fluent_count task)) states) number
    → number < length states → state ≡ get_or states number state
    → IsLike task middle → StartsAt (vector (fluent_count middle) state) other → IsFirstStart class task number other
first_start class task middle other states state number front dead below is like starts =
    let n = fluent_count task in
    let same : dead.state ≡ vector n state = same_Some dead.state (vector n state) (sym dead.placed ∙ vector_at n states state number below is) in
    let whole = front_dead class (system_of task) (initial_states task) (map (vector n) states) number front dead in
    record {
      first = whole.0;
      starts = subst (λ (v : Vector). StartsAt v other) (ap (λ (k : ℕ). vector k state) (like_count task middle like) ∙ sym same ∙ sym whole.1) starts;
    }

-- its place is one of the list
pub place_within : (class : Class) (sys : System) (n : ℕ) (states : List State) (place : ℕ) → IsFirstDeadEnd class sys (map (vector n) states) place → place < length states
place_within class sys n states place dead =
    let within = slice_get_within (map (vector n) states) place dead.state dead.placed in
    let long : length (map (vector n) states) ≡ length states = length-map states (vector n) in
    omega (arith, within, long)
