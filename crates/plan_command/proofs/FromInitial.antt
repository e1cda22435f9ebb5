-- What was found from the initial states, or that there is none.
use Rattle.std.proofs.Common.{◌≡◌, ◌≢◌, Bool, [], Option, Some, None, Result, Ok, Err}
use Rattle.std.specs.Prelude.{IfNone, IfOk, IfSome}
use Rattle.dd_sets.specs.declared.errors.SetErr.{SetErr}
use Rattle.context_plan.specs.declared.found.FoundAuto.{FoundAuto}
use Rattle.task_core.specs.Tasks.{initial_states}
use Rattle.task_core.specs.declared.classes.Class.{Class}
use Rattle.task_core.specs.declared.tasks.Task.{Task}
use Rattle.plan_command.specs.FoundGoals.{IsGoalSearched, IsGoalSearchedFrom}
use Rattle.plan_command.specs.FoundPlans.{IsSought, IsSoughtFrom}
use Rattle.plan_command.specs.GoalSets.{GoalSets}
use Rattle.plan_command.specs.declared.class_search.Sought.{Sought}

pub sought_from : (certified : Bool) (class : Class) (t : Task) (r : Result (Option Sought) SetErr) → IfOk r (λ found. IfSome found (λ sought. IsSought certified class t (Ok sought)))
    → IfOk r (λ found. IfSome found (λ _. initial_states t ≢ [])) → IfOk r (λ found. IfNone found (initial_states t ≡ [])) → IsSoughtFrom certified class t r
sought_from certified class t (Err e) found some none = tt
sought_from certified class t (Ok None) found some none = none
sought_from certified class t (Ok (Some sought)) found some none = (some, found)

pub searched_from : (t : Task) (sets : GoalSets) (r : Result (Option FoundAuto) SetErr) → IfOk r (λ found. IfSome found (λ auto. IsGoalSearched t sets (Ok auto)))
    → IfOk r (λ found. IfSome found (λ _. initial_states t ≢ [])) → IfOk r (λ found. IfNone found (initial_states t ≡ [])) → IsGoalSearchedFrom t sets r
searched_from t sets (Err e) found some none = tt
searched_from t sets (Ok None) found some none = none
searched_from t sets (Ok (Some auto)) found some none = (some, found)
