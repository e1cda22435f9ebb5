-- Plans for a patrol goal.
use Rattle.std.specs.Prelude.{◌≡◌, ℕ, ◌≤◌, true, List, Some, length}
use Rattle.task_core.specs.ContextPlans.{Configuration, ContextPlan, IsComplete, IsInitial}
use Rattle.task_core.specs.Cubes.{SetOfVectors}
use Rattle.task_core.specs.Systems.{System, IsVector}
use Rattle.task_core.specs.Vectors.{Vector}
use Rattle.plan_theory.specs.Patrols.{HasPatrol, patrol_set}
use Rattle.plan_theory.specs.PatrolPrinted.{patrol_action, patrol_next}

-- the plan goes on at each configuration that it may reach, and each initial one has the patrol goal
pub record IsPatrolPlan (sys : System) (visits : List SetOfVectors) (plan : ContextPlan)
    : Type 0 where
  pub complete : IsComplete sys plan
  pub has : (x : Configuration) → IsInitial sys x → HasPatrol sys plan visits x

-- no plan with contexts is one, whatever its contexts are and however many
abbrev pub HasNoPatrolPlan : System → List SetOfVectors → Type 0
HasNoPatrolPlan sys visits = (plan : ContextPlan) → IsPatrolPlan sys visits plan → ⊥

-- in each of its states, in each of its contexts, the plan takes the action and goes on in the
-- context that are printed
pub record ActsAsPatrol (sys : System) (visits : List SetOfVectors) (plan : ContextPlan)
    : Type 0 where
  pub acts : (v : Vector) (c : ℕ) → IsVector sys v → 1 ≤ c → c ≤ length visits
      → patrol_set sys visits v ≡ true → plan.act v c ≡ patrol_action sys visits c v
  pub goes_on : (v : Vector) (c : ℕ) (t : Vector) → IsVector sys v → 1 ≤ c → c ≤ length visits
      → patrol_set sys visits v ≡ true → plan.ctxt v c t ≡ Some (patrol_next visits c v)
