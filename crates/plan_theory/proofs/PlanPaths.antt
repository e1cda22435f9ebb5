-- What follows a configuration that a complete plan reaches: some path of every length, and what
-- holds of all that follow leads the state on.
use Rattle.std.proofs.Common.{◌≡◌, ℕ, zero, suc, true, List, [], ◌∷◌, length, refl, ap, subst}
use Rattle.task_core.specs.ContextPlans.{Configuration, ContextPlan, Follows, IsComplete, IsReachable}
use Rattle.task_core.specs.Paths.{IsPath}
use Rattle.task_core.specs.Cubes.{SetOfVectors}
use Rattle.task_core.specs.Systems.{System, IsSystem}
use Rattle.plan_theory.specs.Safe.{some_must_lead}
use Rattle.plan_theory.proofs.Leading.{some_leads_from}
use Rattle.plan_theory.proofs.PlanRuns.{follower, reached_next}
use Rattle.list_laws.proofs.Elements.{some_element}

-- a path of n steps from x
pub record PathOf (sys : System) (plan : ContextPlan) (n : ℕ) (x : Configuration) : Type 0 where
  pub rest : List Configuration
  pub long : length rest ≡ n
  pub path : IsPath (Follows sys plan) x rest

module _ (sys : System) (plan : ContextPlan) (complete : IsComplete sys plan) where
  pub some_path : (n : ℕ) (x : Configuration) → IsReachable sys plan x → PathOf sys plan n x
  some_path zero x reached = record { rest = []; long = refl; path = tt }
  some_path (suc n) x reached =
      let on = complete x reached in
      let t = some_element (sys.next x.state on.action) on.executable in
      let y = follower sys plan x on t.0 t.1 in
      let more = some_path n y.node (reached_next sys plan x y.node reached y.follows) in
      record { rest = y.node ∷ more.rest; long = ap suc more.long; path = (y.follows, more.path) }

module _ (sys : System) (ok : IsSystem sys) (plan : ContextPlan) (complete : IsComplete sys plan) where
  -- a set that has every configuration which follows leads the state on
  pub led_by : (set : SetOfVectors) (x : Configuration) → IsReachable sys plan x → ((y : Configuration) → Follows sys plan x y → set y.state ≡ true) → some_must_lead sys set x.state ≡ true
  led_by set x reached each =
      let on = complete x reached in
      some_leads_from sys ok set x.state on.action on.executable
      (λ t o. let y = follower sys plan x on t o in subst (λ s. set s ≡ true) y.state (each y.node y.follows))
