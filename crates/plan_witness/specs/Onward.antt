-- To which configurations the paths of a plan lead on, by their numbers.
use Rattle.std.specs.Prelude.{◌≡◌, ◌↔◌, ℕ, Bool, true, List, Some, length, map, slice_get}
use Rattle.std.specs.List.{filter, range_with_len}
use Rattle.task_core.specs.ContextPlans.{Configuration}
use Rattle.task_core.specs.Systems.{System}
use Rattle.exec_graph.specs.Executions.{IsReachedBy}
use Rattle.exec_graph.specs.Orders.{AreInOrderMet}
use Rattle.plan_rules.specs.Rules.{PlainPlan}
use Rattle.plan_witness.specs.Ends.{LeadsTo}
use Rattle.plan_witness.specs.Scenes.{place_in, size_in}
use Rattle.plan_witness.specs.declared.scenes.Scene.{Scene}

-- the configurations that the plan may reach, in the order in which a search by breadth meets them: each
-- has the number of its place
pub record AreMet (sys : System) (plan : PlainPlan) (met : List Configuration) : Type 0 where
  pub in_order : AreInOrderMet sys plan met
  pub all : (x : Configuration) → IsReachedBy sys plan x → (i : ℕ) × (slice_get met i ≡ Some x)
  pub reached : (i : ℕ) (x : Configuration) → slice_get met i ≡ Some x → IsReachedBy sys plan x

-- some path of the plan, maybe of no step, leads from x to y
abbrev pub LeadsOnTo : System → PlainPlan → Configuration → Configuration → Type 0
LeadsOnTo sys plan x y = LeadsTo sys plan (λ z. z ≡ y) x

-- the numbers of the configurations to which paths of the plan lead from x, least first
pub record AreOnward (sys : System) (plan : PlainPlan) (met : List Configuration) (x : Configuration)
    (numbers : List ℕ) : Type 0 where
  pub is_onward : ℕ → Bool
  pub are : numbers ≡ filter is_onward (range_with_len 0 (length met))
  pub exactly : (i : ℕ) (y : Configuration) → slice_get met i ≡ Some y
      → (is_onward i ≡ true) ↔ LeadsOnTo sys plan x y

-- Private: the configurations of a graph, in the order of their numbers
abbrev pub places_in : Scene → List Configuration
places_in scene = map (place_in scene) (range_with_len 0 (size_in scene))
