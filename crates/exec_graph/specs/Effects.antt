-- Private: what outcomes do that do the same in every state.
use Rattle.std.specs.Prelude.{◌≡◌, ℕ, ◌/◌, ◌%◌, ◌==◌, ◌||◌, ◌&&◌, Bool, List, [], map}
use Rattle.std.specs.Prelude.{Option, Some, slice_get, slice_index}
use Rattle.std.specs.List.{range_with_len}
use Rattle.std.specs.Option.{option_map_or}
use Rattle.std.specs.Int.{bit_at}
use Rattle.task_core.specs.States.{IsWithin, truth, vector, words}
use Rattle.task_core.specs.Tasks.{fluent_count, states_after}
use Rattle.task_core.specs.declared.states.State.{State}
use Rattle.task_core.specs.declared.tasks.Task.{Task}
use Rattle.plan_rules.specs.Rules.{PlanNext, always}
use Rattle.exec_graph.specs.declared.effects.Effect.{Effect}
use Rattle.exec_graph.specs.declared.effects.Effects.{Effects}
use Rattle.exec_graph.specs.declared.graphs.Place.{Place}

-- Private: the value of fluent f in the words of a state
abbrev pub truth_in : List ℕ → ℕ → Bool
truth_in ws f = bit_at (slice_index ws (f / 64)) (f % 64) == 1

-- Private: the value of fluent f after an effect in the state s
abbrev pub value_after : Effect → State → ℕ → Bool
value_after effect s f = truth effect.made f || (truth effect.kept f && truth s f)

-- Private: outcome k of action a has the effect in each state
abbrev pub IsEffectOf : Task → ℕ → ℕ → Effect → Type 0
IsEffectOf task a k effect = let n = fluent_count task in (s : State) → IsWithin n s
    → slice_get (states_after task (vector n s) a) k
    ≡ Some (map (value_after effect s) (range_with_len 0 n))

-- Private: the effects of the outcomes of action a, in their order, as far as they are known
abbrev pub AreEffects : Task → ℕ → List (Option Effect) → Type 0
AreEffects task a effects = (k : ℕ) (effect : Effect) → slice_get effects k ≡ Some (Some effect)
    → IsEffectOf task a k effect

-- Private: the effects that are known of an action; none past the last action
abbrev pub effects_at : Effects → ℕ → List (Option Effect)
effects_at effects a =
    option_map_or (λ list. list.items) (slice_get effects.lists.items a) []

-- Private: the effects of each action
abbrev pub AreEffectsOf : Task → Effects → Type 0
AreEffectsOf task effects = (a : ℕ) → AreEffects task a (effects_at effects a)

-- Private: a number is that of the place with these words and this context
pub record StandsAt (places : List Place) (ws : List ℕ) (inside number : ℕ) : Type 0 where
  pub place : Place
  pub is : slice_get places number ≡ Some place
  pub state : words place.state ≡ ws
  pub context : place.context ≡ inside

-- Private: a number is that of the place to which an outcome leads from the state s, by its effect
pub record IsKnownAfter (places : List Place) (s : State) (onward : PlanNext)
    (effects : List (Option Effect)) (outcome number : ℕ) : Type 0 where
  pub place : Place
  pub is : slice_get places number ≡ Some place
  pub next : onward ≡ always place.context
  pub effect : Effect
  pub known : slice_get effects outcome ≡ Some (Some effect)
  pub state : (f : ℕ) → truth place.state f ≡ value_after effect s f
