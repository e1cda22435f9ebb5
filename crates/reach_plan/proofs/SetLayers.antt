-- The layers of a task's system as sets on diagrams: the goal, one layer more, and the last one.
use Rattle.std.proofs.Common.{◌≡◌, ℕ, suc, ◌-◌, ◌<◌, Bool, true, false, cond, not, ◌&&◌, ◌||◌, List, [], Some, None, refl, sym, ap, subst, ◌∙◌, ⊎_elim, nat_lt}
use Rattle.std.specs.List.{Contains, find, list_any, range_with_len}
use Rattle.std.specs.Option.{option_and_then, option_map, unwrap_or}
use Rattle.std.proofs.lemmas.Bool.{and_from, and_parts, cases_Bool, cond-true, both_ways, false_from_ne_true, lt-ltb, or_left}
use Rattle.dd_nodes.specs.Subfunctions.{DependsOnly, Function}
use Rattle.dd_ops.specs.Operations.{minus_of, or_of}
use Rattle.task_core.specs.Conditions.{holds}
use Rattle.task_core.specs.Systems.{IsVector, System, goal_states}
use Rattle.task_core.specs.Tasks.{action_count, fluent_count, in_space, is_executable, next_states, states_where, system_of}
use Rattle.task_core.specs.Vectors.{Vector, all_vectors, value_of}
use Rattle.task_core.specs.declared.classes.Class.{Class}
use Rattle.task_core.specs.declared.classes.Class.TheVariants.{Weak, Strong, Cyclic}
use Rattle.task_core.specs.declared.conditions.Cond.{Cond}
use Rattle.task_core.specs.declared.tasks.Task.{Task}
use Rattle.task_core.proofs.TaskSystem.{is_system, states_where_has, states_where_holds}
use Rattle.encode_task.specs.TaskSets.{goal_set}
use Rattle.encode_task.proofs.StateVectors.{same_functions}
use Rattle.preimage.specs.Laws.{StrongLeadsToAll, WeakLeadsToSome}
use Rattle.preimage.proofs.Leads.{all_lead}
use Rattle.plan_theory.specs.Classes.{IsStable}
use Rattle.plan_theory.specs.Layers.{action_numbers, layer, leads_by}
use Rattle.reach_plan.specs.LayerSets.{AreTakers, IsLayerSet, class_preimage, grown, taken_by}
use Rattle.plan_theory.specs.LayerPlans.{action_of_rank, chosen_action, is_action, takers}
use Rattle.plan_theory.proofs.ClassLayers.{chosen_zero, layer-zero, layer-zero_goal, rank_within-None, step_choice}
use Rattle.list_laws.proofs.Elements.{list_all-agree, list_any-agree}
use Rattle.plan_theory.proofs.FewerStates.{fewer_outside}
use Rattle.plan_theory.proofs.FirstActions.{first_is}
use Rattle.plan_theory.proofs.RoundSteps.{held}

-- the goal states are layer 0
pub goal_is_layer : (class : Class) (task : Task) (goal : Cond) → task.goal ≡ Some goal → DependsOnly 0 (fluent_count task) (goal_set task goal) → IsLayerSet class task 0 (goal_set task goal)
goal_is_layer class task goal is depends = record { depends = depends; agrees = agrees }
  where
    states : goal_states (system_of task) ≡ states_where task goal
    states = ap (λ o. unwrap_or (option_map (states_where task) o) []) is

    agrees : (v : Vector) → IsVector (system_of task) v → goal_set task goal (value_of v) ≡ layer class (system_of task) 0 v
    agrees v long = ⊎_elim
        (λ (h : goal_set task goal (value_of v) ≡ true).
        let both = and_parts (in_space task v) (holds goal (value_of v)) h in
        h ∙ sym (layer-zero class (system_of task) v (subst (λ xs. Contains xs v) (sym states) (states_where_has task goal v long both.0 both.1))))
        (λ (h : goal_set task goal (value_of v) ≡ false).
        h ∙ sym (false_from_ne_true (layer class (system_of task) 0 v) (λ e.
        let found = states_where_holds task goal v (subst (λ xs. Contains xs v) states (layer-zero_goal class (system_of task) v e)) in
        both_ways (goal_set task goal (value_of v)) h (and_from (in_space task v) (holds goal (value_of v)) found.0.inside found.1))))
        (cases_Bool (goal_set task goal (value_of v)))

-- at first no action is taken
pub none_take : (class : Class) (task : Task) → AreTakers class task 0 (λ a values. false)
none_take class task = record { takes = λ a v below is. sym (ap (is_action a) (chosen_zero class (system_of task) v)) }

-- the preimages of a layer
module _ (weak : WeakLeadsToSome) (strong : StrongLeadsToAll) (task : Task) (k : ℕ) (set : Function) where
  pub preimage_leads : (class : Class) → IsLayerSet class task k set → (v : Vector) (a : ℕ) → class_preimage class task a set (value_of v) ≡ leads_by class (system_of task) (layer class (system_of task) k) v a
  preimage_leads Weak is v a =
      weak task a set v is.depends
      ∙ list_any-agree (λ t. set (value_of t)) (layer Weak (system_of task) k) (next_states task v a) (λ t among. is.agrees t ((is_system task).next v a t among).vector)
  preimage_leads Strong is v a =
      strong task a set v is.depends
      ∙ ap (λ b. is_executable task v a && b) (list_all-agree (λ t. set (value_of t)) (layer Strong (system_of task) k) (next_states task v a) (λ t among. is.agrees t ((is_system task).next v a t among).vector))
      ∙ all_lead task (layer Strong (system_of task) k) v a
  preimage_leads Cyclic is v a =
      weak task a set v is.depends
      ∙ list_any-agree (λ t. set (value_of t)) (layer Cyclic (system_of task) k) (next_states task v a) (λ t among. is.agrees t ((is_system task).next v a t among).vector)

  -- a layer with its preimages under the first actions, and under all
  pub grown_is : (class : Class) → IsLayerSet class task k set → (v : Vector) → IsVector (system_of task) v → (n : ℕ)
      → grown class task set n (value_of v) ≡ (layer class (system_of task) k v || list_any (leads_by class (system_of task) (layer class (system_of task) k) v) (range_with_len 0 n))
  grown_is class is v long n =
      ap (λ b. b || list_any (λ a. class_preimage class task a set (value_of v)) (range_with_len 0 n)) (is.agrees v long)
      ∙ ap (λ b. layer class (system_of task) k v || b) (list_any-agree (λ a. class_preimage class task a set (value_of v)) (leads_by class (system_of task) (layer class (system_of task) k) v) (range_with_len 0 n) (λ a among. preimage_leads class is v a))

  pub next_layer_set : (class : Class) → IsLayerSet class task k set → (next : Function) → next ≡ grown class task set (action_count task) → DependsOnly 0 (fluent_count task) next → IsLayerSet class task (suc k) next
  next_layer_set class is next made depends = record {
    depends = depends;
    agrees = λ v long. ap (λ (f : Function). f (value_of v)) made ∙ grown_is class is v long (action_count task);
  }

-- what the actions take, one layer on
kept_taken : (x p b : Bool) → (x || (p && not (true || b))) ≡ x
kept_taken true p b = refl
kept_taken false true b = refl
kept_taken false false b = refl

module _ (weak : WeakLeadsToSome) (strong : StrongLeadsToAll) (task : Task) (k : ℕ) (set : Function) (class : Class) (is : IsLayerSet class task k set) (before : ℕ → Function) (taken : AreTakers class task k before) where
  pub next_takers : AreTakers class task (suc k) (taken_by class task set before (action_count task))
  next_takers = record { takes = takes }
    where
      sys : System
      sys = system_of task

      leads : Vector → ℕ → Bool
      leads v = leads_by class sys (layer class sys k) v

      step : (v : Vector) (a : ℕ) → a < action_count task → (b : Bool) → layer class sys k v ≡ b
          → (is_action a (chosen_action class sys k v) || (leads v a && not (b || list_any (leads v) (range_with_len 0 a)))) ≡ is_action a (cond b (chosen_action class sys k v) (find (leads v) (action_numbers sys)))
      step v a below true inside = kept_taken (is_action a (chosen_action class sys k v)) (leads v a) (list_any (leads v) (range_with_len 0 a))
      step v a below false outside =
          let none : chosen_action class sys k v ≡ None = ap (option_and_then (action_of_rank class sys v)) (rank_within-None class sys k v outside) in
          ap (λ o. is_action a o || (leads v a && not (list_any (leads v) (range_with_len 0 a)))) none ∙ first_is (leads v) (action_count task) a below

      takes : (a : ℕ) (v : Vector) → a < action_count task → IsVector sys v → taken_by class task set before (action_count task) a (value_of v) ≡ takers class sys (suc k) a v
      takes a v below long =
          ap (λ (f : Function). f (value_of v)) (cond-true (nat_lt a (action_count task)) (or_of (before a) (minus_of (class_preimage class task a set) (grown class task set a))) (before a) (lt-ltb a (action_count task) below))
          ∙ ap (λ b. b || (class_preimage class task a set (value_of v) && not (grown class task set a (value_of v)))) (taken.takes a v below long)
          ∙ ap (λ b. is_action a (chosen_action class sys k v) || (b && not (grown class task set a (value_of v)))) (preimage_leads weak strong task k set class is v a)
          ∙ ap (λ b. is_action a (chosen_action class sys k v) || (leads v a && not b)) (grown_is weak strong task k set class is v long a)
          ∙ step v a below (layer class sys k v) refl
          ∙ ap (is_action a) (sym (step_choice class sys k v))

-- how many states of a list a set misses
abbrev pub missed : Function → List Vector → ℕ
missed f vs = held (λ v. not (f (value_of v))) vs

-- a layer that is another set than the one before it misses fewer states
pub fewer_next : (class : Class) (task : Task) (k : ℕ) (f g : Function) → IsLayerSet class task k f → IsLayerSet class task (suc k) g → (g ≡ f → ⊥) → missed g (all_vectors (fluent_count task)) < missed f (all_vectors (fluent_count task))
fewer_next class task k f g is next differ =
    let n = fluent_count task in
    let sys = system_of task in
    fewer_outside n (λ v. f (value_of v)) (λ v. g (value_of v))
    (λ v long inside.
    next.agrees v long ∙ or_left (layer class sys k v) (list_any (leads_by class sys (layer class sys k) v) (action_numbers sys)) (sym (is.agrees v long) ∙ inside))
    (λ same. differ (same_functions n g f next.depends is.depends same))

-- a layer that is the same set as the one before it
pub stable_same : (class : Class) (task : Task) (k : ℕ) (f g : Function) → IsLayerSet class task k f → IsLayerSet class task (suc k) g → g ≡ f → IsStable class (system_of task) k
stable_same class task k f g is next same v long = sym (next.agrees v long) ∙ ap (λ (h : Function). h (value_of v)) same ∙ is.agrees v long
