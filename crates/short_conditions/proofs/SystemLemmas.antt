-- Tasks whose parts mean the same have one system.
use Rattle.std.proofs.Common.{◌≡◌, ℕ, Bool, true, false, ◌&&◌, if◌then◌else◌, List, [], length, map, Option, Some, None, refl, sym, ap, ◌∙◌, slice_get}
use Rattle.std.specs.List.{filter, list_any, range_with_len}
use Rattle.std.specs.Option.{option_and_then, option_map, option_map_or}
use Rattle.std.proofs.Math.Path.{fun_ext}
use Rattle.std.proofs.lemmas.List.{length-map}
use Rattle.std.proofs.lemmas.Option.{slice_get-map}
use Rattle.list_laws.proofs.Elements.{list_any-map, map-map}
use Rattle.task_core.specs.Actions.{after, after_value, change_makes}
use Rattle.task_core.specs.Conditions.{holds}
use Rattle.task_core.specs.Cubes.{Cube}
use Rattle.task_core.specs.Initial.{Entry, after_entries, entries_of, names_it}
use Rattle.task_core.specs.Names.{Name}
use Rattle.task_core.specs.States.{vector}
use Rattle.task_core.specs.Systems.{System}
use Rattle.task_core.specs.Tasks.{fluent_count, in_space, initial_states, is_allowed, next_states, outcomes_at, state_after, states_after, states_where, system_of}
use Rattle.task_core.specs.Vectors.{Vector, all_vectors, value_of}
use Rattle.task_core.specs.declared.actions.GroundAction.{GroundAction}
use Rattle.task_core.specs.declared.actions.Outcome.{Outcome}
use Rattle.task_core.specs.declared.conditions.Cond.{Cond}
use Rattle.task_core.specs.declared.states.State.{State}
use Rattle.task_core.specs.declared.tasks.Task.{Task}
use Rattle.short_conditions.specs.Meanings.{Meaning, action_meaning, change_meaning, goal_meaning, outcome_meaning}

abbrev ChangeMeaning : Type 0
ChangeMeaning = Cube × Meaning

abbrev ActionMeaning : Type 0
ActionMeaning = Name × Meaning × List (List ChangeMeaning)

-- what an outcome does, by its meaning
abbrev makes : Bool → (ℕ → Bool) → ℕ → ChangeMeaning → Bool
makes positive value f c = names_it positive f c.0 && c.1 value

abbrev value_after : List ChangeMeaning → (ℕ → Bool) → ℕ → Bool
value_after changes value f =
    if list_any (makes true value f) changes then true else if list_any (makes false value f) changes then false else value f

abbrev vector_after : ℕ → Vector → List ChangeMeaning → Vector
vector_after n v changes = map (value_after changes (value_of v)) (range_with_len 0 n)

abbrev outcomes_in : List ActionMeaning → ℕ → List (List ChangeMeaning)
outcomes_in actions a = option_map_or (λ action. action.2) (slice_get actions a) []

abbrev allowed_in : List ActionMeaning → Meaning → Vector → ℕ → Bool
allowed_in actions inside v a = inside (value_of v) && option_map_or (λ action. action.1 (value_of v)) (slice_get actions a) false

abbrev after_in : ℕ → List ActionMeaning → Vector → ℕ → List Vector
after_in n actions v a = map (vector_after n v) (outcomes_in actions a)

-- a system by the meanings of a task's parts
abbrev system_by : ℕ → List ActionMeaning → Vector → List Entry → Option Meaning → Meaning → System
system_by n actions facts entries goal inside = record {
  fluents = n;
  in_space = λ v. inside (value_of v);
  actions = length actions;
  outcomes = λ a. length (outcomes_in actions a);
  initial = filter (λ v. inside (value_of v)) (after_entries n facts entries);
  goal = option_map (λ (meaning : Meaning). filter (λ v. inside (value_of v) && meaning (value_of v)) (all_vectors n)) goal;
  next = λ v a. if allowed_in actions inside v a then filter (λ v. inside (value_of v)) (after_in n actions v a) else [];
  after = λ v a o. if allowed_in actions inside v a then option_and_then (λ v. if inside (value_of v) then Some v else None) (slice_get (after_in n actions v a) o) else None;
}

makes_is : (positive : Bool) (value : ℕ → Bool) (f : ℕ) (o : Outcome) → list_any (change_makes positive value f) o.changes.items ≡ list_any (makes positive value f) (outcome_meaning o)
makes_is positive value f o = sym (list_any-map (makes positive value f) change_meaning o.changes.items)

after_is : (n : ℕ) (v : Vector) (o : Outcome) → after n o v ≡ vector_after n v (outcome_meaning o)
after_is n v o = ap (λ (g : ℕ → Bool). map g (range_with_len 0 n)) (fun_ext (λ f. value_is (value_of v) f))
  where
    value_is : (value : ℕ → Bool) (f : ℕ) → after_value o value f ≡ value_after (outcome_meaning o) value f
    value_is value f =
        ap (λ b. if b then true else if list_any (change_makes false value f) o.changes.items then false else value f) (makes_is true value f o)
        ∙ ap (λ b. if list_any (makes true value f) (outcome_meaning o) then true else if b then false else value f) (makes_is false value f o)

module _ (task : Task) where
  abbrev count : ℕ
  count = fluent_count task

  abbrev inside : Meaning
  inside = holds task.invariant

  abbrev actions : List ActionMeaning
  actions = map action_meaning task.actions.items

  outcomes_are : (a : ℕ) → map outcome_meaning (outcomes_at task a) ≡ outcomes_in actions a
  outcomes_are a = here (slice_get task.actions.items a) ∙ ap (λ o. option_map_or (λ (action : ActionMeaning). action.2) o []) (sym (slice_get-map action_meaning task.actions.items a))
    where
      here : (o : Option GroundAction) → map outcome_meaning (option_map_or (λ (action : GroundAction). action.outcomes.items) o []) ≡ option_map_or (λ (action : ActionMeaning). action.2) (option_map action_meaning o) []
      here None = refl
      here (Some x) = refl

  allowed_is : (v : Vector) (a : ℕ) → is_allowed task v a ≡ allowed_in actions inside v a
  allowed_is v a = ap (λ b. in_space task v && b) (here (slice_get task.actions.items a) ∙ ap (λ o. option_map_or (λ (action : ActionMeaning). action.1 (value_of v)) o false) (sym (slice_get-map action_meaning task.actions.items a)))
    where
      here : (o : Option GroundAction) → option_map_or (λ (action : GroundAction). holds action.exec (value_of v)) o false ≡ option_map_or (λ (action : ActionMeaning). action.1 (value_of v)) (option_map action_meaning o) false
      here None = refl
      here (Some x) = refl

  afters_are : (v : Vector) (a : ℕ) → states_after task v a ≡ after_in count actions v a
  afters_are v a =
      ap (λ (g : Outcome → Vector). map g (outcomes_at task a)) (fun_ext (λ o. after_is count v o))
      ∙ sym (map-map (vector_after count v) outcome_meaning (outcomes_at task a))
      ∙ ap (map (vector_after count v)) (outcomes_are a)

  goal_is : (goal : Option Cond) → option_map (states_where task) goal ≡ option_map (λ (meaning : Meaning). filter (λ v. inside (value_of v) && meaning (value_of v)) (all_vectors count)) (goal_meaning goal)
  goal_is None = refl
  goal_is (Some goal) = refl

  next_is : (v : Vector) (a : ℕ) → next_states task v a ≡ (if allowed_in actions inside v a then filter (λ v. inside (value_of v)) (after_in count actions v a) else [])
  next_is v a =
      ap (λ b. if b then filter (in_space task) (states_after task v a) else []) (allowed_is v a)
      ∙ ap (λ vs. if allowed_in actions inside v a then filter (in_space task) vs else []) (afters_are v a)

  state_is : (v : Vector) (a o : ℕ) → state_after task v a o ≡ (if allowed_in actions inside v a then option_and_then (λ v. if inside (value_of v) then Some v else None) (slice_get (after_in count actions v a) o) else None)
  state_is v a o =
      ap (λ b. if b then option_and_then (λ v. if inside (value_of v) then Some v else None) (slice_get (states_after task v a) o) else None) (allowed_is v a)
      ∙ ap (λ vs. if allowed_in actions inside v a then option_and_then (λ v. if inside (value_of v) then Some v else None) (slice_get vs o) else None) (afters_are v a)

  abbrev goal_by : Option (List Vector)
  goal_by = option_map (λ (meaning : Meaning). filter (λ v. inside (value_of v) && meaning (value_of v)) (all_vectors count)) (goal_meaning task.goal)

  abbrev next_by : Vector → ℕ → List Vector
  next_by v a = if allowed_in actions inside v a then filter (λ v. inside (value_of v)) (after_in count actions v a) else []

  abbrev made : ℕ → (ℕ → ℕ) → Option (List Vector) → (Vector → ℕ → List Vector) → (Vector → ℕ → ℕ → Option Vector) → System
  made number outcomes goal next after = record {
    fluents = count;
    in_space = in_space task;
    actions = number;
    outcomes = outcomes;
    initial = initial_states task;
    goal = goal;
    next = next;
    after = after;
  }

  pub system_is : system_of task ≡ system_by count actions (vector count task.init.facts) (entries_of task.init) (goal_meaning task.goal) inside
  system_is =
      let outcomes : ℕ → ℕ = λ a. length (outcomes_at task a) in
      let goal : Option (List Vector) = option_map (states_where task) task.goal in
      ap (λ k. made k outcomes goal (next_states task) (state_after task)) (sym (length-map task.actions.items action_meaning))
      ∙ ap (λ (o : ℕ → ℕ). made (length actions) o goal (next_states task) (state_after task)) (fun_ext (λ a. sym (length-map (outcomes_at task a) outcome_meaning) ∙ ap length (outcomes_are a)))
      ∙ ap (λ g. made (length actions) (λ a. length (outcomes_in actions a)) g (next_states task) (state_after task)) (goal_is task.goal)
      ∙ ap (λ (x : Vector → ℕ → List Vector). made (length actions) (λ a. length (outcomes_in actions a)) goal_by x (state_after task)) (fun_ext (λ v. fun_ext (λ a. next_is v a)))
      ∙ ap (λ (y : Vector → ℕ → ℕ → Option Vector). made (length actions) (λ a. length (outcomes_in actions a)) goal_by next_by y) (fun_ext (λ v. fun_ext (λ a. fun_ext (λ o. state_is v a o))))

-- the system of a task of parts that mean the same
pub same_system : (old new : Task) → length new.fluents.items ≡ length old.fluents.items → map action_meaning new.actions.items ≡ map action_meaning old.actions.items
    → new.init.facts ≡ old.init.facts → entries_of new.init ≡ entries_of old.init → goal_meaning new.goal ≡ goal_meaning old.goal → holds new.invariant ≡ holds old.invariant
    → system_of new ≡ system_of old
same_system old new fluents actions facts entries goal inside =
    system_is new
    ∙ ap (λ n. system_by n (map action_meaning new.actions.items) (vector n new.init.facts) (entries_of new.init) (goal_meaning new.goal) (holds new.invariant)) fluents
    ∙ ap (λ xs. system_by (fluent_count old) xs (vector (fluent_count old) new.init.facts) (entries_of new.init) (goal_meaning new.goal) (holds new.invariant)) actions
    ∙ ap (λ (s : State). system_by (fluent_count old) (map action_meaning old.actions.items) (vector (fluent_count old) s) (entries_of new.init) (goal_meaning new.goal) (holds new.invariant)) facts
    ∙ ap (λ es. system_by (fluent_count old) (map action_meaning old.actions.items) (vector (fluent_count old) old.init.facts) es (goal_meaning new.goal) (holds new.invariant)) entries
    ∙ ap (λ g. system_by (fluent_count old) (map action_meaning old.actions.items) (vector (fluent_count old) old.init.facts) (entries_of old.init) g (holds new.invariant)) goal
    ∙ ap (λ h. system_by (fluent_count old) (map action_meaning old.actions.items) (vector (fluent_count old) old.init.facts) (entries_of old.init) (goal_meaning old.goal) h) inside
    ∙ sym (system_is old)
