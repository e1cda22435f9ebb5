-- The system of the task of a domain and a problem is theirs.
use Rattle.std.proofs.Common.{◌≡◌, ℕ, Bool, true, false, ◌&&◌, ◌||◌, cond, List, [], ◌∷◌, map, length, Option, Some, None, refl, sym, ◌∙◌, ap, ◌==◌}
use Rattle.std.specs.Prelude.{slice_get}
use Rattle.std.specs.List.{filter, list_all, list_any}
use Rattle.std.specs.Option.{option_and_then, option_map, option_map_or}
use Rattle.std.proofs.lemmas.Bool.{and_right}
use Rattle.std.proofs.Math.Nat.{zero-add}
use Rattle.std.proofs.Math.Path.{fun_ext}
use Rattle.task_core.specs.Actions.{after, after_value, change_makes, deletes}
use Rattle.task_core.specs.Conditions.{holds}
use Rattle.task_core.specs.Initial.{after_entries, entries_of, names_it}
use Rattle.task_core.specs.Names.{name_bytes}
use Rattle.task_core.specs.Tasks.{action_count, fluent_count, in_space, initial_states, initial_vectors, next_states, outcomes_at, states_after, system_of}
use Rattle.task_core.specs.Tasks as tasks
use Rattle.task_core.specs.Vectors.{Vector, all_vectors, same_value, value_of}
use Rattle.task_core.specs.declared.literals.Lit.{Lit}
use Rattle.task_core.specs.declared.conditions.Cond.{Cond}
use Rattle.task_core.specs.declared.actions.Outcome.{Outcome}
use Rattle.task_core.specs.declared.actions.GroundAction.{GroundAction}
use Rattle.task_core.specs.declared.tasks.Task.{Task}
use Rattle.pddl_ast.specs.Trees.{AtomTree, FormulaTree, DomainTree, ProblemTree}
use Rattle.pddl_system.specs.Fluents.{fluents}
use Rattle.pddl_system.specs.GroundAtoms.{same_atom}
use Rattle.pddl_system.specs.Instances.{Instance, kept_instances}
use Rattle.pddl_system.specs.Laws.{TaskHasTheSystem}
use Rattle.pddl_system.specs.Outcomes.{ChangeTree, Condition, OutcomeTree, may_change, outcomes_of, possible_changes}
use Rattle.pddl_system.specs.Settings.{Setting, setting}
use Rattle.pddl_system.specs.States.{atom_holds, comes_about, formula_holds, is_state, makes, state_after, value_after, value_at}
use Rattle.pddl_system.specs.Systems.{after_of, facts_of, initial_of, next_of, states_where, system, vectors_after}
use Rattle.pddl_system.specs.Systems as systems
use Rattle.ctl_syntax.specs.Conditions.{CondTree, condition_value}
use Rattle.pddl_system.specs.Tasks.{ActionTree, TaskTree, action_of, change_of, changed_if, condition_of, outcome_of, task_of}
use Rattle.pddl_system.specs.Values.{action_value, change_value, outcome_value, task_value}
use Rattle.pddl_system.proofs.Lists.{list_all-same, list_any-flat_map, list_any-same, list_any-filter, zip_get, zip_length, zip_map}
use Rattle.pddl_system.proofs.Members.{Apart}
use Rattle.pddl_system.proofs.Numbers.{fluents_apart, number_is, place_is}
use Rattle.pddl_system.proofs.RigidAtoms.{rigid_is_no_fluent}
use Rattle.pddl_system.proofs.Soundness.{RigidIsNoFluent, no_change}
use Rattle.ctl_syntax.proofs.ConditionTrees.{holds_is, tree_holds}
use Rattle.pddl_system.proofs.TreeTruth.{formula_same, stands_for, trees_hold-row}
use Rattle.list_laws.proofs.Elements.{list_any-map, map-range}

-- a change, an outcome and an action that stand for those of the trees do the same

module _ (at : Setting) (fl : List AtomTree) (apart : Apart fl) (rigid : RigidIsNoFluent at fl) (v : Vector) where
  changed_same : (cs : List Condition) → tree_holds (changed_if at fl cs) (value_of v) ≡ list_all (λ (c : Condition). formula_holds at fl v c.formula c.scope) cs
  changed_same [] = refl
  changed_same (c ∷ cs) =
      trees_hold-row (λ (k : Condition). condition_of at fl k.formula k.scope) (c ∷ cs) (value_of v)
      ∙ list_all-same _ _ (λ (k : Condition). formula_same at fl v k.formula k.scope) (c ∷ cs)

  -- at the fluent with the number k
  module _ (k : ℕ) (a : AtomTree) (is_at : slice_get fl k ≡ Some a) (positive : Bool) where
    -- whether a literal under a condition makes it so
    abbrev lit_makes : CondTree × Lit → Bool
    lit_makes x = x.1.fluent.0 == k && same_value x.1.positive positive && tree_holds x.0 (value_of v)

    distributes : (a b c : Bool) → ((a || b) && c) ≡ ((a && c) || (b && c))
    distributes true b true = refl
    distributes true true false = refl
    distributes true false false = refl
    distributes false b c = refl

    lits_make : (c : Cond) (lits : List Lit) → (names_it positive k lits && holds c (value_of v)) ≡ list_any lit_makes (map (λ (lit : Lit). (condition_value c, lit)) lits)
    lits_make c [] = refl
    lits_make c (x ∷ lits) =
        let names : Bool = (x.fluent.0 == k && same_value x.positive positive) in
        distributes names (names_it positive k lits) (holds c (value_of v))
        ∙ ap (λ b. (names && b) || (names_it positive k lits && holds c (value_of v))) (holds_is c (value_of v))
        ∙ ap (λ b. (names && tree_holds (condition_value c) (value_of v)) || b) (lits_make c lits)

    lit_same : (t : ChangeTree) → lit_makes (change_of at fl t) ≡ makes at fl v positive a t
    lit_same t =
        ap (λ b. b && same_value t.positive positive && tree_holds (changed_if at fl t.conditions) (value_of v)) (place_is fl apart k a is_at t.atom)
        ∙ ap (λ b. same_atom a t.atom && same_value t.positive positive && b) (changed_same t.conditions)

    only_possible : (t : ChangeTree) → (may_change at t && makes at fl v positive a t) ≡ makes at fl v positive a t
    only_possible t = by_test (may_change at t) refl
      where
        by_test : (b : Bool) → may_change at t ≡ b → (may_change at t && makes at fl v positive a t) ≡ makes at fl v positive a t
        by_test true e = ap (λ b. b && makes at fl v positive a t) e
        by_test false e =
            ap (λ b. b && makes at fl v positive a t) e
            ∙ sym (and_right (same_atom a t.atom && same_value t.positive positive) (comes_about at fl v t) (no_change at fl v rigid t e))

    changes_same : (o : Outcome) (t : OutcomeTree) → outcome_value o ≡ outcome_of at fl t → list_any (change_makes positive (value_of v) k) o.changes.items ≡ list_any (makes at fl v positive a) t
    changes_same o t e =
        list_any-same (change_makes positive (value_of v) k) (λ c. list_any lit_makes (change_value c)) (λ c. lits_make c.cond c.lits.items) o.changes.items
        ∙ sym (list_any-flat_map lit_makes change_value o.changes.items)
        ∙ ap (list_any lit_makes) e
        ∙ list_any-map lit_makes (change_of at fl) (possible_changes at t)
        ∙ list_any-same _ _ lit_same (possible_changes at t)
        ∙ list_any-filter (may_change at) (makes at fl v positive a) t
        ∙ list_any-same _ _ only_possible t

  value_same : (o : Outcome) (t : OutcomeTree) → outcome_value o ≡ outcome_of at fl t → (k : ℕ) (a : AtomTree) → slice_get fl k ≡ Some a → after_value o (value_of v) k ≡ value_after at fl v t a
  value_same o t e k a is_at =
      let added = changes_same k a is_at true o t e in
      let deleted = changes_same k a is_at false o t e in
      let before : value_of v k ≡ atom_holds at fl v a = sym (ap (value_at v (at.is_fact a)) (number_is fl apart k a is_at)) in
      ap (λ b. cond b true (cond (deletes o (value_of v) k) false (value_of v k))) added
      ∙ ap (λ b. cond (list_any (makes at fl v true a) t) true (cond b false (value_of v k))) deleted
      ∙ ap (λ b. cond (list_any (makes at fl v true a) t) true (cond (list_any (makes at fl v false a) t) false b)) before

  after_same : (o : Outcome) (t : OutcomeTree) → outcome_value o ≡ outcome_of at fl t → after (length fl) o v ≡ state_after at fl v t
  after_same o t e =
      map-range (after_value o (value_of v)) (value_after at fl v t) fl 0
      (λ k a is_at. ap (after_value o (value_of v)) (zero-add k) ∙ value_same o t e k a is_at)

module _ (d : DomainTree) (p : ProblemTree) (task : Task) (is : task_value task ≡ task_of d p) where
  pub count_same : fluent_count task ≡ length (fluents d p)
  count_same = zip_length name_bytes (systems.atom_name d p) task.fluents.items (fluents d p) (ap (λ (t : TaskTree). t.fluents) is)

  actions_are : map action_value task.actions.items ≡ map (action_of d p) (kept_instances d p)
  actions_are = ap (λ (t : TaskTree). t.actions) is

  outcome_counts_same : (a : ℕ) → length (outcomes_at task a) ≡ option_map_or (λ i. length (outcomes_of (setting d p) i)) (slice_get (kept_instances d p) a) 0
  outcome_counts_same a =
      zip_get action_value (action_of d p)
      (λ o q. length (option_map_or (λ (x : GroundAction). x.outcomes.items) o []) ≡ option_map_or (λ i. length (outcomes_of (setting d p) i)) q 0)
      refl
      (λ x i e. zip_length outcome_value (outcome_of (setting d p) (fluents d p)) x.outcomes.items (outcomes_of (setting d p) i) (ap (λ (t : ActionTree). t.outcomes) e))
      task.actions.items (kept_instances d p) actions_are a

  abbrev space : Vector → Bool
  space = is_state (setting d p) (fluents d p) d.invariant

  space_same : in_space task ≡ space
  space_same = fun_ext (λ v. stands_for (setting d p) (fluents d p) v task.invariant d.invariant [] (ap (λ (t : TaskTree). t.invariant) is))

  -- whether the precondition of an action holds, and the vectors after its outcomes, where there is
  -- such an action
  abbrev precondition_of : Vector → Option GroundAction → Bool
  precondition_of v o = option_map_or (λ (x : GroundAction). holds x.exec (value_of v)) o false

  abbrev precondition_at : Vector → Option Instance → Bool
  precondition_at v o = option_map_or (λ (i : Instance). formula_holds (setting d p) (fluents d p) v i.schema.precondition i.objects) o false

  precondition_same : (v : Vector) (a : ℕ) → precondition_of v (slice_get task.actions.items a) ≡ precondition_at v (slice_get (kept_instances d p) a)
  precondition_same v a =
      zip_get action_value (action_of d p) (λ o q. precondition_of v o ≡ precondition_at v q)
      refl
      (λ x i e. stands_for (setting d p) (fluents d p) v x.exec i.schema.precondition i.objects (ap (λ (t : ActionTree). t.exec) e))
      task.actions.items (kept_instances d p) actions_are a

  abbrev vectors_of : Vector → Option GroundAction → List Vector
  vectors_of v o = map (λ q. after (length (fluents d p)) q v) (option_map_or (λ (x : GroundAction). x.outcomes.items) o [])

  abbrev vectors_at : Vector → Option Instance → List Vector
  vectors_at v o = option_map_or (vectors_after (setting d p) (fluents d p) v) o []

  vectors_same : (v : Vector) (a : ℕ) → states_after task v a ≡ vectors_at v (slice_get (kept_instances d p) a)
  vectors_same v a =
      ap (λ n. map (λ q. after n q v) (option_map_or (λ (x : GroundAction). x.outcomes.items) (slice_get task.actions.items a) [])) count_same
      ∙ zip_get action_value (action_of d p) (λ o q. vectors_of v o ≡ vectors_at v q)
      refl
      (λ x i e. zip_map outcome_value (outcome_of (setting d p) (fluents d p)) (λ q. after (length (fluents d p)) q v) (state_after (setting d p) (fluents d p) v)
      (after_same (setting d p) (fluents d p) (fluents_apart d p) (rigid_is_no_fluent d p) v) x.outcomes.items (outcomes_of (setting d p) i) (ap (λ (t : ActionTree). t.outcomes) e))
      task.actions.items (kept_instances d p) actions_are a

  either : {X : Type 0} (b : Bool) (x : X) → cond (b && false) x x ≡ x
  either true x = refl
  either false x = refl

  next_at : (v : Vector) (o : Option Instance) → cond (space v && precondition_at v o) (filter space (vectors_at v o)) [] ≡ option_map_or (next_of (setting d p) (fluents d p) d.invariant v) o []
  next_at v None = either (space v) []
  next_at v (Some i) = refl

  next_states_same : (v : Vector) (a : ℕ) → next_states task v a ≡ option_map_or (next_of (setting d p) (fluents d p) d.invariant v) (slice_get (kept_instances d p) a) []
  next_states_same v a =
      (λ j. cond (space_same j v && precondition_same v a j) (filter (space_same j) (vectors_same v a j)) [])
      ∙ next_at v (slice_get (kept_instances d p) a)

  after_at : (v : Vector) (k : ℕ) (o : Option Instance)
      → cond (space v && precondition_at v o) (option_and_then (λ w. cond (space w) (Some w) None) (slice_get (vectors_at v o) k)) None
      ≡ option_and_then (after_of (setting d p) (fluents d p) d.invariant v k) o
  after_at v k None = either (space v) None
  after_at v k (Some i) = refl

  states_after_same : (v : Vector) (a k : ℕ) → tasks.state_after task v a k ≡ option_and_then (after_of (setting d p) (fluents d p) d.invariant v k) (slice_get (kept_instances d p) a)
  states_after_same v a k =
      (λ j. cond (space_same j v && precondition_same v a j) (option_and_then (λ w. cond (space_same j w) (Some w) None) (slice_get (vectors_same v a j) k)) None)
      ∙ after_at v k (slice_get (kept_instances d p) a)

  initial_vectors_same : initial_vectors task ≡ initial_of (setting d p) (fluents d p) p.entries
  initial_vectors_same =
      ap (λ vs. after_entries (fluent_count task) vs (entries_of task.init)) (ap (λ (t : TaskTree). t.facts) is)
      ∙ ap (λ es. after_entries (fluent_count task) (facts_of (setting d p) (fluents d p)) es) (ap (λ (t : TaskTree). t.entries) is)
      ∙ ap (λ n. after_entries n (facts_of (setting d p) (fluents d p)) (map (systems.entry_over (fluents d p)) p.entries)) count_same

  initial_same : initial_states task ≡ filter space (initial_of (setting d p) (fluents d p) p.entries)
  initial_same = λ j. filter (space_same j) (initial_vectors_same j)

  goal_of : (goal : Option Cond) (wanted : Option FormulaTree) → option_map condition_value goal ≡ option_map (λ f. condition_of (setting d p) (fluents d p) f []) wanted
      → option_map (tasks.states_where task) goal ≡ option_map (states_where (setting d p) (fluents d p) d.invariant) wanted
  goal_of None None e = refl
  goal_of None (Some f) e = absurd (cc)
  goal_of (Some c) None e = absurd (cc)
  goal_of (Some c) (Some f) e =
      let one : condition_value c ≡ condition_of (setting d p) (fluents d p) f [] = cc in
      let same : (v : Vector) → holds c (value_of v) ≡ formula_holds (setting d p) (fluents d p) v f [] = λ v. stands_for (setting d p) (fluents d p) v c f [] one in
      λ j. Some (filter (λ v. space_same j v && same v j) (all_vectors (count_same j)))

  goal_same : option_map (tasks.states_where task) task.goal ≡ option_map (states_where (setting d p) (fluents d p) d.invariant) p.goal
  goal_same = goal_of task.goal p.goal (ap (λ (t : TaskTree). t.goal) is)

  system_same : system_of task ≡ system d p
  system_same = λ i. record {
    fluents = count_same i;
    in_space = space_same i;
    actions = zip_length action_value (action_of d p) task.actions.items (kept_instances d p) actions_are i;
    outcomes = λ a. outcome_counts_same a i;
    initial = initial_same i;
    goal = goal_same i;
    next = λ v a. next_states_same v a i;
    after = λ v a k. states_after_same v a k i;
  }

pub task_has_the_system : TaskHasTheSystem
task_has_the_system d p task is = system_same d p task is
