-- What is so in every state, and that the parts of the system fit together.
use Rattle.std.proofs.Common.{◌≡◌, ℕ, ◌<◌, Bool, true, false, ◌&&◌, [], map, length, Option, Some, None, refl, sym, ◌∙◌, ap, arith, cond, List, subst}
use Rattle.std.specs.Prelude.{slice_get}
use Rattle.std.specs.List.{Contains, filter, filter_map, list_any, range_with_len}
use Rattle.std.specs.Option.{option_and_then, option_map, option_map_or, unwrap_or}
use Rattle.std.proofs.lemmas.Bool.{and_from, and_parts, false≢true, true≢false, true_from_ne_false}
use Rattle.std.proofs.lemmas.List.{length-map}
use Rattle.std.proofs.lemmas.Option.{slice_get_within}
use Rattle.task_core.specs.Systems.{Exec, IsState}
use Rattle.task_core.specs.Vectors.{Vector, all_vectors}
use Rattle.task_core.proofs.EntryStates.{after_entries_are}
use Rattle.task_core.proofs.StateSpace.{any_of_all, filter_all, next_none, next_numbered, next_some}
use Rattle.task_core.proofs.Vectors.{all_vectors_length, Contains-filter_cases, Contains-map_image}
use Rattle.pddl_ast.specs.Fits.{FitsSchema, known_in}
use Rattle.pddl_ast.specs.Trees.{FormulaTree, DomainTree, ProblemTree}
use Rattle.pddl_system.specs.Fluents.{fluents}
use Rattle.pddl_system.specs.Instances.{Instance, kept_instances}
use Rattle.pddl_system.specs.Laws.{ChangedAtomsAreFluents, DroppedInstancesNeverRun, ExecutableWherePreconditionHolds, FluentsDiffer, ImpossibleChangesNeverCome, KnownValuesAreSo, NamedAtomsAreFluents, OutcomesAreNumbered, RigidAtomsAreNoFluents, TheyHaveASystem, WithoutInvariantEachOutcomeTakesPlace, WithoutInvariantEachVectorIsAState, WithoutInvariantExecutableWherePreconditionHolds, WithoutInvariantInitialVectorsAreStates}
use Rattle.pddl_system.specs.Outcomes.{ChangeTree, OutcomeTree, may_change, outcomes_of}
use Rattle.pddl_system.specs.Settings.{setting}
use Rattle.pddl_system.specs.States.{comes_about, formula_holds, is_state, state_after, value_after}
use Rattle.pddl_system.specs.Systems.{IsExecutable, after_of, facts_of, initial_of, is_allowed, next_of, states_where, system, vectors_after}
use Rattle.pddl_system.specs.Systems as systems
use Rattle.pddl_system.specs.ThreeValues.{Value, may_hold, value}
use Rattle.pddl_system.proofs.NamedAtoms.{effects_have_outcomes}
use Rattle.pddl_system.proofs.NameLaws.{schema_listed}
use Rattle.pddl_system.proofs.Members.{All-Among, Among-slice_get, AllPairs-from_Apart, Among-filter, Among-from_Contains, Contains-from_Among}
use Rattle.pddl_system.proofs.Numbers.{fluents_apart}
use Rattle.pddl_system.proofs.RigidAtoms.{rigid_is_no_fluent}
use Rattle.pddl_system.proofs.Soundness.{known_is_so, no_change}
use Rattle.pddl_system.proofs.TaskParts.{changed_is_fluent, named_is_fluent}

pub known_values_are_so : KnownValuesAreSo
known_values_are_so d p v f scope b is = known_is_so (setting d p) (fluents d p) v (rigid_is_no_fluent d p) f scope b is

known_false : (w : Value) → may_hold w ≡ false → w ≡ Some false
known_false (Some false) h = refl
known_false (Some true) h = absurd (true≢false h)
known_false None h = absurd (true≢false h)

pub dropped_instances_never_run : DroppedInstancesNeverRun
dropped_instances_never_run d p v i dropped =
    known_values_are_so d p v i.schema.precondition i.objects false (known_false (value (setting d p) i.schema.precondition i.objects) dropped)

pub impossible_changes_never_come : ImpossibleChangesNeverCome
impossible_changes_never_come d p v change h = no_change (setting d p) (fluents d p) v (rigid_is_no_fluent d p) change h

-- a change that comes about may come about
may_come : (d : DomainTree) (p : ProblemTree) (v : Vector) (change : ChangeTree) → comes_about (setting d p) (fluents d p) v change ≡ true → may_change (setting d p) change ≡ true
may_come d p v change comes = by_test (may_change (setting d p) change) refl
  where
    by_test : (b : Bool) → may_change (setting d p) change ≡ b → may_change (setting d p) change ≡ true
    by_test true e = e
    by_test false e = absurd (false≢true (sym (impossible_changes_never_come d p v change e) ∙ comes))

pub changed_atoms_are_fluents : ChangedAtomsAreFluents
changed_atoms_are_fluents d p v i outcome change fits_d fits_p kept among listed comes =
    let possible = Among-filter (may_change (setting d p)) change outcome (Among-from_Contains outcome change listed) (may_come d p v change comes) in
    Contains-from_Among (fluents d p) change.atom
    (changed_is_fluent d p fits_d fits_p i (Among-from_Contains (kept_instances d p) i kept) outcome (Among-from_Contains (outcomes_of (setting d p) i) outcome among) change possible)

pub named_atoms_are_fluents : NamedAtomsAreFluents
named_atoms_are_fluents d p entry alternative literal fits_d fits_p e a l =
    Contains-from_Among (fluents d p) literal.atom
    (named_is_fluent d p fits_d fits_p entry (Among-from_Contains p.entries entry e) alternative (Among-from_Contains entry alternative a) literal (Among-from_Contains alternative literal l))

pub fluents_differ : FluentsDiffer
fluents_differ d p = AllPairs-from_Apart (fluents d p) (fluents_apart d p)

pub rigid_atoms_are_no_fluents : RigidAtomsAreNoFluents
rigid_atoms_are_no_fluents d p = rigid_is_no_fluent d p

-- the system

module _ (d : DomainTree) (p : ProblemTree) where
  abbrev inside : Vector → Bool
  inside = is_state (setting d p) (fluents d p) d.invariant

  abbrev allowed : Vector → Instance → Bool
  allowed = is_allowed (setting d p) (fluents d p) d.invariant

  abbrev led_to : Vector → Instance → List Vector
  led_to = vectors_after (setting d p) (fluents d p)

  goal_is_states : (goal : Option FormulaTree) (s : Vector) → Contains (unwrap_or (option_map (states_where (setting d p) (fluents d p) d.invariant) goal) []) s → IsState (system d p) s
  goal_is_states None s (k, h, is) = absurd (omega arith)
  goal_is_states (Some f) s h =
      let kept = Contains-filter_cases (λ v. inside v && formula_holds (setting d p) (fluents d p) v f []) (all_vectors (length (fluents d p))) s h in
      let parts = and_parts (inside s) (formula_holds (setting d p) (fluents d p) s f []) kept.1 in
      record { vector = all_vectors_length (length (fluents d p)) s kept.0; inside = parts.0 }

  initial_is_states : (s : Vector) → Contains (system d p).initial s → IsState (system d p) s
  initial_is_states s h =
      let kept = Contains-filter_cases inside (initial_of (setting d p) (fluents d p) p.entries) s h in
      record {
        vector = after_entries_are (length (fluents d p)) (facts_of (setting d p) (fluents d p)) (map (systems.entry_over (fluents d p)) p.entries) (length-map (fluents d p) (setting d p).is_fact) s kept.0;
        inside = kept.1;
      }

  after_is_vector : (v : Vector) (o : OutcomeTree) → length (state_after (setting d p) (fluents d p) v o) ≡ length (fluents d p)
  after_is_vector v o = length-map (fluents d p) (value_after (setting d p) (fluents d p) v o)

  next_is_states : (v : Vector) (i : Instance) (b : Bool) (t : Vector) → Contains (cond b (filter inside (led_to v i)) []) t → IsState (system d p) t
  next_is_states v i false t (k, h, is) = absurd (omega arith)
  next_is_states v i true t h =
      let kept = Contains-filter_cases inside (led_to v i) t h in
      let image = Contains-map_image (state_after (setting d p) (fluents d p) v) (outcomes_of (setting d p) i) t kept.0 in
      record { vector = sym (ap length image.is) ∙ after_is_vector v image.from; inside = kept.1 }

  nexts_are_states : (v : Vector) (o : Option Instance) (t : Vector) → Contains (option_map_or (next_of (setting d p) (fluents d p) d.invariant v) o []) t → IsState (system d p) t
  nexts_are_states v None t (k, h, is) = absurd (omega arith)
  nexts_are_states v (Some i) t h = next_is_states v i (allowed v i) t h

  only_inside : (v : Vector) (o : Option Instance) → (option_map_or (next_of (setting d p) (fluents d p) d.invariant v) o [] ≡ [] → ⊥) → inside v ≡ true
  only_inside v None some = absurd (some refl)
  only_inside v (Some i) some =
      (and_parts (inside v) (formula_holds (setting d p) (fluents d p) v i.schema.precondition i.objects)
      (true_from_ne_false (allowed v i) (λ e. some (ap (λ b. cond b (filter inside (led_to v i)) []) e)))).0

  only_kept : (v : Vector) (a : ℕ) (o : Option Instance) → slice_get (kept_instances d p) a ≡ o → (option_map_or (next_of (setting d p) (fluents d p) d.invariant v) o [] ≡ [] → ⊥) → a < length (kept_instances d p)
  only_kept v a None e some = absurd (some refl)
  only_kept v a (Some i) e some = slice_get_within (kept_instances d p) a i e

  -- the states to which an instance leads, by the numbers of its outcomes
  numbered : (v : Vector) (o : Option Instance)
      → option_map_or (next_of (setting d p) (fluents d p) d.invariant v) o []
      ≡ filter_map (λ k. option_and_then (after_of (setting d p) (fluents d p) d.invariant v k) o) (range_with_len 0 (option_map_or (λ i. length (outcomes_of (setting d p) i)) o 0))
  numbered v None = refl
  numbered v (Some i) =
      next_numbered (allowed v i) inside (led_to v i)
      ∙ ap (λ n. filter_map (λ k. after_of (setting d p) (fluents d p) d.invariant v k i) (range_with_len 0 n)) (length-map (outcomes_of (setting d p) i) (state_after (setting d p) (fluents d p) v))

  next_of_kept : (v : Vector) (a : ℕ) (i : Instance) → slice_get (kept_instances d p) a ≡ Some i → (system d p).next v a ≡ next_of (setting d p) (fluents d p) d.invariant v i
  next_of_kept v a i is = ap (λ o. option_map_or (next_of (setting d p) (fluents d p) d.invariant v) o []) is

pub they_have_a_system : TheyHaveASystem
they_have_a_system d p = record {
  initial = initial_is_states d p;
  goal = λ s h. goal_is_states d p p.goal s h;
  next = λ s a t h. nexts_are_states d p s (slice_get (kept_instances d p) a) t h;
  inside = λ s a exec. only_inside d p s (slice_get (kept_instances d p) a) exec;
  actions = λ s a exec. only_kept d p s a (slice_get (kept_instances d p) a) refl exec;
}

pub outcomes_are_numbered : OutcomesAreNumbered
outcomes_are_numbered d p v a = numbered d p v (slice_get (kept_instances d p) a)

-- an action leads somewhere exactly where it is allowed and some outcome leads to a state

pub executable_where_precondition_holds : ExecutableWherePreconditionHolds
executable_where_precondition_holds d p v a i is = (there, back)
  where
    there : Exec (system d p) v a → IsExecutable d p v i
    there exec =
        let each = true_from_ne_false (allowed d p v i && list_any (inside d p) (led_to d p v i))
        (λ e. exec (next_of_kept d p v a i is ∙ next_none (allowed d p v i) (inside d p) (led_to d p v i) e)) in
        let parts = and_parts (allowed d p v i) (list_any (inside d p) (led_to d p v i)) each in
        let first = and_parts (inside d p v) (formula_holds (setting d p) (fluents d p) v i.schema.precondition i.objects) parts.0 in
        record { inside = first.0; precondition = first.1; leads = parts.1 }

    back : IsExecutable d p v i → Exec (system d p) v a
    back x none =
        next_some (allowed d p v i) (inside d p) (led_to d p v i)
        (and_from (allowed d p v i) (list_any (inside d p) (led_to d p v i))
        (and_from (inside d p v) (formula_holds (setting d p) (fluents d p) v i.schema.precondition i.objects) x.inside x.precondition) x.leads)
        (sym (next_of_kept d p v a i is) ∙ none)

-- without an invariant

pub each_vector_is_a_state : WithoutInvariantEachVectorIsAState
each_vector_is_a_state d p without v = ap (λ f. formula_holds (setting d p) (fluents d p) v f []) without

pub initial_vectors_are_states : WithoutInvariantInitialVectorsAreStates
initial_vectors_are_states d p without =
    filter_all (inside d p) (initial_of (setting d p) (fluents d p) p.entries) (each_vector_is_a_state d p without)

pub executable_without_invariant : WithoutInvariantExecutableWherePreconditionHolds
executable_without_invariant d p v a i fits without is = (
  λ exec. ((executable_where_precondition_holds d p v a i is).0 exec).precondition,
  λ holds. (executable_where_precondition_holds d p v a i is).1 (record {
    inside = each_vector_is_a_state d p without v;
    precondition = holds;
    leads = any_of_all (inside d p) (led_to d p v i) (each_vector_is_a_state d p without) some;
  }),
)
  where
    some : 0 < length (led_to d p v i)
    some =
        let schema = All-Among (FitsSchema (known_in d)) i.schema d.actions fits.actions (schema_listed d p i (Among-slice_get (kept_instances d p) a i is)) in
        subst (λ n. 0 < n) (sym (length-map (outcomes_of (setting d p) i) (state_after (setting d p) (fluents d p) v)))
        (effects_have_outcomes (known_in d) (setting d p).objects i.schema.effect (length i.schema.parameters) i.objects schema.effect)

pub each_outcome_takes_place : WithoutInvariantEachOutcomeTakesPlace
each_outcome_takes_place d p v a i without is =
    next_of_kept d p v a i is
    ∙ ap (λ b. cond (b && formula_holds (setting d p) (fluents d p) v i.schema.precondition i.objects) (filter (inside d p) (led_to d p v i)) []) (each_vector_is_a_state d p without v)
    ∙ ap (λ vs. cond (formula_holds (setting d p) (fluents d p) v i.schema.precondition i.objects) vs []) (filter_all (inside d p) (led_to d p v i) (each_vector_is_a_state d p without))
