-- What the verdict on the sets means in the system of the task.
use Rattle.std.proofs.Common.{◌≡◌, ℕ, zero, suc, ◌+◌, ◌<◌, ◌≤◌, Bool, true, false, not, ◌&&◌, ◌||◌, List, [], ◌∷◌, ◌++◌, Option, Some, None, drop, take, take-suc, length, option_map, unwrap_or, if◌then◌else◌, refl, sym, ap, subst, ◌∙◌, ◌⊎◌, ⊎_elim, arith}
use Rattle.std.specs.Prelude.{IsSome}
use Rattle.std.specs.Option.{option_map_or}
use Rattle.std.specs.List.{Contains, list_all, list_any, range_with_len}
use Rattle.std.proofs.Math.Path.{fun_ext}
use Rattle.std.proofs.Math.Seq.{drop-cons}
use Rattle.std.proofs.lemmas.Bool.{and_from, and_parts, false≢true, true≢false, not-true, or_cases, cases_lt, or_parts}
use Rattle.std.proofs.lemmas.List.Elements.{All-get_or}
use Rattle.std.proofs.lemmas.List.Folds.{list_any-append}
use Rattle.dd_nodes.specs.NodeList.{Values}
use Rattle.dd_nodes.specs.Subfunctions.{DependsOnly, Function}
use Rattle.dd_ops.specs.Operations.{or_of}
use Rattle.dd_sets.specs.LiveSets.{nothing}
use Rattle.encode_task.specs.TaskSets.{cube_set, exec_set, first_values, goal_set, goal_states_set, initial_set, space_set}
use Rattle.encode_task.proofs.ShownLemmas.{first_are}
use Rattle.encode_task.proofs.SpaceLemmas.{space_depends}
use Rattle.preimage.specs.Preimages.{strong_preimage, weak_preimage}
use Rattle.preimage.proofs.Leads.{exec_at}
use Rattle.preimage.proofs.OutcomeLemmas.{strong_leads, weak_leads}
use Rattle.task_core.specs.Conditions.{holds}
use Rattle.task_core.specs.Cubes.{Cube, matches}
use Rattle.task_core.specs.Systems.{goal_states}
use Rattle.task_core.specs.Tasks.{action_count, fluent_count, in_space, initial_states, is_executable, next_states, states_where, system_of}
use Rattle.task_core.specs.Vectors.{Vector, all_vectors, same_vector, value_of}
use Rattle.task_core.specs.declared.classes.Class.{Class}
use Rattle.task_core.specs.declared.classes.Class.TheVariants.{Weak, Strong, Cyclic}
use Rattle.task_core.specs.declared.conditions.Cond.{Cond}
use Rattle.task_core.specs.declared.tasks.Task.{Task}
use Rattle.task_core.proofs.TaskSystem.{exec_executable, executable_exec, is_system, states_where_has, states_where_holds}
use Rattle.task_core.proofs.Vectors.{all_vectors_has, all_vectors_length, same_vector_equal, same_vector_refl}
use Rattle.list_laws.proofs.Booleans.{and_yes, not_false}
use Rattle.list_laws.proofs.Elements.{Contains-range_with_len, list_all-agree, list_any-agree, list_any-false, list_any-from, list_any-witness}
use Rattle.plan_certs.specs.Certificates.{CanAct, CubeSet, HasNoWayOut, HoldsInitial, HoldsNoGoal, IsWayOut, PlainCertificate, holds_state, is_no_way_out, set_at, some_holds}
use Rattle.plan_rules.specs.Plans.{IsCubeOf}
use Rattle.plan_certs.specs.Named.{AreSetsOf, IsSetOf}
use Rattle.cert_check.specs.Judgements.{IsVerdict, judged_actions, judgement}
use Rattle.cert_check.specs.Sets.{is_left, leaves_by, meets, some_is_left, states_in, states_of, way_out_set}
use Rattle.cert_check.specs.declared.verdict.Flaw.TheVariants.{Initial, Goal, Action}
use Rattle.cert_check.specs.declared.verdict.Judged.TheVariants.{Accepted, Rejected}
use Rattle.cert_check.proofs.LookLemmas.{cube_depends}
use Rattle.std.proofs.lemmas.List.Elements.{All-head, All-tail, All-take}
use Rattle.std.proofs.lemmas.List.{drop_all}

-- the sets of a certificate depend on the task's fluents
in_depends : (task : Task) (set : CubeSet) → IsSetOf (fluent_count task) set → DependsOnly 0 (fluent_count task) (states_in task set)
in_depends task [] below s t same = refl
in_depends task (cube ∷ set) below s t same =
    ap (λ b. (b && space_set task s) || states_in task set s) (cube_depends (fluent_count task) cube (All-head (IsCubeOf (fluent_count task)) cube set below) s t same)
    ∙ ap (λ b. (cube_set cube t && b) || states_in task set s) (space_depends task s t same)
    ∙ ap (λ b. (cube_set cube t && space_set task t) || b) (in_depends task set (All-tail (IsCubeOf (fluent_count task)) cube set below) s t same)

of_depends : (task : Task) (sets : List CubeSet) → AreSetsOf (fluent_count task) sets → DependsOnly 0 (fluent_count task) (states_of task sets)
of_depends task [] below s t same = refl
of_depends task (set ∷ sets) below s t same =
    ap (λ b. b || states_of task sets s) (in_depends task set (All-head (IsSetOf (fluent_count task)) set sets below) s t same)
    ∙ ap (λ b. states_in task set t || b) (of_depends task sets (All-tail (IsSetOf (fluent_count task)) set sets below) s t same)

both_depend : (n : ℕ) (f g : Function) → DependsOnly 0 n f → DependsOnly 0 n g → DependsOnly 0 n (or_of f g)
both_depend n f g one two s t same = ap (λ b. b || g s) (one s t same) ∙ ap (λ b. f t || b) (two s t same)

or_nothing : (x y : Bool) → (x || (y || false)) ≡ (x || y)
or_nothing x true = refl
or_nothing x false = refl

pub union_next : (task : Task) (sets : List CubeSet) (i : ℕ) → i < length sets → or_of (states_of task (take i sets)) (states_in task (set_at sets i)) ≡ states_of task (take (suc i) sets)
union_next task sets i within = fun_ext (λ values.
    sym (ap (λ s. states_of task s values) (take-suc sets i [] within) ∙ list_any-append (λ set. states_in task set values) (take i sets) (set_at sets i ∷ []) ∙ or_nothing (states_of task (take i sets) values) (states_in task (set_at sets i) values)))

module _ (task : Task) where
  -- in a state they are the certificate's
  in_held : (set : CubeSet) (t : Vector) → in_space task t ≡ true → states_in task set (value_of t) ≡ holds_state set t
  in_held set t inside = list_any-agree (λ (cube : Cube). matches cube t && in_space task t) (λ cube. matches cube t) set (λ cube has. and_yes (matches cube t) (in_space task t) inside)

  of_held : (sets : List CubeSet) (t : Vector) → in_space task t ≡ true → states_of task sets (value_of t) ≡ some_holds sets t
  of_held sets t inside = list_any-agree (λ set. states_in task set (value_of t)) (λ set. holds_state set t) sets (λ set has. in_held set t inside)

  -- what they hold is a state
  of_inside : (sets : List CubeSet) (v : Vector) → states_of task sets (value_of v) ≡ true → in_space task v ≡ true
  of_inside sets v held =
      let set = list_any-witness (λ set. states_in task set (value_of v)) sets held in
      let cube = list_any-witness (λ cube. cube_set cube (value_of v) && space_set task (value_of v)) set.0 set.2 in
      (and_parts (cube_set cube.0 (value_of v)) (in_space task v) cube.2).1

  next_inside : (v : Vector) (a : ℕ) (t : Vector) → Contains (next_states task v a) t → in_space task t ≡ true
  next_inside v a t has = ((is_system task).next v a t has).inside

  some_next : (set : Function) (p : Vector → Bool) (v : Vector) (a : ℕ) → DependsOnly 0 (fluent_count task) set → ((t : Vector) → in_space task t ≡ true → set (value_of t) ≡ p t) → weak_preimage task a set (value_of v) ≡ list_any p (next_states task v a)
  some_next set p v a only same = weak_leads task a set v only ∙ list_any-agree (λ t. set (value_of t)) p (next_states task v a) (λ t has. same t (next_inside v a t has))

  every_next : (set : Function) (p : Vector → Bool) (v : Vector) (a : ℕ) → is_executable task v a ≡ true → DependsOnly 0 (fluent_count task) set → ((t : Vector) → in_space task t ≡ true → set (value_of t) ≡ p t) → strong_preimage task a set (value_of v) ≡ list_all p (next_states task v a)
  every_next set p v a executable only same =
      strong_leads task a set v only
      ∙ ap (λ b. b && list_all (λ t. set (value_of t)) (next_states task v a)) executable
      ∙ list_all-agree (λ t. set (value_of t)) p (next_states task v a) (λ t has. same t (next_inside v a t has))

  not_or : (a b : Bool) → (not a && not b) ≡ not (a || b)
  not_or true b = refl
  not_or false b = refl

  module _ (sets : List CubeSet) (below : AreSetsOf (fluent_count task) sets) where
    set_below : (i : ℕ) → i < length sets → IsSetOf (fluent_count task) (set_at sets i)
    set_below i within = All-get_or (IsSetOf (fluent_count task)) sets i [] within below

    first_below : (i : ℕ) → AreSetsOf (fluent_count task) (take i sets)
    first_below i = All-take (IsSetOf (fluent_count task)) i sets below

    one_more : (i : ℕ) → i < length sets → take (suc i) sets ≡ take i sets ++ set_at sets i ∷ []
    one_more i within = take-suc sets i [] within

    -- a way out
    way_at : (class : Class) (i : ℕ) → i < length sets → (v : Vector) (a : ℕ) → is_executable task v a ≡ true
        → way_out_set class task (states_of task (take i sets)) (states_in task (set_at sets i)) a (value_of v) ≡ not (is_no_way_out class sets i (next_states task v a))
    way_at Weak i within v a executable =
        ap (λ b. b && not (strong_preimage task a (states_in task (set_at sets i)) (value_of v))) (exec_at task v a ∙ executable)
        ∙ ap not (every_next (states_in task (set_at sets i)) (holds_state (set_at sets i)) v a executable (in_depends task (set_at sets i) (set_below i within)) (in_held (set_at sets i)))
    way_at Strong i within v a executable =
        ap (λ b. b && not (weak_preimage task a (states_in task (set_at sets i)) (value_of v))) (exec_at task v a ∙ executable)
        ∙ ap not (some_next (states_in task (set_at sets i)) (holds_state (set_at sets i)) v a (in_depends task (set_at sets i) (set_below i within)) (in_held (set_at sets i)))
    way_at Cyclic i within v a executable =
        let f = states_of task (take i sets) in
        let g = states_in task (set_at sets i) in
        let only = of_depends task (take i sets) (first_below i) in
        ap (λ b. (b && not (weak_preimage task a f (value_of v))) && not (strong_preimage task a (or_of f g) (value_of v))) (exec_at task v a ∙ executable)
        ∙ ap (λ b. not b && not (strong_preimage task a (or_of f g) (value_of v))) (some_next f (some_holds (take i sets)) v a only (of_held (take i sets)))
        ∙ ap (λ b. not (list_any (some_holds (take i sets)) (next_states task v a)) && not b)
        (every_next (or_of f g) (some_holds (take (suc i) sets)) v a executable (both_depend (fluent_count task) f g only (in_depends task (set_at sets i) (set_below i within)))
        (λ t inside.
        ap (λ b. b || states_in task (set_at sets i) (value_of t)) (of_held (take i sets) t inside) ∙ ap (λ b. some_holds (take i sets) t || b) (in_held (set_at sets i) t inside)
        ∙ sym (ap (λ s. some_holds s t) (one_more i within) ∙ list_any-append (λ set. holds_state set t) (take i sets) (set_at sets i ∷ []) ∙ or_nothing (some_holds (take i sets) t) (holds_state (set_at sets i) t))))
        ∙ not_or (list_any (some_holds (take i sets)) (next_states task v a)) (list_all (some_holds (take (suc i) sets)) (next_states task v a))

    -- what is in it can be executed
    way_exec : (class : Class) (f g : Function) (a : ℕ) (values : Values) → way_out_set class task f g a values ≡ true → exec_set task a values ≡ true
    way_exec Weak f g a values h = (and_parts _ _ h).0
    way_exec Strong f g a values h = (and_parts _ _ h).0
    way_exec Cyclic f g a values h = (and_parts _ _ (and_parts _ _ h).0).0

    certificate_of : Class → PlainCertificate
    certificate_of class = record { class = class; sets = sets }

    -- a way out that is found
    way_found : (class : Class) (i a : ℕ) → i < length sets → leaves_by class task (states_of task (take i sets)) (set_at sets i) a ≡ true → (v : Vector) × IsWayOut (system_of task) (record { class = class; sets = sets }) i v a
    way_found class i a within found =
        let w = way_out_set class task (states_of task (take i sets)) (states_in task (set_at sets i)) a in
        let cube = list_any-witness (λ cube. meets (fluent_count task) (cube_set cube) w) (set_at sets i) found in
        let v = list_any-witness (λ v. cube_set cube.0 (value_of v) && w (value_of v)) (all_vectors (fluent_count task)) cube.2 in
        let parts = and_parts (cube_set cube.0 (value_of v.0)) (w (value_of v.0)) v.2 in
        let executable = sym (exec_at task v.0 a) ∙ way_exec class (states_of task (take i sets)) (states_in task (set_at sets i)) a (value_of v.0) parts.1 in
        let exec = executable_exec task v.0 a executable in (
          v.0,
          record {
            acts = record {
              set = within;
              state = record { vector = all_vectors_length (fluent_count task) v.0 v.1; inside = (is_system task).inside v.0 a exec };
              held = list_any-from (λ cube. matches cube v.0) (set_at sets i) cube.0 cube.1 parts.0;
              executable = exec;
            };
            leads = not-true (is_no_way_out class sets i (next_states task v.0 a)) (sym (way_at class i within v.0 a executable) ∙ parts.1);
          },
        )

    -- and each there is
    way_missing : (class : Class) (i a : ℕ) → leaves_by class task (states_of task (take i sets)) (set_at sets i) a ≡ false → (v : Vector) → CanAct (system_of task) (record { class = class; sets = sets }) i v a
        → is_no_way_out class sets i (next_states task v a) ≡ true
    way_missing class i a none v acts =
        let w = way_out_set class task (states_of task (take i sets)) (states_in task (set_at sets i)) a in
        let cube = list_any-witness (λ cube. matches cube v) (set_at sets i) acts.held in
        let out = list_any-false (λ cube. meets (fluent_count task) (cube_set cube) w) (set_at sets i) cube.0 none cube.1 in
        let off = list_any-false (λ v. cube_set cube.0 (value_of v) && w (value_of v)) (all_vectors (fluent_count task)) v out (all_vectors_has (fluent_count task) v acts.state.vector) in
        let left : w (value_of v) ≡ false = ap (λ b. b && w (value_of v)) (sym cube.2) ∙ off in
        not_false (is_no_way_out class sets i (next_states task v a)) (sym (way_at class i acts.set v a (exec_executable task v a acts.executable)) ∙ left)

    -- the search for one from set i on
    from_here : Class → ℕ → Bool
    from_here class i = some_is_left class task (states_of task (take i sets)) (drop i sets)

    here_step : (class : Class) (i : ℕ) → i < length sets → from_here class i ≡ (is_left class task (states_of task (take i sets)) (set_at sets i) || from_here class (suc i))
    unfolding from_here
    here_step class i within =
        ap (some_is_left class task (states_of task (take i sets))) (drop-cons sets i [] within)
        ∙ ap (λ f. is_left class task (states_of task (take i sets)) (set_at sets i) || some_is_left class task f (drop (suc i) sets)) (union_next task sets i within)

    here_end : (class : Class) (i : ℕ) → length sets ≤ i → from_here class i ≡ false
    unfolding from_here
    here_end class i past = ap (some_is_left class task (states_of task (take i sets))) (drop_all i sets past)

    left_found : (class : Class) (fuel i : ℕ) → length sets ≤ fuel + i → from_here class i ≡ true
        → (k : ℕ) × (k < length sets) × (is_left class task (states_of task (take k sets)) (set_at sets k) ≡ true)
    left_found class zero i enough found = absurd (true≢false (sym found ∙ here_end class i (omega (arith, enough))))
    left_found class (suc fuel) i enough found =
        ⊎_elim
        (λ (within : i < length sets). ⊎_elim
        (λ (now : is_left class task (states_of task (take i sets)) (set_at sets i) ≡ true). (i, within, now))
        (λ (later : from_here class (suc i) ≡ true). left_found class fuel (suc i) (omega (arith, enough)) later)
        (or_cases (is_left class task (states_of task (take i sets)) (set_at sets i)) (from_here class (suc i)) (sym (here_step class i within) ∙ found)))
        (λ (past : length sets ≤ i). absurd (true≢false (sym found ∙ here_end class i past)))
        (within_or i)
      where
        within_or : (i : ℕ) → (i < length sets) ⊎ (length sets ≤ i)
        within_or i = cases_lt i (length sets)

    left_missing : (class : Class) (i k : ℕ) → from_here class i ≡ false → i + k < length sets → is_left class task (states_of task (take (i + k) sets)) (set_at sets (i + k)) ≡ false
    left_missing class i zero none within =
        let e : i + 0 ≡ i = omega arith in
        subst (λ j. is_left class task (states_of task (take j sets)) (set_at sets j) ≡ false) (sym e)
        (or_parts (is_left class task (states_of task (take i sets)) (set_at sets i)) (from_here class (suc i)) (sym (here_step class i (omega (arith, within))) ∙ none)).0
    left_missing class i (suc k) none within =
        let e : i + suc k ≡ suc i + k = omega arith in
        subst (λ j. is_left class task (states_of task (take j sets)) (set_at sets j) ≡ false) (sym e)
        (left_missing class (suc i) k (or_parts (is_left class task (states_of task (take i sets)) (set_at sets i)) (from_here class (suc i)) (sym (here_step class i (omega (arith, within))) ∙ none)).1 (omega (arith, within)))

    -- the verdict on the actions
    actions_found : (class : Class) → some_is_left class task nothing sets ≡ true → (i : ℕ) × (v : Vector) × (a : ℕ) × IsWayOut (system_of task) (record { class = class; sets = sets }) i v a
    unfolding from_here
    actions_found class found =
        let i = left_found class (length sets) 0 (omega arith) found in
        let a = list_any-witness (leaves_by class task (states_of task (take i.0 sets)) (set_at sets i.0)) (range_with_len 0 (action_count task)) i.2 in
        let v = way_found class i.0 a.0 i.1 a.2 in
        (i.0, v.0, a.0, v.1)

    actions_missing : (class : Class) → some_is_left class task nothing sets ≡ false → HasNoWayOut (system_of task) (record { class = class; sets = sets })
    unfolding from_here
    actions_missing class none i v a acts =
        let same : 0 + i ≡ i = omega arith in
        let left = subst (λ k. is_left class task (states_of task (take k sets)) (set_at sets k) ≡ false) same (left_missing class 0 i none (omega (arith, acts.set))) in
        way_missing class i a
        (list_any-false (leaves_by class task (states_of task (take i sets)) (set_at sets i)) (range_with_len 0 (action_count task)) a left
        (Contains-range_with_len (action_count task) a ((is_system task).actions v a acts.executable))) v acts

    -- the verdict on the initial states
    same_state : (v : Vector) → length v ≡ fluent_count task → first_values (fluent_count task) (value_of v) ≡ v
    same_state v long = first_are (fluent_count task) (value_of v) v long (λ u l. refl)

    initial_has : (v : Vector) → length v ≡ fluent_count task → initial_set task (value_of v) ≡ true → Contains (initial_states task) v
    initial_has v long member =
        let w = list_any-witness (same_vector (first_values (fluent_count task) (value_of v))) (initial_states task) member in
        subst (Contains (initial_states task)) (sym (sym (same_state v long) ∙ same_vector_equal (first_values (fluent_count task) (value_of v)) w.0 w.2)) w.1

    has_initial : (v : Vector) → Contains (initial_states task) v → initial_set task (value_of v) ≡ true
    has_initial v has =
        let long = ((is_system task).initial v has).vector in
        ap (λ u. list_any (same_vector u) (initial_states task)) (same_state v long)
        ∙ list_any-from (same_vector v) (initial_states task) v has (same_vector_refl v)

    initial_found : (class : Class) → meets (fluent_count task) (states_of task sets) (initial_set task) ≡ true → (s : Vector) × HoldsInitial (system_of task) (record { class = class; sets = sets }) s
    initial_found class met =
        let v = list_any-witness (λ v. states_of task sets (value_of v) && initial_set task (value_of v)) (all_vectors (fluent_count task)) met in
        let parts = and_parts (states_of task sets (value_of v.0)) (initial_set task (value_of v.0)) v.2 in
        (v.0, record { initial = initial_has v.0 (all_vectors_length (fluent_count task) v.0 v.1) parts.1; held = sym (of_held sets v.0 (of_inside sets v.0 parts.0)) ∙ parts.0 })

    initial_missing : meets (fluent_count task) (states_of task sets) (initial_set task) ≡ false → (s : Vector) → Contains (initial_states task) s → some_holds sets s ≡ false
    initial_missing none s has =
        let state = (is_system task).initial s has in
        let off = list_any-false (λ v. states_of task sets (value_of v) && initial_set task (value_of v)) (all_vectors (fluent_count task)) s none (all_vectors_has (fluent_count task) s state.vector) in
        sym (of_held sets s state.inside) ∙ (sym (and_yes (states_of task sets (value_of s)) (initial_set task (value_of s)) (has_initial s has)) ∙ off)

    -- and on the goal states
    module _ (cond : Cond) (is : task.goal ≡ Some cond) where
      goals : goal_states (system_of task) ≡ states_where task cond
      goals = ap (λ (g : Option Cond). unwrap_or (option_map (states_where task) g) []) is

      goal_is : goal_states_set task ≡ goal_set task cond
      goal_is = ap (λ (g : Option Cond). option_map_or (goal_set task) g nothing) is

      goal_found : (class : Class) → meets (fluent_count task) (states_of task sets) (goal_states_set task) ≡ true → (s : Vector) × Contains (goal_states (system_of task)) s × (some_holds sets s ≡ true)
      goal_found class met =
          let v = list_any-witness (λ v. states_of task sets (value_of v) && goal_states_set task (value_of v)) (all_vectors (fluent_count task)) met in
          let parts = and_parts (states_of task sets (value_of v.0)) (goal_states_set task (value_of v.0)) v.2 in
          let inside = of_inside sets v.0 parts.0 in
          let holding = and_parts (in_space task v.0) (holds cond (value_of v.0)) (ap (λ (f : Function). f (value_of v.0)) (sym goal_is) ∙ parts.1) in
          (v.0, subst (λ (xs : List Vector). Contains xs v.0) (sym goals) (states_where_has task cond v.0 (all_vectors_length (fluent_count task) v.0 v.1) inside holding.1), sym (of_held sets v.0 inside) ∙ parts.0)

      goal_missing : meets (fluent_count task) (states_of task sets) (goal_states_set task) ≡ false → (s : Vector) → Contains (goal_states (system_of task)) s → some_holds sets s ≡ false
      goal_missing none s has =
          let w = states_where_holds task cond s (subst (λ (xs : List Vector). Contains xs s) goals has) in
          let off = list_any-false (λ v. states_of task sets (value_of v) && goal_states_set task (value_of v)) (all_vectors (fluent_count task)) s none (all_vectors_has (fluent_count task) s w.0.vector) in
          let goal : goal_states_set task (value_of s) ≡ true = ap (λ (f : Function). f (value_of s)) goal_is ∙ and_from (in_space task s) (holds cond (value_of s)) w.0.inside w.1 in
          sym (of_held sets s w.0.inside) ∙ (sym (and_yes (states_of task sets (value_of s)) (goal_states_set task (value_of s)) goal) ∙ off)

      -- the whole verdict
      by_actions : (class : Class) (start : Vector) → HoldsInitial (system_of task) (record { class = class; sets = sets }) start → HoldsNoGoal (system_of task) (record { class = class; sets = sets })
          → (b : Bool) → some_is_left class task nothing sets ≡ b → IsVerdict (system_of task) (record { class = class; sets = sets }) (if b then Rejected Action else Accepted)
      by_actions class start held no_goal true e = let w = actions_found class e in (w.0, w.1, w.2, ((start, held), no_goal, w.3))
      by_actions class start held no_goal false e = record { start = start; initial = held; goal = no_goal; actions = actions_missing class e }

      by_goal : (class : Class) (start : Vector) → HoldsInitial (system_of task) (record { class = class; sets = sets }) start
          → (b : Bool) → meets (fluent_count task) (states_of task sets) (goal_states_set task) ≡ b → IsVerdict (system_of task) (record { class = class; sets = sets }) (if b then Rejected Goal else judged_actions class task sets)
      by_goal class start held true e = let w = goal_found class e in (w.0, ((start, held), record { goal = w.1; held = w.2 }))
      by_goal class start held false e = by_actions class start held (goal_missing e) (some_is_left class task nothing sets) refl

      by_initial : (class : Class) (b : Bool) → meets (fluent_count task) (states_of task sets) (initial_set task) ≡ b
          → IsVerdict (system_of task) (record { class = class; sets = sets }) (if not b then Rejected Initial else if meets (fluent_count task) (states_of task sets) (goal_states_set task) then Rejected Goal else judged_actions class task sets)
      by_initial class true e = let w = initial_found class e in by_goal class w.0 w.1 (meets (fluent_count task) (states_of task sets) (goal_states_set task)) refl
      by_initial class false e = initial_missing e

pub verdict_is : (task : Task) (certificate : PlainCertificate) → AreSetsOf (fluent_count task) certificate.sets → IsSome task.goal → IsVerdict (system_of task) certificate (judgement certificate.class task certificate.sets)
verdict_is task certificate below some = by_goal_of task.goal refl some
  where
    by_goal_of : (goal : Option Cond) → task.goal ≡ goal → IsSome goal → IsVerdict (system_of task) certificate (judgement certificate.class task certificate.sets)
    by_goal_of None e some = absurd (false≢true some)
    by_goal_of (Some cond) e some = by_initial task certificate.sets below cond e certificate.class (meets (fluent_count task) (states_of task certificate.sets) (initial_set task)) refl
