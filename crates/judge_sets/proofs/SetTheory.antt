-- The sets of a verdict in the system of the task: what their states may do, and that the last ones
-- have all states that may.
use Rattle.std.proofs.Common.{◌≡◌, ℕ, zero, suc, ◌<◌, ◌≤◌, Bool, true, false, not, ◌&&◌, ◌==◌, List, [], ◌∷◌, Option, Some, None, refl, sym, ap, ◌∙◌, subst, ⊎_elim, arith, option_map, unwrap_or}
use Rattle.std.specs.Prelude.{All}
use Rattle.std.specs.List.{Contains, list_all, list_any}
use Rattle.std.specs.Option.{option_map_or}
use Rattle.std.proofs.lemmas.Bool.{and_from, and_parts, cases_lt, eq-eqb, eqb-true, false≢true, true≢false, or_cases, or_left, not_from_false, false_from_ne_true}
use Rattle.std.proofs.lemmas.List.Elements.{All-head, All-tail}
use Rattle.dd_nodes.specs.NodeList.{Values}
use Rattle.dd_nodes.specs.Subfunctions.{DependsOnly, Function}
use Rattle.dd_ops.specs.Operations.{minus_of}
use Rattle.dd_sets.specs.LiveSets.{everything, nothing}
use Rattle.encode_task.specs.TaskSets.{exec_set, goal_set, goal_states_set}
use Rattle.preimage.specs.Preimages.{strong_preimage, weak_preimage}
use Rattle.preimage.proofs.Leads.{exec_at}
use Rattle.preimage.proofs.OutcomeLemmas.{strong_leads, weak_leads}
use Rattle.slot_board.specs.declared.board.Outcomes.{Outcomes}
use Rattle.task_core.specs.Conditions.{holds}
use Rattle.task_core.specs.Cubes.{matches}
use Rattle.task_core.specs.Solutions.{IsReached}
use Rattle.task_core.specs.Systems.{System, Exec, IsSystem, IsVector, goal_states}
use Rattle.task_core.specs.Tasks.{action_count, fluent_count, in_space, initial_states, is_executable, next_states, states_where, system_of}
use Rattle.task_core.specs.Vectors.{Vector, value_of}
use Rattle.task_core.specs.declared.classes.Class.TheVariants.{Weak, Strong, Cyclic}
use Rattle.task_core.specs.declared.conditions.Cond.{Cond}
use Rattle.task_core.specs.declared.tasks.Task.{Task}
use Rattle.task_core.proofs.TaskSystem.{exec_executable, executable_exec, is_system, states_where_has, states_where_holds}
use Rattle.plan_rules.specs.Plans.{IsRuleOf}
use Rattle.plan_rules.specs.Rules.{PlanRule}
use Rattle.list_laws.proofs.Booleans.{not_false, not_true}
use Rattle.list_laws.proofs.Elements.{Contains-cases, Contains-nil, find-None, find-Some, find-found, list_all-at, list_all-from, list_any-false, list_any-from, list_any-none, list_any-witness}
use Rattle.first_match.specs.FirstMatch.{CanFollowFirst, RulesAgree, SolvesAsRun, first_rule, run_table}
use Rattle.judge_sets.specs.Fixpoints.{IsGrown, IsShrunk, hits_of, lost_of, rest_of}
use Rattle.judge_sets.specs.Fixpoints.IsGrown.{begun, grown}
use Rattle.judge_sets.specs.Fixpoints.IsShrunk.{whole, shrunk}
use Rattle.judge_sets.specs.TableSets.{differ_set, end_set, followed_by, matched_set, step_set, taken_set}
use Rattle.first_match.proofs.RunPairs.{advised_from, advised_parts, pair_in, pair_of, reached_first, reached_keeps, reached_more, reached_vector}
use Rattle.judge_sets.proofs.RunTheory.{AllInto, IsClosed, MayStop, SomeInto, SureToStop, cyclic_from, cyclic_to, goes, stop_here, stop_in, stop_later, stops, strong_from, sure_in, weak_from, weak_to}

pub all_at : {X : Type 0} (P : X → Type 0) (xs : List X) (x : X) → All P xs → Contains xs x → P x
all_at P [] x all has = absurd (Contains-nil x has)
all_at P (y ∷ xs) x all has =
    ⊎_elim (λ same. subst P same (All-head P y xs all)) (λ later. all_at P xs x (All-tail P y xs all) later) (Contains-cases y xs x has)

module _ (task : Task) (rules : List PlanRule) where
  abbrev sys : System
  sys = system_of task

  ok : IsSystem (system_of task)
  ok = is_system task

  abbrev Reached : Vector → Type 0
  Reached s = IsReached (system_of task) (run_table (system_of task) rules) s

  -- where an action can be executed
  exec_of : (v : Vector) (a : ℕ) → exec_set task a (value_of v) ≡ true → Exec (system_of task) v a
  exec_of v a h = executable_exec task v a (sym (exec_at task v a) ∙ h)

  exec_to : (v : Vector) (a : ℕ) → Exec (system_of task) v a → exec_set task a (value_of v) ≡ true
  exec_to v a h = exec_at task v a ∙ exec_executable task v a h

  -- the steps are the pairs of the table
  step_pair : (v : Vector) (a : ℕ) → IsVector (system_of task) v → step_set task rules a (value_of v) ≡ true → Contains (run_table (system_of task) rules) (v, a)
  step_pair v a is h =
      let parts = and_parts (taken_set rules a (value_of v)) (exec_set task a (value_of v)) h in
      pair_in (system_of task) ok rules v a (record { vector = is; advised = parts.0; executable = exec_of v a parts.1 })

  pair_step : (v : Vector) (a : ℕ) → Contains (run_table (system_of task) rules) (v, a) → step_set task rules a (value_of v) ≡ true
  pair_step v a c =
      let p = pair_of (system_of task) ok rules v a c in
      and_from (taken_set rules a (value_of v)) (exec_set task a (value_of v)) p.advised (exec_to v a p.executable)

  pair_below : (v : Vector) (a : ℕ) → Contains (run_table (system_of task) rules) (v, a) → a < action_count task
  pair_below v a c = ok.actions v a (pair_of (system_of task) ok rules v a c).executable

  -- where the goal holds
  goal_of : (v : Vector) → IsVector (system_of task) v → goal_states_set task (value_of v) ≡ true → Contains (goal_states (system_of task)) v
  goal_of v is h = go task.goal refl
    where
      go : (o : Option Cond) → task.goal ≡ o → Contains (goal_states (system_of task)) v
      go None e = absurd (false≢true (sym (ap (λ (g : Option Cond). option_map_or (goal_set task) g nothing (value_of v)) e) ∙ h))
      go (Some cond) e =
          let at = and_parts (in_space task v) (holds cond (value_of v)) (sym (ap (λ (g : Option Cond). option_map_or (goal_set task) g nothing (value_of v)) e) ∙ h) in
          subst (λ (xs : List Vector). Contains xs v) (sym (ap (λ (g : Option Cond). unwrap_or (option_map (states_where task) g) []) e)) (states_where_has task cond v is at.0 at.1)

  goal_to : (v : Vector) → Contains (goal_states (system_of task)) v → goal_states_set task (value_of v) ≡ true
  goal_to v has = go task.goal refl
    where
      go : (o : Option Cond) → task.goal ≡ o → goal_states_set task (value_of v) ≡ true
      go None e = absurd (Contains-nil v (subst (λ (xs : List Vector). Contains xs v) (ap (λ (g : Option Cond). unwrap_or (option_map (states_where task) g) []) e) has))
      go (Some cond) e =
          let w = states_where_holds task cond v (subst (λ (xs : List Vector). Contains xs v) (ap (λ (g : Option Cond). unwrap_or (option_map (states_where task) g) []) e) has) in
          ap (λ (g : Option Cond). option_map_or (goal_set task) g nothing (value_of v)) e ∙ and_from (in_space task v) (holds cond (value_of v)) w.0.inside w.1

  -- where the rules are at their end
  end_free : (v : Vector) → end_set task rules (value_of v) ≡ true → first_rule rules v ≡ None
  end_free v h =
      let parts = and_parts (goal_states_set task (value_of v)) (not (matched_set rules (value_of v))) h in
      find-None (λ (rule : PlanRule). matches rule.cube v) rules (not_true (matched_set rules (value_of v)) parts.1)

  end_goal : (v : Vector) → IsVector (system_of task) v → end_set task rules (value_of v) ≡ true → Contains (goal_states (system_of task)) v
  end_goal v is h = goal_of v is (and_parts (goal_states_set task (value_of v)) (not (matched_set rules (value_of v))) h).0

  end_to : (v : Vector) → first_rule rules v ≡ None → Contains (goal_states (system_of task)) v → end_set task rules (value_of v) ≡ true
  end_to v free goal =
      and_from (goal_states_set task (value_of v)) (not (matched_set rules (value_of v))) (goal_to v goal)
      (not_from_false (matched_set rules (value_of v)) (false_from_ne_true (matched_set rules (value_of v)) (λ some.
      let w = find-Some (λ (rule : PlanRule). matches rule.cube v) rules some in
      let e : None ≡ Some w.0 = sym free ∙ w.1 in absurd (cc))))

  -- what grows has states from which the rules may stop, or are sure to
  pub grown_may : (set : Function) → IsGrown Outcomes.Some task rules set → (v : Vector) → IsVector (system_of task) v → set (value_of v) ≡ true → MayStop (system_of task) rules v
  grown_may _ begun v is held = stop_here (system_of task) ok rules v (end_free v held) (end_goal v is held)
  grown_may _ (grown set a low only before) v is held =
      ⊎_elim (λ h. grown_may set before v is h)
      (λ h.
      let parts = and_parts (weak_preimage task a set (value_of v)) (rest_of task rules set a (value_of v)) h in
      let step = and_parts (step_set task rules a (value_of v)) (not (set (value_of v))) parts.1 in
      let w = list_any-witness (λ t. set (value_of t)) (next_states task v a) (sym (weak_leads task a set v only) ∙ parts.0) in
      stop_later (system_of task) ok rules v a w.0 (step_pair v a is step.0) w.1 (grown_may set before w.0 (ok.next v a w.0 w.1).vector w.2))
      (or_cases (set (value_of v)) (hits_of Outcomes.Some task rules set a (value_of v)) held)

  pub grown_sure : (set : Function) → IsGrown Outcomes.Every task rules set → (v : Vector) → IsVector (system_of task) v → set (value_of v) ≡ true → SureToStop (system_of task) rules v
  grown_sure _ begun v is held = stops v (end_free v held) (end_goal v is held)
  grown_sure _ (grown set a low only before) v is held =
      ⊎_elim (λ h. grown_sure set before v is h)
      (λ h.
      let parts = and_parts (strong_preimage task a set (value_of v)) (rest_of task rules set a (value_of v)) h in
      let step = and_parts (step_set task rules a (value_of v)) (not (set (value_of v))) parts.1 in
      let all = and_parts (is_executable task v a) (list_all (λ t. set (value_of t)) (next_states task v a)) (sym (strong_leads task a set v only) ∙ parts.0) in
      goes v a (step_pair v a is step.0) (λ t outcome. grown_sure set before t (ok.next v a t outcome).vector (list_all-at (λ t. set (value_of t)) (next_states task v a) t all.1 outcome)))
      (or_cases (set (value_of v)) (hits_of Outcomes.Every task rules set a (value_of v)) held)

  grown_ends : (outcomes : Outcomes) (set : Function) → IsGrown outcomes task rules set → (values : Values) → end_set task rules values ≡ true → set values ≡ true
  grown_ends outcomes _ begun values h = h
  grown_ends outcomes _ (grown set a low only before) values h = or_left (set values) (hits_of outcomes task rules set a values) (grown_ends outcomes set before values h)

  -- what has nothing to gain has all of them
  in_set : (led set step : Bool) → led ≡ true → step ≡ true → (led && (step && not set)) ≡ false → set ≡ true
  in_set led true step a b none = refl
  in_set led false step a b none = absurd (true≢false (sym (and_from led (step && true) a (and_from step true b refl)) ∙ none))

  module _ (set : Function) (only : DependsOnly 0 (fluent_count task) set) where
    abbrev X : Vector → Bool
    X v = set (value_of v)

    closed_some : IsGrown Outcomes.Some task rules set → ((a : ℕ) → a < action_count task → hits_of Outcomes.Some task rules set a ≡ nothing) → IsClosed (system_of task) rules X (SomeInto (system_of task) X)
    closed_some by none = record {
      ends = λ s is free goal. grown_ends Outcomes.Some set by (value_of s) (end_to s free goal);
      steps = λ s a pair into.
          in_set (weak_preimage task a set (value_of s)) (set (value_of s)) (step_set task rules a (value_of s))
          (weak_leads task a set s only ∙ list_any-from (λ t. set (value_of t)) (next_states task s a) into.0 into.1 into.2)
          (pair_step s a pair) (ap (λ (f : Function). f (value_of s)) (none a (pair_below s a pair)));
    }

    closed_every : IsGrown Outcomes.Every task rules set → ((a : ℕ) → a < action_count task → hits_of Outcomes.Every task rules set a ≡ nothing) → IsClosed (system_of task) rules X (AllInto (system_of task) X)
    closed_every by none = record {
      ends = λ s is free goal. grown_ends Outcomes.Every set by (value_of s) (end_to s free goal);
      steps = λ s a pair into.
          in_set (strong_preimage task a set (value_of s)) (set (value_of s)) (step_set task rules a (value_of s))
          (strong_leads task a set s only ∙ and_from (is_executable task s a) (list_all (λ t. set (value_of t)) (next_states task s a))
          (exec_executable task s a (pair_of (system_of task) ok rules s a pair).executable)
          (list_all-from (λ t. set (value_of t)) (next_states task s a) (λ t has. into t has)))
          (pair_step s a pair) (ap (λ (f : Function). f (value_of s)) (none a (pair_below s a pair)));
    }

    pub may_in : IsGrown Outcomes.Some task rules set → ((a : ℕ) → a < action_count task → hits_of Outcomes.Some task rules set a ≡ nothing) → (s : Vector) → IsVector (system_of task) s → MayStop (system_of task) rules s → set (value_of s) ≡ true
    may_in by none = stop_in (system_of task) ok rules X (closed_some by none)

    pub strong_in : IsGrown Outcomes.Every task rules set → ((a : ℕ) → a < action_count task → hits_of Outcomes.Every task rules set a ≡ nothing) → SolvesAsRun Strong (system_of task) rules → (s : Vector) → Contains (initial_states task) s → set (value_of s) ≡ true
    strong_in by none run s initial = sure_in (system_of task) ok rules X (closed_every by none) run s initial

  -- what shrinks keeps what is reached, where all of that was there at first
  no_loss : (step set led : Bool) → set ≡ true → (step ≡ true → led ≡ true) → (set && not ((step && set) && not led)) ≡ true
  no_loss true true led a b = ap (λ l. not (not l)) (b refl)
  no_loss false true led a b = refl
  no_loss step false led a b = absurd (false≢true a)

  pub shrunk_keeps : (from set : Function) → IsShrunk task rules from set → ((s : Vector) → Reached s → from (value_of s) ≡ true) → (s : Vector) → Reached s → set (value_of s) ≡ true
  shrunk_keeps from _ whole first s reached = first s reached
  shrunk_keeps from _ (shrunk set a low only before) first s reached =
      no_loss (step_set task rules a (value_of s)) (set (value_of s)) (strong_preimage task a set (value_of s)) (shrunk_keeps from set before first s reached)
      (λ step.
      let pair = step_pair s a (reached_vector (system_of task) ok rules s reached) step in
      strong_leads task a set s only
      ∙ and_from (is_executable task s a) (list_all (λ t. set (value_of t)) (next_states task s a))
      (exec_executable task s a (pair_of (system_of task) ok rules s a pair).executable)
      (list_all-from (λ t. set (value_of t)) (next_states task s a) (λ t has. shrunk_keeps from set before first t (reached_more (system_of task) ok rules s t reached (record { action = a; pair = pair; outcome = has })))))

  pub shrunk_part : (from set : Function) → IsShrunk task rules from set → (values : Values) → set values ≡ true → from values ≡ true
  shrunk_part from _ whole values h = h
  shrunk_part from _ (shrunk set a low only before) values h = shrunk_part from set before values (and_parts (set values) (not (lost_of task rules set a values)) h).0

  -- what has nothing to lose is left by no step
  led_on : (step set led : Bool) → step ≡ true → set ≡ true → ((step && set) && not led) ≡ false → led ≡ true
  led_on step set true a b none = refl
  led_on step set false a b none = absurd (true≢false (sym (and_from (step && set) true (and_from step set a b) refl) ∙ none))

  pub shrunk_stays : (set : Function) → DependsOnly 0 (fluent_count task) set → ((a : ℕ) → a < action_count task → lost_of task rules set a ≡ nothing) → ((s : Vector) → Contains (initial_states task) s → set (value_of s) ≡ true) → (s : Vector) → Reached s → set (value_of s) ≡ true
  shrunk_stays set only none first =
      reached_keeps (system_of task) ok rules (λ s. set (value_of s) ≡ true) first
      (λ s t held lead.
      let led = led_on (step_set task rules lead.action (value_of s)) (set (value_of s)) (strong_preimage task lead.action set (value_of s)) (pair_step s lead.action lead.pair) held
      (ap (λ (f : Function). f (value_of s)) (none lead.action (pair_below s lead.action lead.pair))) in
      let all = and_parts (is_executable task s lead.action) (list_all (λ t. set (value_of t)) (next_states task s lead.action)) (sym (strong_leads task lead.action set s only) ∙ led) in
      list_all-at (λ t. set (value_of t)) (next_states task s lead.action) t all.1 lead.outcome)

  -- where the rule that counts can be followed
  step_exec : (taken exec : Bool) → taken ≡ true → not (taken && not exec) ≡ true → exec ≡ true
  step_exec true true a b = refl
  step_exec true false a b = b
  step_exec false exec a b = absurd (false≢true a)

  in_followed : (n : ℕ) (values : Values) (a : ℕ) → followed_by task rules n values ≡ true → a < n → taken_set rules a values ≡ true → exec_set task a values ≡ true
  in_followed zero values a h low taken = absurd (omega arith)
  in_followed (suc n) values a h low taken =
      let parts = and_parts (followed_by task rules n values) (not (taken_set rules n values && not (exec_set task n values))) h in
      ⊎_elim
      (λ (less : a < n). in_followed n values a parts.0 less taken)
      (λ (most : n ≤ a).
      let same : a ≡ n = omega arith in
      subst (λ b. exec_set task b values ≡ true) (sym same)
      (step_exec (taken_set rules n values) (exec_set task n values) (subst (λ b. taken_set rules b values ≡ true) same taken) parts.1))
      (cases_lt a n)

  to_followed : (n : ℕ) (values : Values) → ((a : ℕ) → taken_set rules a values ≡ true → exec_set task a values ≡ true) → followed_by task rules n values ≡ true
  to_followed zero values all = refl
  to_followed (suc n) values all =
      and_from (followed_by task rules n values) (not (taken_set rules n values && not (exec_set task n values))) (to_followed n values all)
      (not_from_false (taken_set rules n values && not (exec_set task n values)) (false_from_ne_true (taken_set rules n values && not (exec_set task n values)) (λ bad.
      let parts = and_parts (taken_set rules n values) (not (exec_set task n values)) bad in
      true≢false (sym (all n parts.0) ∙ not_true (exec_set task n values) parts.1))))

  pub follow_of : All (IsRuleOf (fluent_count task) (action_count task)) rules → ((s : Vector) → Reached s → followed_by task rules (action_count task) (value_of s) ≡ true) → CanFollowFirst (system_of task) rules
  follow_of in_task held s rule reached is =
      let below = (all_at (IsRuleOf (fluent_count task) (action_count task)) rules rule in_task (find-found (λ (r : PlanRule). matches r.cube s) rules rule is).0).action in
      exec_of s rule.action (in_followed (action_count task) (value_of s) rule.action (held s reached) below (advised_from rules s rule rule.action is refl))

  pub follow_to : CanFollowFirst (system_of task) rules → (s : Vector) → Reached s → followed_by task rules (action_count task) (value_of s) ≡ true
  follow_to follow s reached =
      to_followed (action_count task) (value_of s) (λ a taken.
      let p = advised_parts rules s a taken in
      subst (λ b. exec_set task b (value_of s) ≡ true) p.action (exec_to s p.rule.action (follow s p.rule reached p.is)))

  -- where all rules that match have one action
  differ_at : (s : Vector) (rule : PlanRule) → first_rule rules s ≡ Some rule
      → differ_set rules (value_of s) ≡ list_any (λ (other : PlanRule). matches other.cube s && not (rule.action == other.action)) rules
  differ_at s rule is =
      ap (λ (o : Option PlanRule). option_map_or (λ (first : PlanRule). list_any (λ (other : PlanRule). matches other.cube s && not (first.action == other.action)) rules) o false) is

  same_action : (matched : Bool) (a b : ℕ) → matched ≡ true → (matched && not (a == b)) ≡ false → a ≡ b
  same_action true a b m none = eqb-true a b (not_false (a == b) none)
  same_action false a b m none = absurd (false≢true m)

  no_difference : (matched : Bool) (a b : ℕ) → (matched ≡ true → a ≡ b) → (matched && not (a == b)) ≡ false
  no_difference true a b same = ap not (eq-eqb a b (same refl))
  no_difference false a b same = refl

  pub agree_of : ((s : Vector) → Reached s → minus_of everything (differ_set rules) (value_of s) ≡ true) → RulesAgree (system_of task) rules
  agree_of held s rule other reached is has matched =
      sym (same_action (matches other.cube s) rule.action other.action matched
      (list_any-false (λ (r : PlanRule). matches r.cube s && not (rule.action == r.action)) rules other
      (sym (differ_at s rule is) ∙ not_true (differ_set rules (value_of s)) (held s reached)) has))

  pub agree_to : RulesAgree (system_of task) rules → (s : Vector) → Reached s → minus_of everything (differ_set rules) (value_of s) ≡ true
  agree_to agree s reached = go (first_rule rules s) refl
    where
      go : (o : Option PlanRule) → first_rule rules s ≡ o → not (differ_set rules (value_of s)) ≡ true
      go None e = ap (λ (o : Option PlanRule). not (option_map_or (λ (first : PlanRule). list_any (λ (other : PlanRule). matches other.cube s && not (first.action == other.action)) rules) o false)) e
      go (Some rule) e =
          not_from_false (differ_set rules (value_of s)) (differ_at s rule e
          ∙ list_any-none (λ (r : PlanRule). matches r.cube s && not (rule.action == r.action)) rules
          (λ other has. no_difference (matches other.cube s) rule.action other.action (λ matched. sym (agree s rule other reached e has matched))))

  -- the verdicts
  module _ (set : Function) (only : DependsOnly 0 (fluent_count task) set) where
    abbrev Covers : Type 0
    Covers = (s : Vector) → Contains (initial_states task) s → set (value_of s) ≡ true

    initial_vector : (s : Vector) → Contains (initial_states task) s → IsVector (system_of task) s
    initial_vector s initial = (ok.initial s initial).vector

    pub strong_solves : IsGrown Outcomes.Every task rules set → Covers → SolvesAsRun Strong (system_of task) rules
    strong_solves by covers = strong_from (system_of task) ok rules (λ s initial. grown_sure set by s (initial_vector s initial) (covers s initial))

    pub weak_solves : All (IsRuleOf (fluent_count task) (action_count task)) rules → IsGrown Outcomes.Some task rules set → Covers → ((s : Vector) → Reached s → followed_by task rules (action_count task) (value_of s) ≡ true) → SolvesAsRun Weak (system_of task) rules
    weak_solves in_task by covers held = weak_from (system_of task) ok rules (follow_of in_task held) (λ s initial. grown_may set by s (initial_vector s initial) (covers s initial))

    pub weak_covers : IsGrown Outcomes.Some task rules set → ((a : ℕ) → a < action_count task → hits_of Outcomes.Some task rules set a ≡ nothing) → SolvesAsRun Weak (system_of task) rules → Covers
    weak_covers by none run s initial = may_in set only by none s (initial_vector s initial) (weak_to (system_of task) ok rules run s initial)

    pub cyclic_solves : IsGrown Outcomes.Some task rules set → ((s : Vector) → Reached s → set (value_of s) ≡ true) → SolvesAsRun Cyclic (system_of task) rules
    cyclic_solves by held = cyclic_from (system_of task) ok rules (λ s reached. grown_may set by s (reached_vector (system_of task) ok rules s reached) (held s reached))

    pub cyclic_holds : IsGrown Outcomes.Some task rules set → ((a : ℕ) → a < action_count task → hits_of Outcomes.Some task rules set a ≡ nothing) → SolvesAsRun Cyclic (system_of task) rules → (s : Vector) → Reached s → set (value_of s) ≡ true
    cyclic_holds by none run s reached = may_in set only by none s (reached_vector (system_of task) ok rules s reached) (cyclic_to (system_of task) ok rules run s reached)

    pub first_held : ((s : Vector) → Reached s → set (value_of s) ≡ true) → Covers
    first_held held s initial = held s (reached_first (system_of task) ok rules s initial)
