-- What the moves by one rule, and by the rules of a plan, mean.
use Rattle.std.proofs.Common.{◌≡◌, ℕ, Bool, true, false, not, ◌||◌, ◌&&◌, cond, IsTrue, ◌↔◌, List, [], ◌∷◌, Option, Some, None, is_some, option_to_list, refl, sym, ap, ◌∙◌, subst, inl, inr, ⊎_elim, ◌⊎◌}
use Rattle.std.specs.Prelude.{◌==◌}
use Rattle.std.specs.List.{Contains, fold, list_any}
use Rattle.std.specs.Option.{option_map, option_and_then}
use Rattle.std.proofs.lemmas.Bool.{false≢true, and_parts, and_from, or_cases, or_left, or_right, eqb-true, eq-eqb}
use Rattle.std.proofs.lemmas.Option.{none-some, same_Some}
use Rattle.task_core.specs.Vectors.{Vector}
use Rattle.task_core.specs.Systems.{System, Exec, IsState, IsSystem}
use Rattle.task_core.specs.Tables.{Leads}
use Rattle.task_core.specs.ContextPlans.{Configuration, Follows, first_context}
use Rattle.task_core.specs.Cubes.{matches}
use Rattle.plan_rules.specs.Denoted.{advises, can_execute, denoted, denoted_contexts, next_context, rule_at}
use Rattle.plan_rules.specs.Rules.{PlanRule, PlanNext, ContextRule, PlainPlan, always, table, automaton}
use Rattle.exec_graph.specs.Counting.{Moved, advised_in_table, moves_by, moves_from, no_moves, onward_to, with_outcome, with_rule, with_table_rule}
use Rattle.plan_rules.specs.Advices.{Advised, advised_by}
use Rattle.exec_graph.specs.Executions.{GoesTo, HasBadAction, HasBadRule, HasLostOutcome, IsStuckAt, IsUnexecutableAt}
use Rattle.exec_graph.proofs.Listed.{AreDifferent, all_added_has, all_added_only, all_added_differ, none_differ}
use Rattle.plan_rules.proofs.DenotedPairs.{can_execute-Exec, can_execute-outcome, cannot-refused, refused-cannot, denoted-from, denoted-pair}
use Rattle.list_laws.proofs.Elements.{Contains-cases, Contains-cons, Contains-head, Contains-nil, list_any-from, list_any-witness}
use Rattle.list_laws.proofs.Booleans.{or_false, or_assoc}

-- y is the configuration of an outcome t
pub record IsOnward (next : PlanNext) (t : Vector) (y : Configuration) : Type 0 where
  pub state : y.state ≡ t
  pub context : next_context next t ≡ Some y.context

onward_is : (t : Vector) (o : Option ℕ) (y : Configuration)
    → Contains (option_to_list (option_map (λ c. let z : Configuration = record { state = t; context = c } in z) o)) y → (y.state ≡ t) × (o ≡ Some y.context)
onward_is t None y c = absurd (Contains-nil y c)
onward_is t (Some k) y c =
    let z : Configuration = record { state = t; context = k } in
    ⊎_elim (λ (e : z ≡ y). (ap (λ (w : Configuration). w.state) (sym e), ap (λ (w : Configuration). Some w.context) e)) (λ n. absurd (Contains-nil y n)) (Contains-cases z [] y c)

is_onward : (t : Vector) (o : Option ℕ) (y : Configuration) → y.state ≡ t → o ≡ Some y.context
    → Contains (option_to_list (option_map (λ c. let z : Configuration = record { state = t; context = c } in z) o)) y
is_onward t None y s e = absurd (none-some y.context e)
is_onward t (Some k) y s e =
    let z : Configuration = record { state = t; context = k } in
    let same : z ≡ y = λ i. record { state = sym s i; context = same_Some k y.context e i } in
    subst (Contains (z ∷ [])) same (Contains-head z [])

-- y is the configuration of an outcome of the rule
pub record IsLedTo (sys : System) (s : Vector) (a : Advised) (y : Configuration) : Type 0 where
  pub outcome : Contains (sys.next s a.action) y.state
  pub context : next_context a.next y.state ≡ Some y.context

pub outcomes_next : (next : PlanNext) (ts : List Vector) (m : Moved) (y : Configuration) → Contains (fold (with_outcome next) m ts).next y
    → Contains m.next y ⊎ (Contains ts y.state × (next_context next y.state ≡ Some y.context))
outcomes_next next [] m y c = inl c
outcomes_next next (t ∷ ts) m y c =
    ⊎_elim
    (λ d. ⊎_elim (λ e. inl e)
    (λ e. let is = onward_is t (next_context next t) y e in
    inr (subst (Contains (t ∷ ts)) (sym is.0) (Contains-head t ts), ap (next_context next) is.0 ∙ is.1))
    (all_added_only m.next (onward_to next t) y d))
    (λ d. inr (Contains-cons t ts y.state d.0, d.1))
    (outcomes_next next ts (with_outcome next m t) y c)

pub next_outcomes : (next : PlanNext) (ts : List Vector) (m : Moved) (y : Configuration)
    → Contains m.next y ⊎ (Contains ts y.state × (next_context next y.state ≡ Some y.context)) → Contains (fold (with_outcome next) m ts).next y
next_outcomes next [] m y c = ⊎_elim (λ d. d) (λ d. absurd (Contains-nil y.state d.0)) c
next_outcomes next (t ∷ ts) m y c =
    next_outcomes next ts (with_outcome next m t) y
    (⊎_elim (λ d. inl (all_added_has m.next (onward_to next t) y (inl d)))
    (λ d. ⊎_elim
    (λ (e : t ≡ y.state). inl (all_added_has m.next (onward_to next t) y
    (inr (is_onward t (next_context next t) y (sym e) (ap (next_context next) e ∙ d.1)))))
    (λ r. inr (r, d.1))
    (Contains-cases t ts y.state d.0)) c)

outcomes_differ : (next : PlanNext) (ts : List Vector) (m : Moved) → AreDifferent m.next → AreDifferent (fold (with_outcome next) m ts).next
outcomes_differ next [] m differ = differ
outcomes_differ next (t ∷ ts) m differ = outcomes_differ next ts (with_outcome next m t) (all_added_differ m.next (onward_to next t) differ)

outcomes_refused : (next : PlanNext) (ts : List Vector) (m : Moved) → (fold (with_outcome next) m ts).refused ≡ m.refused
outcomes_refused next [] m = refl
outcomes_refused next (t ∷ ts) m = outcomes_refused next ts (with_outcome next m t)

-- whether an outcome has no next context
abbrev pub loses : PlanNext → Vector → Bool
loses next t = not (is_some (next_context next t))

outcomes_lost : (next : PlanNext) (ts : List Vector) (m : Moved) → (fold (with_outcome next) m ts).lost ≡ (m.lost || list_any (loses next) ts)
outcomes_lost next [] m = sym (or_false m.lost)
outcomes_lost next (t ∷ ts) m = outcomes_lost next ts (with_outcome next m t) ∙ or_assoc m.lost (loses next t) (list_any (loses next) ts)

-- one rule more
pub rule_refused : (sys : System) (s : Vector) (m : Moved) (a : Advised) → (with_rule sys s m a).refused ≡ (m.refused || not (can_execute sys s a.action))
rule_refused sys s m a = ap (λ b. b || not (can_execute sys s a.action)) (outcomes_refused a.next (sys.next s a.action) m)

rule_next : (sys : System) (s : Vector) (m : Moved) (a : Advised) (y : Configuration) → Contains (with_rule sys s m a).next y → Contains m.next y ⊎ IsLedTo sys s a y
rule_next sys s m a y c = ⊎_elim (λ d. inl d) (λ d. inr (record { outcome = d.0; context = d.1 })) (outcomes_next a.next (sys.next s a.action) m y c)

pub next_rule : (sys : System) (s : Vector) (m : Moved) (a : Advised) (y : Configuration) → Contains m.next y ⊎ IsLedTo sys s a y → Contains (with_rule sys s m a).next y
next_rule sys s m a y c = next_outcomes a.next (sys.next s a.action) m y (⊎_elim (λ d. inl d) (λ d. inr (d.outcome, d.context)) c)

rule_differ : (sys : System) (s : Vector) (m : Moved) (a : Advised) → AreDifferent m.next → AreDifferent (with_rule sys s m a).next
rule_differ sys s m a differ = outcomes_differ a.next (sys.next s a.action) m differ

-- a rule of a table that leads to y
pub record HasTableRule (sys : System) (rules : List PlanRule) (s : Vector) (y : Configuration) : Type 0 where
  pub rule : PlanRule
  pub listed : Contains rules rule
  pub matched : matches rule.cube s ≡ true
  pub led : IsLedTo sys s (advised_in_table rule) y

module _ (sys : System) (s : Vector) where
  table_next : (rules : List PlanRule) (m : Moved) (y : Configuration) → Contains (fold (with_table_rule sys s) m rules).next y → Contains m.next y ⊎ HasTableRule sys rules s y
  table_next [] m y c = inl c
  table_next (rule ∷ rules) m y c = first (matches rule.cube s) refl (table_next rules (with_table_rule sys s m rule) y c)
    where
      first : (b : Bool) → matches rule.cube s ≡ b → Contains (with_table_rule sys s m rule).next y ⊎ HasTableRule sys rules s y → Contains m.next y ⊎ HasTableRule sys (rule ∷ rules) s y
      first true e h = ⊎_elim
          (λ d. ⊎_elim (λ t. inl t) (λ t. inr (record { rule = rule; listed = Contains-head rule rules; matched = e; led = t }))
          (rule_next sys s m (advised_in_table rule) y (subst (λ b. Contains (cond b (with_rule sys s m (advised_in_table rule)) m).next y) e d)))
          (λ d. inr (record { rule = d.rule; listed = Contains-cons rule rules d.rule d.listed; matched = d.matched; led = d.led })) h
      first false e h = ⊎_elim
          (λ d. inl (subst (λ b. Contains (cond b (with_rule sys s m (advised_in_table rule)) m).next y) e d))
          (λ d. inr (record { rule = d.rule; listed = Contains-cons rule rules d.rule d.listed; matched = d.matched; led = d.led })) h

  next_table : (rules : List PlanRule) (m : Moved) (y : Configuration) → Contains m.next y ⊎ HasTableRule sys rules s y → Contains (fold (with_table_rule sys s) m rules).next y
  next_table [] m y c = ⊎_elim (λ d. d) (λ d. absurd (Contains-nil d.rule d.listed)) c
  next_table (rule ∷ rules) m y c = next_table rules (with_table_rule sys s m rule) y (⊎_elim kept tried c)
    where
      kept_at : (b : Bool) → Contains m.next y → Contains (cond b (with_rule sys s m (advised_in_table rule)) m).next y
      kept_at true d = next_rule sys s m (advised_in_table rule) y (inl d)
      kept_at false d = d

      kept : Contains m.next y → Contains (with_table_rule sys s m rule).next y ⊎ HasTableRule sys rules s y
      kept d = inl (kept_at (matches rule.cube s) d)

      here : (r : PlanRule) → rule ≡ r → matches r.cube s ≡ true → IsLedTo sys s (advised_in_table r) y → Contains (with_table_rule sys s m rule).next y
      here r e matched led =
          let now : matches rule.cube s ≡ true = ap (λ (q : PlanRule). matches q.cube s) e ∙ matched in
          subst (λ b. Contains (cond b (with_rule sys s m (advised_in_table rule)) m).next y) (sym now)
          (next_rule sys s m (advised_in_table rule) y (inr (subst (λ (q : PlanRule). IsLedTo sys s (advised_in_table q) y) (sym e) led)))

      tried : HasTableRule sys (rule ∷ rules) s y → Contains (with_table_rule sys s m rule).next y ⊎ HasTableRule sys rules s y
      tried d = ⊎_elim (λ e. inl (here d.rule e d.matched d.led))
          (λ r. inr (record { rule = d.rule; listed = r; matched = d.matched; led = d.led }))
          (Contains-cases rule rules d.rule d.listed)

  table_differ : (rules : List PlanRule) (m : Moved) → AreDifferent m.next → AreDifferent (fold (with_table_rule sys s) m rules).next
  table_differ [] m differ = differ
  table_differ (rule ∷ rules) m differ = table_differ rules (with_table_rule sys s m rule) (at (matches rule.cube s))
    where
      at : (b : Bool) → AreDifferent (cond b (with_rule sys s m (advised_in_table rule)) m).next
      at true = rule_differ sys s m (advised_in_table rule) differ
      at false = differ

  always_kept : (ts : List Vector) → list_any (loses (always first_context)) ts ≡ false
  always_kept [] = refl
  always_kept (t ∷ ts) = always_kept ts

  table_lost : (rules : List PlanRule) (m : Moved) → (fold (with_table_rule sys s) m rules).lost ≡ m.lost
  table_lost [] m = refl
  table_lost (rule ∷ rules) m = table_lost rules (with_table_rule sys s m rule) ∙ at (matches rule.cube s)
    where
      at : (b : Bool) → (cond b (with_rule sys s m (advised_in_table rule)) m).lost ≡ m.lost
      at true = outcomes_lost (always first_context) (sys.next s rule.action) m ∙ ap (λ b. m.lost || b) (always_kept (sys.next s rule.action)) ∙ or_false m.lost
      at false = refl

  table_refused : (rules : List PlanRule) (m : Moved) → (fold (with_table_rule sys s) m rules).refused ≡ true → (m.refused ≡ true) ⊎ HasBadRule sys rules s
  table_refused [] m e = inl e
  table_refused (rule ∷ rules) m e = ⊎_elim (at (matches rule.cube s) refl)
      (λ d. inr (record { rule = d.rule; listed = Contains-cons rule rules d.rule d.listed; matched = d.matched; refused = d.refused }))
      (table_refused rules (with_table_rule sys s m rule) e)
    where
      at : (b : Bool) → matches rule.cube s ≡ b → (with_table_rule sys s m rule).refused ≡ true → (m.refused ≡ true) ⊎ HasBadRule sys (rule ∷ rules) s
      at true is h = ⊎_elim (λ d. inl d)
          (λ d. inr (record { rule = rule; listed = Contains-head rule rules; matched = is; refused = refused-cannot sys s rule.action d }))
          (or_cases m.refused (not (can_execute sys s rule.action))
          (sym (rule_refused sys s m (advised_in_table rule)) ∙ sym (ap (λ b. (cond b (with_rule sys s m (advised_in_table rule)) m).refused) is) ∙ h))
      at false is h = inl (sym (ap (λ b. (cond b (with_rule sys s m (advised_in_table rule)) m).refused) is) ∙ h)

  refused_table : (rules : List PlanRule) (m : Moved) → (m.refused ≡ true) ⊎ HasBadRule sys rules s → (fold (with_table_rule sys s) m rules).refused ≡ true
  refused_table [] m c = ⊎_elim (λ d. d) (λ d. absurd (Contains-nil d.rule d.listed)) c
  refused_table (rule ∷ rules) m c = refused_table rules (with_table_rule sys s m rule) (⊎_elim (λ d. inl (kept (matches rule.cube s) d)) tried c)
    where
      kept : (b : Bool) → m.refused ≡ true → (cond b (with_rule sys s m (advised_in_table rule)) m).refused ≡ true
      kept true d = rule_refused sys s m (advised_in_table rule) ∙ or_left m.refused (not (can_execute sys s rule.action)) d
      kept false d = d

      here : (r : PlanRule) → rule ≡ r → matches r.cube s ≡ true → (Exec sys s r.action → ⊥) → (with_table_rule sys s m rule).refused ≡ true
      here r e matched never =
          let now : matches rule.cube s ≡ true = ap (λ (q : PlanRule). matches q.cube s) e ∙ matched in
          ap (λ b. (cond b (with_rule sys s m (advised_in_table rule)) m).refused) now
          ∙ rule_refused sys s m (advised_in_table rule)
          ∙ or_right m.refused (not (can_execute sys s rule.action))
          (cannot-refused sys s rule.action (subst (λ (q : PlanRule). Exec sys s q.action → ⊥) (sym e) never))

      tried : HasBadRule sys (rule ∷ rules) s → ((with_table_rule sys s m rule).refused ≡ true) ⊎ HasBadRule sys rules s
      tried d = ⊎_elim (λ e. inl (here d.rule e d.matched d.refused))
          (λ r. inr (record { rule = d.rule; listed = r; matched = d.matched; refused = d.refused }))
          (Contains-cases rule rules d.rule d.listed)

-- in a table, y follows x exactly where a rule that matches leads to it
table_goes : (sys : System) (rules : List PlanRule) (x y : Configuration) → IsSystem sys → IsState sys x.state → HasTableRule sys rules x.state y
    → Leads sys (denoted sys rules) x.state y.state × (y.context ≡ first_context)
table_goes sys rules x y ok state h =
    let a = h.rule.action in
    let advised : advises rules x.state a ≡ true =
    list_any-from (λ (rule : PlanRule). (rule.action == a) && matches rule.cube x.state) rules h.rule h.listed
    (and_from (a == a) (matches h.rule.cube x.state) (eq-eqb a a refl) h.matched) in
    let can = can_execute-outcome sys x.state a y.state h.led.outcome in
    let pair : Contains (denoted sys rules) (x.state, a) =
    denoted-from sys rules x.state a (record { vector = state.vector; below = ok.actions x.state a (can_execute-Exec sys x.state a can); advised = advised; executable = can }) in
    (record { action = a; pair = pair; outcome = h.led.outcome }, sym (same_Some first_context y.context h.led.context))

goes_table : (sys : System) (rules : List PlanRule) (x y : Configuration) → Leads sys (denoted sys rules) x.state y.state → y.context ≡ first_context → HasTableRule sys rules x.state y
goes_table sys rules x y leads first =
    let d = denoted-pair sys rules x.state leads.action leads.pair in
    let w = list_any-witness (λ (rule : PlanRule). (rule.action == leads.action) && matches rule.cube x.state) rules d.advised in
    let both = and_parts (w.0.action == leads.action) (matches w.0.cube x.state) w.2 in
    let same : w.0.action ≡ leads.action = eqb-true w.0.action leads.action both.0 in
    record {
      rule = w.0;
      listed = w.1;
      matched = both.1;
      led = record {
        outcome = subst (λ a. Contains (sys.next x.state a) y.state) (sym same) leads.outcome;
        context = ap Some (sym first);
      };
    }

-- the rule of an automaton that counts
module _ (sys : System) (rules : List ContextRule) (x : Configuration) where
  auto_goes : (o : Option ContextRule) → rule_at rules x.state x.context ≡ o → (y : Configuration) → Contains (moves_by sys x.state (option_map advised_by o)).next y
      → Follows sys (denoted_contexts rules) x y
  auto_goes None e y c = absurd (Contains-nil y c)
  auto_goes (Some rule) e y c = ⊎_elim (λ n. absurd (Contains-nil y n))
      (λ led. record {
        action = rule.action;
        acts = ap (option_map (λ (r : ContextRule). r.action)) e;
        outcome = led.outcome;
        context = ap (option_and_then (λ (r : ContextRule). next_context r.next y.state)) e ∙ led.context;
      })
      (rule_next sys x.state (no_moves false) (advised_by rule) y c)

  goes_auto : (o : Option ContextRule) → rule_at rules x.state x.context ≡ o → (y : Configuration) → Follows sys (denoted_contexts rules) x y
      → Contains (moves_by sys x.state (option_map advised_by o)).next y
  goes_auto None e y f = absurd (none-some f.action (sym (ap (option_map (λ (r : ContextRule). r.action)) e) ∙ f.acts))
  goes_auto (Some rule) e y f =
      let same : rule.action ≡ f.action = same_Some rule.action f.action (sym (ap (option_map (λ (r : ContextRule). r.action)) e) ∙ f.acts) in
      next_rule sys x.state (no_moves false) (advised_by rule) y
      (inr (record {
        outcome = subst (λ a. Contains (sys.next x.state a) y.state) (sym same) f.outcome;
        context = sym (ap (option_and_then (λ (r : ContextRule). next_context r.next y.state)) e) ∙ f.context;
      }))

  auto_differ : (o : Option ContextRule) → AreDifferent (moves_by sys x.state (option_map advised_by o)).next
  auto_differ None = none_differ
  auto_differ (Some rule) = rule_differ sys x.state (no_moves false) (advised_by rule) none_differ

  auto_refused : (o : Option ContextRule) → rule_at rules x.state x.context ≡ o → (moves_by sys x.state (option_map advised_by o)).refused ≡ true → HasBadAction sys (denoted_contexts rules) x
  auto_refused None e h = absurd (false≢true h)
  auto_refused (Some rule) e h = record {
    action = rule.action;
    acts = ap (option_map (λ (r : ContextRule). r.action)) e;
    refused = refused-cannot sys x.state rule.action (sym (rule_refused sys x.state (no_moves false) (advised_by rule)) ∙ h);
  }

  refused_auto : (o : Option ContextRule) → rule_at rules x.state x.context ≡ o → HasBadAction sys (denoted_contexts rules) x → (moves_by sys x.state (option_map advised_by o)).refused ≡ true
  refused_auto None e b = absurd (none-some b.action (sym (ap (option_map (λ (r : ContextRule). r.action)) e) ∙ b.acts))
  refused_auto (Some rule) e b =
      let same : rule.action ≡ b.action = same_Some rule.action b.action (sym (ap (option_map (λ (r : ContextRule). r.action)) e) ∙ b.acts) in
      rule_refused sys x.state (no_moves false) (advised_by rule)
      ∙ cannot-refused sys x.state rule.action (subst (λ a. Exec sys x.state a → ⊥) (sym same) b.refused)

  lost_is : (o : Option ℕ) → not (is_some o) ≡ true → o ≡ None
  lost_is None e = refl
  lost_is (Some k) e = absurd (false≢true e)

  auto_lost : (o : Option ContextRule) → rule_at rules x.state x.context ≡ o → (moves_by sys x.state (option_map advised_by o)).lost ≡ true
      → ((denoted_contexts rules).act x.state x.context ≡ None) ⊎ HasLostOutcome sys (denoted_contexts rules) x
  auto_lost None e h = inl (ap (option_map (λ (r : ContextRule). r.action)) e)
  auto_lost (Some rule) e h =
      let w = list_any-witness (loses rule.next) (sys.next x.state rule.action)
      (sym (outcomes_lost rule.next (sys.next x.state rule.action) (no_moves false)) ∙ h) in
      inr (record {
        action = rule.action;
        acts = ap (option_map (λ (r : ContextRule). r.action)) e;
        after = w.0;
        outcome = w.1;
        lost = ap (option_and_then (λ (r : ContextRule). next_context r.next w.0)) e ∙ lost_is (next_context rule.next w.0) w.2;
      })

  lost_auto : (o : Option ContextRule) → rule_at rules x.state x.context ≡ o
      → ((denoted_contexts rules).act x.state x.context ≡ None) ⊎ HasLostOutcome sys (denoted_contexts rules) x → (moves_by sys x.state (option_map advised_by o)).lost ≡ true
  lost_auto None e c = refl
  lost_auto (Some rule) e c = ⊎_elim
      (λ n. absurd (none-some rule.action (sym n ∙ ap (option_map (λ (r : ContextRule). r.action)) e)))
      (λ b.
      let same : rule.action ≡ b.action = same_Some rule.action b.action (sym (ap (option_map (λ (r : ContextRule). r.action)) e) ∙ b.acts) in
      outcomes_lost rule.next (sys.next x.state rule.action) (no_moves false)
      ∙ list_any-from (loses rule.next) (sys.next x.state rule.action) b.after
      (subst (λ a. Contains (sys.next x.state a) b.after) (sym same) b.outcome)
      (ap (λ o. not (is_some o)) (sym (ap (option_and_then (λ (r : ContextRule). next_context r.next b.after)) e) ∙ b.lost))) c

-- the moves from a configuration are to those that follow it
pub next_goes : (sys : System) (plan : PlainPlan) (x y : Configuration) → IsSystem sys → IsState sys x.state → Contains (moves_from sys plan x).next y → GoesTo sys plan x y
next_goes sys (table class rules) x y ok state c =
    table_goes sys rules x y ok state (⊎_elim (λ n. absurd (Contains-nil y n)) (λ h. h) (table_next sys x.state rules (no_moves false) y c))
next_goes sys (automaton contexts rules) x y ok state c = auto_goes sys rules x (rule_at rules x.state x.context) refl y c

pub goes_next : (sys : System) (plan : PlainPlan) (x y : Configuration) → GoesTo sys plan x y → Contains (moves_from sys plan x).next y
goes_next sys (table class rules) x y g = next_table sys x.state rules (no_moves false) y (inr (goes_table sys rules x y g.0 g.1))
goes_next sys (automaton contexts rules) x y g = goes_auto sys rules x (rule_at rules x.state x.context) refl y g

-- each once
pub next_differ : (sys : System) (plan : PlainPlan) (x : Configuration) → AreDifferent (moves_from sys plan x).next
next_differ sys (table class rules) x = table_differ sys x.state rules (no_moves false) none_differ
next_differ sys (automaton contexts rules) x = auto_differ sys rules x (rule_at rules x.state x.context)

-- and the two marks
pub refused_means : (sys : System) (plan : PlainPlan) (x : Configuration) → IsTrue (moves_from sys plan x).refused ↔ IsUnexecutableAt sys plan x
refused_means sys (table class rules) x = (
  (λ e. ⊎_elim (λ n. absurd (false≢true n)) (λ h. h) (table_refused sys x.state rules (no_moves false) e)),
  (λ h. refused_table sys x.state rules (no_moves false) (inr h)),
)
refused_means sys (automaton contexts rules) x = (auto_refused sys rules x (rule_at rules x.state x.context) refl, refused_auto sys rules x (rule_at rules x.state x.context) refl)

pub lost_means : (sys : System) (plan : PlainPlan) (x : Configuration) → IsTrue (moves_from sys plan x).lost ↔ IsStuckAt sys plan x
lost_means sys (table class rules) x = ((λ e. false≢true (sym (table_lost sys x.state rules (no_moves false)) ∙ e)), (λ h. absurd h))
lost_means sys (automaton contexts rules) x = (auto_lost sys rules x (rule_at rules x.state x.context) refl, lost_auto sys rules x (rule_at rules x.state x.context) refl)
