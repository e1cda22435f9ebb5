-- The rule that counts, by its number and as the rules denote it.
use Rattle.std.proofs.Common.{◌≡◌, ℕ, zero, suc, ◌<◌, ◌↔◌, Bool, true, false, not, List, [], ◌∷◌, map, Option, None, Some, refl, sym, ap, ◌∙◌, subst, arith, ⊎_elim, inl, inr}
use Rattle.std.specs.Prelude.{IsTrue, find, slice_get}
use Rattle.std.specs.List.{All, Contains}
use Rattle.std.specs.Option.{IfNone, IsSome, option_and_then, option_map}
use Rattle.std.proofs.lemmas.List.Elements.{All-weaker}
use Rattle.std.proofs.lemmas.Bool.{cond-true, cond-false, false≢true}
use Rattle.std.proofs.lemmas.Option.{none-some, same_Some}
use Rattle.task_core.specs.ContextPlans.{Configuration, Follows}
use Rattle.task_core.specs.Systems.{Exec, HasOutcome, System}
use Rattle.task_core.specs.Vectors.{Vector}
use Rattle.plan_rules.specs.Denoted.{denoted_contexts, next_context, rule_at}
use Rattle.rule_lookup.specs.RunRules.{IsRunRuleOf}
use Rattle.plan_rules.specs.Advices.{AreCasesOf}
use Rattle.plan_rules.specs.Plans.{IsCaseOf, IsContextRuleOf, IsCubeOf, IsNextOf, IsPlanOf, IsRuleOf}
use Rattle.plan_rules.specs.Rules.{ContextRule, PlanCase, PlanNext, always, automaton, by_cases, context_rule_of, rule_of}
use Rattle.plan_rules.specs.declared.rules.AutoPlan.{AutoPlan}
use Rattle.plan_rules.specs.declared.rules.AutoRule.{AutoRule}
use Rattle.plan_rules.specs.declared.rules.Plan.{Plan}
use Rattle.plan_rules.specs.declared.rules.Plan.TheVariants.{Auto, Table}
use Rattle.plan_rules.specs.declared.rules.Rule.{Rule}
use Rattle.plan_rules.specs.declared.rules.TablePlan.{TablePlan}
use Rattle.list_laws.proofs.Elements.{All-unmap}
use Rattle.exec_graph.specs.Executions.{HasBadAction, HasLostOutcome, IsStuckAt}
use Rattle.plan_witness.specs.Ends.{LosesOutcome}
use Rattle.plan_witness.specs.Runs.{IsCounting, is_for}

find_at : {X : Type 0} (p : X → Bool) (xs : List X) (k : ℕ) (x : X) → slice_get xs k ≡ Some x → p x ≡ true → ((j : ℕ) (y : X) → j < k → slice_get xs j ≡ Some y → p y ≡ false)
    → find p xs ≡ Some x
find_at p [] k x e t first = absurd (none-some x e)
find_at p (y ∷ ys) zero x e t first = let same : y ≡ x = same_Some y x e in cond-true (p y) (Some y) (find p ys) (ap p same ∙ t) ∙ ap Some same
find_at p (y ∷ ys) (suc k) x e t first =
    cond-false (p y) (Some y) (find p ys) (first 0 y (omega arith) refl) ∙ find_at p ys k x e t (λ j z l g. first (suc j) z (omega (arith, l)) g)

pub find_nothing : {X : Type 0} (p : X → Bool) (xs : List X) → ((j : ℕ) (y : X) → slice_get xs j ≡ Some y → p y ≡ false) → find p xs ≡ None
find_nothing p [] none = refl
find_nothing p (y ∷ ys) none = cond-false (p y) (Some y) (find p ys) (none 0 y refl) ∙ find_nothing p ys (λ j z g. none (suc j) z g)

pub counting_at : (rules : List ContextRule) (x : Configuration) (number : ℕ) (rule : ContextRule) → IsCounting rules x number rule → rule_at rules x.state x.context ≡ Some rule
counting_at rules x number rule c = find_at (is_for x) rules number rule c.numbered c.is c.first

-- what follows x is by the rule that counts there
pub record IsByRule (sys : System) (x y : Configuration) (rule : ContextRule) : Type 0 where
  pub outcome : HasOutcome sys x.state rule.action y.state
  pub onward : next_context rule.next y.state ≡ Some y.context

pub by_rule : (sys : System) (rules : List ContextRule) (x y : Configuration) (rule : ContextRule) → rule_at rules x.state x.context ≡ Some rule → Follows sys (denoted_contexts rules) x y
    → IsByRule sys x y rule
by_rule sys rules x y rule at f =
    let acts : Some rule.action ≡ Some f.action = sym (ap (λ (o : Option ContextRule). act_of o) at) ∙ f.acts in
    record {
      outcome = subst (λ a. HasOutcome sys x.state a y.state) (sym (same_Some rule.action f.action acts)) f.outcome;
      onward = sym (ap (λ (o : Option ContextRule). onward_of o) at) ∙ f.context;
    }
  where
    act_of : Option ContextRule → Option ℕ
    act_of o = option_map (λ (r : ContextRule). r.action) o

    onward_of : Option ContextRule → Option ℕ
    onward_of o = option_and_then (λ (r : ContextRule). next_context r.next y.state) o

pub no_rule : (sys : System) (rules : List ContextRule) (x y : Configuration) → rule_at rules x.state x.context ≡ None → Follows sys (denoted_contexts rules) x y → ⊥
no_rule sys rules x y none f = none-some f.action (sym (ap (λ (o : Option ContextRule). option_map (λ (r : ContextRule). r.action) o) none) ∙ f.acts)

-- there is a value where there being none contradicts a fact
pub some_by : {X : Type 0} (o : Option X) (A : Type 0) → A → IfNone o (A → ⊥) → IsSome o
some_by None A a none = absurd (none a)
some_by (Some x) A a none = refl

-- the rules of a plan are of the task
pub table_rules : (n m : ℕ) (plan : Plan) (rules : TablePlan) → plan ≡ Table rules → IsPlanOf n m plan → All (λ (rule : Rule). IsRuleOf n m (rule_of rule)) rules.rules.items
table_rules n m plan rules is of = All-unmap (IsRuleOf n m) rule_of rules.rules.items (subst (IsPlanOf n m) is of)

run_rule : (n m contexts : ℕ) (rule : ContextRule) → IsContextRuleOf n m contexts rule → IsRunRuleOf n m rule
run_rule n m contexts rule r = record { cube = r.cube; action = r.action; cases = cases_of rule.next r.next }
  where
    cases_of : (next : PlanNext) → IsNextOf n contexts next → AreCasesOf n next
    cases_of (always context) h = tt
    cases_of (by_cases cases) h = All-weaker (IsCaseOf n contexts) (λ (case : PlanCase). IsCubeOf n case.cube) (λ case x. x.cube) cases h

pub auto_rules : (n m : ℕ) (plan : Plan) (auto : AutoPlan) → plan ≡ Auto auto → IsPlanOf n m plan → All (λ (rule : AutoRule). IsRunRuleOf n m (context_rule_of rule)) auto.rules.items
auto_rules n m plan auto is of =
    let each = (subst (IsPlanOf n m) is of).each in
    All-unmap (IsRunRuleOf n m) context_rule_of auto.rules.items (All-weaker (IsContextRuleOf n m auto.contexts) (IsRunRuleOf n m) (run_rule n m auto.contexts) (map context_rule_of auto.rules.items) each)

pub some_none : {X : Type 0} (o : Option X) (A : Type 0) → (A → ⊥) → IfNone o A → IsSome o
some_none None A never none = absurd (never none)
some_none (Some x) A never none = refl

-- an action with an outcome can be executed
pub outcome_exec : (sys : System) (s : Vector) (a : ℕ) (t : Vector) → HasOutcome sys s a t → Exec sys s a
outcome_exec sys s a t h none = none_in t (subst (λ ts. Contains ts t) none h)
  where
    none_in : (u : Vector) → Contains [] u → ⊥
    none_in u (k, below, is) = omega (arith, below)

-- the rule that counts, which stands at its number
pub record IsCountingBy (sys : System) (rules : List ContextRule) (x y : Configuration) (number : ℕ) (rule : ContextRule) : Type 0 where
  pub counts : IsCounting rules x number rule
  pub by : IsByRule sys x y rule

pub by_counting : (sys : System) (rules : List ContextRule) (x y : Configuration) (number : ℕ) (rule other : ContextRule) → IsCounting rules x number rule → slice_get rules number ≡ Some other
    → Follows sys (denoted_contexts rules) x y → IsCountingBy sys rules x y number other
by_counting sys rules x y number rule other c at f =
    let same : rule ≡ other = same_Some rule other (sym c.numbered ∙ at) in
    let counts = subst (IsCounting rules x number) same c in
    record { counts = counts; by = by_rule sys rules x y other (counting_at rules x number other counts) f }

acts_by : (rules : List ContextRule) (x : Configuration) (rule : ContextRule) → rule_at rules x.state x.context ≡ Some rule → (denoted_contexts rules).act x.state x.context ≡ Some rule.action
acts_by rules x rule at = ap (λ (o : Option ContextRule). option_map (λ (r : ContextRule). r.action) o) at

-- whether the rule that counts has an action that can't be executed
pub bad_action : (sys : System) (rules : List ContextRule) (x : Configuration) (number : ℕ) (rule other : ContextRule) (b : Bool) → IsCounting rules x number rule → slice_get rules number ≡ Some other
    → (IsTrue b ↔ Exec sys x.state other.action) → (not b ≡ true) ↔ HasBadAction sys (denoted_contexts rules) x
bad_action sys rules x number rule other b c at exec =
    let same : rule ≡ other = same_Some rule other (sym c.numbered ∙ at) in
    let acts = acts_by rules x other (counting_at rules x number other (subst (IsCounting rules x number) same c)) in (
      (λ e. record { action = other.action; acts = acts; refused = λ h. false≢true (ap not (sym (exec.1 h)) ∙ e) }),
      (λ h. go b exec h (same_Some other.action h.action (sym acts ∙ h.acts))),
    )
  where
    go : (d : Bool) → (IsTrue d ↔ Exec sys x.state other.action) → (h : HasBadAction sys (denoted_contexts rules) x) → other.action ≡ h.action → not d ≡ true
    go true f h e = absurd (h.refused (subst (Exec sys x.state) e (f.0 refl)))
    go false f h e = refl

pub no_action : (sys : System) (rules : List ContextRule) (x : Configuration) → rule_at rules x.state x.context ≡ None → (false ≡ true) ↔ HasBadAction sys (denoted_contexts rules) x
no_action sys rules x none = (
  (λ e. absurd (false≢true e)),
  (λ h. absurd (none-some h.action (sym (ap (λ (o : Option ContextRule). option_map (λ (r : ContextRule). r.action) o) none) ∙ h.acts))),
)

-- where the plan doesn't go on
pub stuck_nowhere : (sys : System) (rules : List ContextRule) (x : Configuration) → rule_at rules x.state x.context ≡ None → (true ≡ true) ↔ IsStuckAt sys (automaton 0 rules) x
stuck_nowhere sys rules x none = ((λ e. inl (ap (λ (o : Option ContextRule). option_map (λ (r : ContextRule). r.action) o) none)), (λ s. refl))

pub stuck_by : (sys : System) (rules : List ContextRule) (x : Configuration) (number : ℕ) (rule other : ContextRule) (b : Bool) → IsCounting rules x number rule → slice_get rules number ≡ Some other
    → ((b ≡ true) ↔ LosesOutcome sys other x.state) → (b ≡ true) ↔ IsStuckAt sys (automaton 0 rules) x
stuck_by sys rules x number rule other b c at loses =
    let same : rule ≡ other = same_Some rule other (sym c.numbered ∙ at) in
    let is = counting_at rules x number other (subst (IsCounting rules x number) same c) in
    let acts = acts_by rules x other is in
    let onward : (t : Vector) → (denoted_contexts rules).ctxt x.state x.context t ≡ next_context other.next t = λ t. ap (λ (o : Option ContextRule). option_and_then (λ (r : ContextRule). next_context r.next t) o) is in (
      (λ e. let l = loses.0 e in inr (record { action = other.action; acts = acts; after = l.after; outcome = l.outcome; lost = onward l.after ∙ l.lost })),
      (λ s. ⊎_elim (λ none. absurd (none-some other.action (sym none ∙ acts)))
          (λ (l : HasLostOutcome sys (denoted_contexts rules) x). loses.1 (record { after = l.after; outcome = subst (λ a. HasOutcome sys x.state a l.after) (sym (same_Some other.action l.action (sym acts ∙ l.acts))) l.outcome; lost = sym (onward l.after) ∙ l.lost })) s),
    )
