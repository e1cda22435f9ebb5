-- The nodes that show the configurations of a graph are a picture of the plan.
use Rattle.std.proofs.Common.{◌≡◌, ◌↔◌, ℕ, suc, ◌+◌, ◌<◌, ⊎_elim, Bool, IsTrue, List, [], ◌∷◌, ◌++◌, length, map, slice_get, Option, Some, None, refl, sym, ap, ◌∙◌, subst, arith}
use Rattle.std.specs.List.{AllPairs, Contains}
use Rattle.std.specs.Option.{option_map, option_and_then}
use Rattle.std.proofs.lemmas.List.{length-map}
use Rattle.std.proofs.lemmas.Option.{none-some, same_Some, slice_get-map, slice_get_within}
use Rattle.std.specs.List.{flat_map, range_with_len}
use Rattle.std.proofs.lemmas.List.{map-id}
use Rattle.list_laws.proofs.Elements.{map-range, contains_at}
use Rattle.exec_graph.specs.Orders.{AreInOrderMet, in_first, onward}
use Rattle.exec_graph.proofs.Listed.{all_added_get}
use Rattle.exec_graph.specs.Executions.{IsReachedBy}
use Rattle.exec_graph.specs.Graphs.{IsGraphOf, PlainGraph}
use Rattle.exec_graph.proofs.Listed.{Contains-number}
use Rattle.task_core.specs.Vectors.{Vector}
use Rattle.task_core.specs.Systems.{AreNumbered, IsSystem, System, goal_states}
use Rattle.task_core.specs.ContextPlans.{Configuration, IsInitial}
use Rattle.plan_rules.specs.Advices.{Advised, advised_by}
use Rattle.plan_rules.specs.Denoted.{next_context, rule_at}
use Rattle.plan_rules.specs.Rules.{ContextRule, PlainPlan, PlanNext, table, automaton}
use Rattle.plan_picture.specs.Pictures.{HasAction, IsBefore, IsNode, IsPictureOf, IsStepFrom, PlainNode, PlainStep, configurations, context_after}
use Rattle.plan_picture.specs.Places.{ShowEach, Shows, advised_in_table, outcomes_from, place_after, place_from, plan_steps, steps_if}
use Rattle.plan_picture.proofs.Found.{AreDistinct, found, finds, pushed_cases}
use Rattle.plan_picture.proofs.Stepped.{IsOutcome, leads_somewhere, none_ordered, outcome_after, outcome_at, outcomes_has, outcomes_only, outcomes_ordered, table_has, table_only, table_ordered}
use Rattle.list_laws.proofs.Elements.{Contains-nil}

-- where an outcome leads
record IsAfter (places : List Configuration) (next : PlanNext) (t : Vector) (i : ℕ) : Type 0 where
  pub context : ℕ
  pub onward : next_context next t ≡ Some context
  pub there : slice_get places i ≡ Some (record { state = t; context = context })

after_only : (places : List Configuration) (next : PlanNext) (t : Vector) (i : ℕ) → place_after places next t ≡ Some i → IsAfter places next t i
after_only places next t i e = go (next_context next t) refl e
  where
    go : (o : Option ℕ) → next_context next t ≡ o → option_and_then (λ context. place_from 0 places (record { state = t; context = context })) o ≡ Some i → IsAfter places next t i
    go None h d = absurd (none-some i d)
    go (Some c) h d =
        let f = found 0 places (record { state = t; context = c }) i d in
        let same : f.number ≡ i = omega (arith, f.is) in
        record { context = c; onward = h; there = subst (λ k. slice_get places k ≡ Some (record { state = t; context = c })) same f.there }

after_has : (places : List Configuration) (next : PlanNext) (y : Configuration) (i : ℕ) → AreDistinct places → next_context next y.state ≡ Some y.context → slice_get places i ≡ Some y
    → place_after places next y.state ≡ Some i
after_has places next y i differ h there =
    ap (option_and_then (λ context. place_from 0 places (record { state = y.state; context = context }))) h
    ∙ finds 0 places y i differ there
    ∙ ap Some (omega arith)

-- only an outcome that an action has leads anywhere
abbrev AreBounded : System → Type 0
AreBounded sys = (s : Vector) (a k : ℕ) (t : Vector) → sys.after s a k ≡ Some t → k < sys.outcomes a

pub record IsNumberedSystem (sys : System) : Type 0 where
  pub system : IsSystem sys
  pub numbered : AreNumbered sys
  pub bounded : (s : Vector) (a k : ℕ) (t : Vector) → sys.after s a k ≡ Some t → k < sys.outcomes a

there_is : (sys : System) (x : Configuration) (a : Advised) (step : PlainStep) (t : Vector) → AreBounded sys → step.action ≡ a.action → sys.after x.state step.action step.outcome ≡ Some t
    → slice_get (outcomes_from sys x.state a.action) step.outcome ≡ Some (Some t)
there_is sys x a step t bounded e leads =
    let here : sys.after x.state a.action step.outcome ≡ Some t = ap (λ k. sys.after x.state k step.outcome) (sym e) ∙ leads in
    outcome_at sys x.state a.action step.outcome (bounded x.state a.action step.outcome t here) ∙ ap Some here

-- what the plan says at x
record IsAdvisedAt (plan : PlainPlan) (x : Configuration) (a : Advised) : Type 0 where
  pub has : HasAction plan x a.action
  pub onward : (t : Vector) → context_after plan x t ≡ next_context a.next t

module _ (sys : System) (places : List Configuration) where
  step_from : (plan : PlainPlan) (x : Configuration) (a : Advised) (step : PlainStep) → IsAdvisedAt plan x a → IsOutcome places a 0 (outcomes_from sys x.state a.action) step
      → IsStepFrom sys plan places x step
  step_from plan x a step advised o =
      let e = after_only places a.next o.after step.target o.target in
      let number : step.outcome ≡ o.number = omega (arith, o.outcome) in
      record {
        target = record { state = o.after; context = e.context };
        place = e.there;
        steps = record {
          has = subst (HasAction plan x) (sym o.action) advised.has;
          leads = ap (λ k. sys.after x.state k step.outcome) o.action ∙ ap (sys.after x.state a.action) number ∙ outcome_after sys x.state a.action o.number o.after o.there;
          context = advised.onward o.after ∙ e.onward;
        };
      }

  step_to : (plan : PlainPlan) (x : Configuration) (a : Advised) (step : PlainStep) → AreBounded sys → AreDistinct places → IsAdvisedAt plan x a → step.action ≡ a.action → IsStepFrom sys plan places x step
      → IsOutcome places a 0 (outcomes_from sys x.state a.action) step
  step_to plan x a step bounded differ advised e f = record {
    number = step.outcome;
    after = f.target.state;
    action = e;
    outcome = omega arith;
    there = there_is sys x a step f.target.state bounded e f.steps.leads;
    target = after_has places a.next f.target step.target differ (sym (advised.onward f.target.state) ∙ f.steps.context) f.place;
  }

  by_rule : (contexts : ℕ) (rules : List ContextRule) (x : Configuration) (rule : ContextRule) → rule_at rules x.state x.context ≡ Some rule
      → IsAdvisedAt (automaton contexts rules) x (advised_by rule)
  by_rule contexts rules x rule h = record {
    has = ap (option_map (λ (r : ContextRule). r.action)) h;
    onward = λ t. ap (option_and_then (λ (r : ContextRule). next_context r.next t)) h;
  }

  plan_only : (plan : PlainPlan) (x : Configuration) (step : PlainStep) → Contains (plan_steps sys plan places x) step → IsStepFrom sys plan places x step
  plan_only (table class rules) x step c =
      let r = table_only sys places rules x.state sys.actions step c in
      step_from (table class rules) x (advised_in_table step.action) step (record { has = r.has; onward = λ t. refl }) r.led
  plan_only (automaton contexts rules) x step c = go (rule_at rules x.state x.context) refl c
    where
      go : (o : Option ContextRule) → rule_at rules x.state x.context ≡ o → Contains (steps_if sys places x.state (option_map advised_by o)) step
          → IsStepFrom sys (automaton contexts rules) places x step
      go None h d = absurd (Contains-nil step d)
      go (Some rule) h d = step_from (automaton contexts rules) x (advised_by rule) step (by_rule contexts rules x rule h) (outcomes_only places (advised_by rule) 0 (outcomes_from sys x.state rule.action) step d)

  plan_has : (plan : PlainPlan) (x : Configuration) (step : PlainStep) → IsNumberedSystem sys → AreDistinct places → IsStepFrom sys plan places x step → Contains (plan_steps sys plan places x) step
  plan_has (table class rules) x step ok differ f =
      let led = step_to (table class rules) x (advised_in_table step.action) step ok.bounded differ (record { has = f.steps.has; onward = λ t. refl }) refl f in
      table_has sys places rules x.state sys.actions step (record {
        below = ok.system.actions x.state step.action (leads_somewhere sys x.state step.action ok.numbered led.number led.after led.there);
        has = f.steps.has;
        led = led;
      })
  plan_has (automaton contexts rules) x step ok differ f = go (rule_at rules x.state x.context) refl
    where
      go : (o : Option ContextRule) → rule_at rules x.state x.context ≡ o → Contains (steps_if sys places x.state (option_map advised_by o)) step
      go None h = absurd (none-some step.action (sym (ap (option_map (λ (r : ContextRule). r.action)) h) ∙ f.steps.has))
      go (Some rule) h =
          let e : rule.action ≡ step.action = same_Some rule.action step.action (sym (ap (option_map (λ (r : ContextRule). r.action)) h) ∙ f.steps.has) in
          let o = step_to (automaton contexts rules) x (advised_by rule) step ok.bounded differ (by_rule contexts rules x rule h) (sym e) f in
          outcomes_has places (advised_by rule) 0 (outcomes_from sys x.state rule.action) step o.number o.after o.action o.outcome o.there o.target

  plan_ordered : (plan : PlainPlan) (x : Configuration) → AllPairs IsBefore (plan_steps sys plan places x)
  plan_ordered (table class rules) x = table_ordered sys places rules x.state sys.actions
  plan_ordered (automaton contexts rules) x = go (rule_at rules x.state x.context)
    where
      go : (o : Option ContextRule) → AllPairs IsBefore (steps_if sys places x.state (option_map advised_by o))
      go None = none_ordered
      go (Some rule) = outcomes_ordered places (advised_by rule) 0 (outcomes_from sys x.state rule.action)

  -- what shows a configuration is a node
  shown_node : (plan : PlainPlan) (x : Configuration) (mark : Bool) (node : PlainNode) → IsNumberedSystem sys → AreDistinct places → (IsTrue mark ↔ IsInitial sys x) → Shows sys plan places x mark node
      → IsNode sys plan places node
  shown_node plan x mark node ok differ first h = record {
    initial = subst (λ b. IsTrue b ↔ IsInitial sys node.configuration) (sym h.initial) (subst (λ y. IsTrue mark ↔ IsInitial sys y) (sym h.configuration) first);
    goal = subst (λ (y : Configuration). IsTrue node.goal ↔ Contains (goal_states sys) y.state) (sym h.configuration) h.goal;
    steps = λ step.
        subst (λ y. Contains node.steps step ↔ IsStepFrom sys plan places y step) (sym h.configuration)
        (subst (λ ss. Contains ss step ↔ IsStepFrom sys plan places x step) (sym h.steps)
        (λ c. plan_only plan x step c, λ f. plan_has plan x step ok differ f));
    ordered = subst (AllPairs IsBefore) (sym h.steps) (plan_ordered plan x);
  }

-- two lists of the same length with the same elements
same_list : (xs ys : List Configuration) → length xs ≡ length ys → ((i : ℕ) (x y : Configuration) → slice_get xs i ≡ Some x → slice_get ys i ≡ Some y → x ≡ y) → xs ≡ ys
same_list [] [] l h = refl
same_list [] (y ∷ ys) l h = absurd (omega (arith, l))
same_list (x ∷ xs) [] l h = absurd (omega (arith, l))
same_list (x ∷ xs) (y ∷ ys) l h =
    ap (λ z. z ∷ xs) (h 0 x y refl refl) ∙ ap (λ zs. y ∷ zs) (same_list xs ys (omega (arith, l)) (λ i a b e f. h (suc i) a b e f))

-- the nodes that show the configurations of a graph
module _ (sys : System) (plan : PlainPlan) (graph : PlainGraph) (places : List Configuration) (nodes : List PlainNode)
    (ok : IsNumberedSystem sys) (is : IsGraphOf sys plan graph) (count : length places ≡ graph.size) (each : length nodes ≡ graph.size)
    (at : (i : ℕ) → i < graph.size → slice_get places i ≡ Some (graph.configuration i)) (shown : ShowEach sys plan places graph.initial nodes) where
  below : (i : ℕ) (x : Configuration) → slice_get places i ≡ Some x → i < graph.size
  below i x e = let l = slice_get_within places i x e in omega (arith, l, count)

  at_is : (i : ℕ) (x : Configuration) → slice_get places i ≡ Some x → graph.configuration i ≡ x
  at_is i x e = same_Some (graph.configuration i) x (sym (at i (below i x e)) ∙ e)

  differ : AreDistinct places
  differ i j x e f = is.once i j (below i x e) (below j x f) (at_is i x e ∙ sym (at_is j x f))

  same : places ≡ configurations nodes
  same = same_list places (configurations nodes) (omega (arith, count, each, length-map nodes (λ (node : PlainNode). node.configuration)))
      (λ i x y e f. go i x y e (slice_get nodes i) refl (sym (slice_get-map (λ (node : PlainNode). node.configuration) nodes i) ∙ f))
    where
      go : (i : ℕ) (x y : Configuration) → slice_get places i ≡ Some x → (o : Option PlainNode) → slice_get nodes i ≡ o → option_map (λ (node : PlainNode). node.configuration) o ≡ Some y → x ≡ y
      go i x y e None h f = absurd (none-some y f)
      go i x y e (Some node) h f = sym (shown i node x h e).configuration ∙ same_Some node.configuration y f

  has_reached : (x : Configuration) → Contains places x → IsReachedBy sys plan x
  has_reached x c =
      let k = Contains-number places x c in
      subst (IsReachedBy sys plan) (at_is k.0 x k.2) (is.reached k.0 (below k.0 x k.2))

  reached_has : (x : Configuration) → IsReachedBy sys plan x → Contains places x
  reached_has x r =
      let n = is.listed x r in
      contains_at places n.number x (at n.number n.below ∙ ap Some n.is)

  is_node : (node : PlainNode) → Contains nodes node → IsNode sys plan places node
  is_node node c =
      let k = Contains-number nodes node c in
      let l : k.0 < length nodes = k.1 in
      let low : k.0 < graph.size = omega (arith, l, each) in
      shown_node sys places plan (graph.configuration k.0) (graph.initial k.0) node ok differ (is.initial k.0 low)
      (shown k.0 node (graph.configuration k.0) k.2 (at k.0 low))

  -- they stand as they are numbered
  numbered : map graph.configuration (range_with_len 0 graph.size) ≡ places
  numbered =
      ap (λ k. map graph.configuration (range_with_len 0 k)) (sym count)
      ∙ map-range graph.configuration (λ x. x) places 0 (λ k x e. ap graph.configuration (let z : 0 + k ≡ k = omega arith in z) ∙ at_is k x e)
      ∙ map-id places

  order : AreInOrderMet sys plan (configurations nodes)
  order = subst (AreInOrderMet sys plan) (numbered ∙ same) is.in_order

  first_ones : (i : ℕ) (s : Vector) → slice_get sys.initial i ≡ Some s → slice_get (configurations nodes) i ≡ Some (in_first s)
  first_ones i s e =
      ap (λ xs. slice_get xs i) order
      ∙ all_added_get (map in_first sys.initial) (flat_map (onward sys plan) (configurations nodes)) i (in_first s)
      (slice_get-map in_first sys.initial i ∙ ap (option_map in_first) e)

  pub picture_is : IsPictureOf sys plan nodes
  picture_is = record {
    reached = λ x. subst (λ ps. Contains ps x ↔ IsReachedBy sys plan x) same (λ c. has_reached x c, λ r. reached_has x r);
    once = subst AreDistinct same differ;
    in_order = order;
    begun = first_ones;
    each = λ node c. subst (λ ps. IsNode sys plan ps node) same (is_node node c);
  }

-- one node more
pub shown_more : (sys : System) (plan : PlainPlan) (places : List Configuration) (initial : ℕ → Bool) (nodes : List PlainNode) (node : PlainNode) (k : ℕ) (x : Configuration)
    → length nodes ≡ k → slice_get places k ≡ Some x → ShowEach sys plan places initial nodes → Shows sys plan places x (initial k) node
    → ShowEach sys plan places initial (nodes ++ node ∷ [])
shown_more sys plan places initial nodes node k x l at old here i m y e f =
    ⊎_elim (λ d. old i m y d f)
    (λ p.
    let same : k ≡ i = omega (arith, p.0, l) in
    let sx : x ≡ y = same_Some x y (sym at ∙ ap (slice_get places) same ∙ f) in
    subst (λ j. Shows sys plan places y (initial j) m) same
    (subst (Shows sys plan places y (initial k)) p.1 (subst (λ z. Shows sys plan places z (initial k) node) sx here)))
    (pushed_cases nodes node i m e)
