-- A plan of whose rules no two count in one configuration, and a part of it that has each rule that counts
-- where the plan may come: the part may come to the same, and does the same there.
use Rattle.std.proofs.Common.{◌≡◌, ◌↔◌, ℕ, zero, suc, ◌<◌, ◌&&◌, ◌==◌, Bool, true, false, List, [], ◌∷◌, length, get_or, map, Some, refl, sym, ap, ◌∙◌, subst, arith}
use Rattle.std.specs.List.{Contains, find, list_any}
use Rattle.std.specs.Option.{option_and_then, option_map}
use Rattle.std.proofs.lemmas.Bool.{and_from, and_parts, eq-eqb}
use Rattle.std.proofs.lemmas.List.{get_or_default}
use Rattle.list_laws.proofs.Elements.{Contains-map, Contains-map-witness, find-None, find-Some, find-found, list_any-false, list_any-from, list_any-none, list_any-witness}
use Rattle.task_core.specs.ContextPlans.{Configuration, first_context}
use Rattle.task_core.specs.Cubes.{matches}
use Rattle.task_core.specs.Solutions.{IsReached, IsSolution}
use Rattle.task_core.specs.Systems.{System, IsState, IsSystem}
use Rattle.task_core.specs.Vectors.{Vector}
use Rattle.task_core.specs.declared.classes.Class.{Class}
use Rattle.plan_rules.specs.Denoted.{advises, denoted, denoted_contexts, next_context, rule_at}
use Rattle.plan_rules.specs.Rules.{ContextRule, PlainPlan, PlanRule, automaton, table}
use Rattle.plan_rules.proofs.DenotedPairs.{denoted-from, denoted-pair}
use Rattle.rule_lookup.specs.RunRules.{in_one_context, run_rules}
use Rattle.first_match.proofs.SameRuns.{solution_to}
use Rattle.exec_graph.specs.Executions.{GoesTo, IsReachedBy}
use Rattle.exec_graph.proofs.Reaching.{reached_first, reached_keeps, reached_next, reached_state}
use Rattle.controller_rules.specs.AsRun.{CountsSomewhere, HasNoDeadRule, HasNoHiddenRule, HasOneMove, IsFirstAt, Serves, counts_at}
use Rattle.apart_rules.proofs.Lists.{Pairwise, only_one, pairwise-weaker}

-- no configuration over n fluents has both rules count
abbrev pub NeverBoth : ℕ → ContextRule → ContextRule → Type 0
NeverBoth n rule other = (x : Configuration) → length x.state ≡ n → counts_at x rule ≡ true → counts_at x other ≡ true → ⊥

-- and so for every two of the rules
abbrev pub AreApart : ℕ → List ContextRule → Type 0
AreApart n rules = Pairwise (NeverBoth n) rules

module _ (n : ℕ) (x : Configuration) (long : length x.state ≡ n) where
  -- then one alone counts in a configuration
  pub one_counts : (rules : List ContextRule) → AreApart n rules → (rule other : ContextRule) → Contains rules rule → Contains rules other → counts_at x rule ≡ true → counts_at x other ≡ true → rule ≡ other
  one_counts rules apart rule other c d =
      only_one (λ (r : ContextRule). counts_at x r ≡ true) rules
      (pairwise-weaker (NeverBoth n) (λ (r o : ContextRule). counts_at x r ≡ true → counts_at x o ≡ true → ⊥) rules (λ r o never. never x long) apart)
      rule other c d

  not_counting : (rule : ContextRule) → (counts_at x rule ≡ true → ⊥) → counts_at x rule ≡ false
  not_counting rule never = go (counts_at x rule) refl
    where
      go : (b : Bool) → counts_at x rule ≡ b → counts_at x rule ≡ false
      go true e = absurd (never e)
      go false e = e

  -- and so it is the first
  pub counts_first : (rules : List ContextRule) → AreApart n rules → (k : ℕ) (d : ContextRule) → k < length rules → counts_at x (get_or rules k d) ≡ true → IsFirstAt rules x k
  counts_first [] apart k d below counts = absurd (omega arith)
  counts_first (rule ∷ rules) apart zero d below counts = record { counts = counts; first = λ j less. absurd (omega arith) }
  counts_first (rule ∷ rules) apart (suc k) d below counts =
      let later = counts_first rules apart.1 k d (omega arith) counts in
      record { counts = later.counts; first = earlier later }
    where
      earlier : IsFirstAt rules x k → (j : ℕ) → j < suc k → get_or (map (counts_at x) (rule ∷ rules)) j false ≡ false
      earlier later zero less =
          not_counting rule (λ here. apart.0 (get_or rules k d) (k, omega arith, get_or_default rules k (get_or rules k d) d (omega arith)) x long here counts)
      earlier later (suc j) less = later.first j (omega arith)

-- a rule counts in some configuration where the plan may come
pub record CountsReached (sys : System) (plan : PlainPlan) (rule : ContextRule) : Type 0 where
  pub place : Configuration
  pub reached : IsReachedBy sys plan place
  pub counts : counts_at place rule ≡ true

-- a rule counts in some state
pub record CountsInState (sys : System) (rule : ContextRule) : Type 0 where
  pub place : Configuration
  pub is_state : IsState sys place.state
  pub counts : counts_at place rule ≡ true

-- of the rules of a plan, the part has exactly those that count where the plan may come
pub record IsPart (sys : System) (plan part : PlainPlan) : Type 0 where
  pub apart : AreApart sys.fluents (run_rules plan)
  pub apart_part : AreApart sys.fluents (run_rules part)
  pub among : (rule : ContextRule) → Contains (run_rules part) rule → Contains (run_rules plan) rule
  pub kept : (x : Configuration) (rule : ContextRule) → IsReachedBy sys plan x → Contains (run_rules plan) rule → counts_at x rule ≡ true → Contains (run_rules part) rule
  pub serves : (rule : ContextRule) → Contains (run_rules part) rule → CountsReached sys plan rule

abbrev pub at_first : Vector → Configuration
at_first s = record { state = s; context = first_context }

-- a rule with its action that matches a state, and what is found of it in another list
module _ (s : Vector) (a : ℕ) where
  acts_there : ContextRule → Bool
  acts_there rule = (rule.action == a) && matches rule.cube s

  pub advised_also : (rules others : List PlanRule) → ((rule : ContextRule) → Contains (map in_one_context rules) rule → counts_at (at_first s) rule ≡ true → Contains (map in_one_context others) rule)
      → advises rules s a ≡ true → advises others s a ≡ true
  advised_also rules others also advised =
      let w = list_any-witness (λ (rule : PlanRule). (rule.action == a) && matches rule.cube s) rules advised in
      let both = and_parts (w.0.action == a) (matches w.0.cube s) w.2 in
      let there = also (in_one_context w.0) (Contains-map in_one_context rules w.0 w.1) (and_from (first_context == first_context) (matches w.0.cube s) (eq-eqb first_context first_context refl) both.1) in
      let r = Contains-map-witness in_one_context others (in_one_context w.0) there in
      list_any-from (λ (rule : PlanRule). (rule.action == a) && matches rule.cube s) others r.0 r.1 (ap (λ (rule : ContextRule). (rule.action == a) && matches rule.cube s) r.2 ∙ w.2)

-- what is found first in a part that has what is found in the whole
find-part : {X : Type 0} (p : X → Bool) (xs ys : List X) → ((y : X) → Contains ys y → Contains xs y) → ((x : X) → Contains xs x → p x ≡ true → Contains ys x)
    → ((x y : X) → Contains xs x → Contains xs y → p x ≡ true → p y ≡ true → x ≡ y) → find p ys ≡ find p xs
find-part {X} p xs ys among kept one = go (list_any p xs) refl
  where
    go : (b : Bool) → list_any p xs ≡ b → find p ys ≡ find p xs
    go false e = find-None p ys (list_any-none p ys (λ y c. list_any-false p xs y e (among y c))) ∙ sym (find-None p xs e)
    go true e =
        let x = find-Some p xs e in
        let at = find-found p xs x.0 x.1 in
        let y = find-Some p ys (list_any-from p ys x.0 (kept x.0 at.0 at.1) at.1) in
        let there = find-found p ys y.0 y.1 in
        y.1 ∙ ap Some (one y.0 x.0 (among y.0 there.0) at.0 there.1 at.1) ∙ sym x.1

module _ (sys : System) (ok : IsSystem sys) where
  long_state : (plan : PlainPlan) (x : Configuration) → IsReachedBy sys plan x → length x.state ≡ sys.fluents
  long_state plan x reached = (reached_state sys plan x ok reached).vector

  -- the same pairs where the plan may come
  module _ (class : Class) (rules others : List PlanRule) (part : IsPart sys (table class rules) (table class others)) where
    pub pairs_to : (s : Vector) (a : ℕ) → IsReached sys (denoted sys rules) s → Contains (denoted sys rules) (s, a) → Contains (denoted sys others) (s, a)
    pairs_to s a r c =
        let d = denoted-pair sys rules s a c in
        denoted-from sys others s a (record {
          vector = d.vector;
          below = d.below;
          advised = advised_also s a rules others (λ rule among counts. part.kept (at_first s) rule (r, refl) among counts) d.advised;
          executable = d.executable;
        })

    pub pairs_from : (s : Vector) (a : ℕ) → IsReached sys (denoted sys rules) s → Contains (denoted sys others) (s, a) → Contains (denoted sys rules) (s, a)
    pairs_from s a r c =
        let d = denoted-pair sys others s a c in
        denoted-from sys rules s a (record {
          vector = d.vector;
          below = d.below;
          advised = advised_also s a others rules (λ rule among counts. part.among rule among) d.advised;
          executable = d.executable;
        })

    pub part_solves : (wanted : Class) → IsSolution wanted sys (denoted sys rules) → IsSolution wanted sys (denoted sys others)
    part_solves wanted solves = solution_to sys (denoted sys rules) (denoted sys others) pairs_to pairs_from wanted solves

    pub part_goes : (x y : Configuration) → IsReachedBy sys (table class rules) x → GoesTo sys (table class rules) x y ↔ GoesTo sys (table class others) x y
    part_goes x y r = (
      λ g. (record { action = g.0.action; pair = pairs_to x.state g.0.action r.0 g.0.pair; outcome = g.0.outcome }, g.1),
      λ g. (record { action = g.0.action; pair = pairs_from x.state g.0.action r.0 g.0.pair; outcome = g.0.outcome }, g.1),
    )

  -- the same rule of a context counts
  module _ (n m : ℕ) (rules others : List ContextRule) (part : IsPart sys (automaton n rules) (automaton m others)) where
    same_rule : (x : Configuration) → IsReachedBy sys (automaton n rules) x → rule_at others x.state x.context ≡ rule_at rules x.state x.context
    same_rule x r =
        find-part (counts_at x) rules others part.among (λ rule among counts. part.kept x rule r among counts)
        (λ rule other c d. one_counts sys.fluents x (long_state (automaton n rules) x r) rules part.apart rule other c d)

    pub same_act : (x : Configuration) → IsReachedBy sys (automaton n rules) x → (denoted_contexts others).act x.state x.context ≡ (denoted_contexts rules).act x.state x.context
    same_act x r = ap (option_map (λ (rule : ContextRule). rule.action)) (same_rule x r)

    pub same_context : (x : Configuration) (t : Vector) → IsReachedBy sys (automaton n rules) x → (denoted_contexts others).ctxt x.state x.context t ≡ (denoted_contexts rules).ctxt x.state x.context t
    same_context x t r = ap (option_and_then (λ (rule : ContextRule). next_context rule.next t)) (same_rule x r)

    pub part_follows : (x y : Configuration) → IsReachedBy sys (automaton n rules) x → GoesTo sys (automaton n rules) x y ↔ GoesTo sys (automaton m others) x y
    part_follows x y r = (
      λ g. record { action = g.action; acts = same_act x r ∙ g.acts; outcome = g.outcome; context = same_context x y.state r ∙ g.context },
      λ g. record { action = g.action; acts = sym (same_act x r) ∙ g.acts; outcome = g.outcome; context = sym (same_context x y.state r) ∙ g.context },
    )

  -- a part comes to what the plan comes to
  module _ (plan part : PlainPlan) (is : IsPart sys plan part)
      (goes : (x y : Configuration) → IsReachedBy sys plan x → GoesTo sys plan x y ↔ GoesTo sys part x y) where
    pub reached_from : (x : Configuration) → IsReachedBy sys part x → IsReachedBy sys plan x
    reached_from = reached_keeps sys (IsReachedBy sys plan) part (reached_first sys plan) (λ x y r g. reached_next sys plan x y r ((goes x y r).1 g))

    reached_both : (x : Configuration) → IsReachedBy sys plan x → IsReachedBy sys plan x × IsReachedBy sys part x
    reached_both = reached_keeps sys (λ x. IsReachedBy sys plan x × IsReachedBy sys part x) plan
        (λ x first. (reached_first sys plan x first, reached_first sys part x first))
        (λ x y r g. (reached_next sys plan x y r.0 g, reached_next sys part x y r.1 ((goes x y r.0).0 g)))

    pub reached_to : (x : Configuration) → IsReachedBy sys plan x → IsReachedBy sys part x
    reached_to x r = (reached_both x r).1

    -- none of its rules is dead
    pub part_serves : HasNoDeadRule sys part
    part_serves k below = go (run_rules part) refl below
      where
        go : (rules : List ContextRule) → run_rules part ≡ rules → k < length (run_rules part) → Serves sys part k
        go [] e less = absurd (let l : k < 0 = subst (λ (rs : List ContextRule). k < length rs) e less in omega arith)
        go (d ∷ rest) e less =
            let rule = get_or (run_rules part) k d in
            let at = is.serves rule (k, less, get_or_default (run_rules part) k rule d less) in
            record {
              place = at.place;
              reached = reached_to at.place at.reached;
              first = counts_first sys.fluents at.place (long_state plan at.place at.reached) (run_rules part) is.apart_part k d less at.counts;
            }

  -- where no two rules count at once, all that count make one move
  pub one_move : (plan : PlainPlan) → AreApart sys.fluents (run_rules plan) → HasOneMove sys plan
  one_move plan apart x r rule other c d counts counts' =
      let same = one_counts sys.fluents x (long_state plan x r) (run_rules plan) apart rule other c d counts counts' in
      record { action = ap (λ (y : ContextRule). y.action) same; next = ap (λ (y : ContextRule). y.next) same }

  -- and where each counts in some state, none is hidden
  pub none_hidden : (plan : PlainPlan) → AreApart sys.fluents (run_rules plan) → ((rule : ContextRule) → Contains (run_rules plan) rule → CountsInState sys rule) → HasNoHiddenRule sys plan
  none_hidden plan apart each k below = go (run_rules plan) refl below
    where
      go : (rules : List ContextRule) → run_rules plan ≡ rules → k < length (run_rules plan) → CountsSomewhere sys plan k
      go [] e less = absurd (let l : k < 0 = subst (λ (rs : List ContextRule). k < length rs) e less in omega arith)
      go (d ∷ rest) e less =
          let rule = get_or (run_rules plan) k d in
          let at = each rule (k, less, get_or_default (run_rules plan) k rule d less) in
          record {
            place = at.place;
            is_state = at.is_state;
            first = counts_first sys.fluents at.place at.is_state.vector (run_rules plan) apart k d less at.counts;
          }
