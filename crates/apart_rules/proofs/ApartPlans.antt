-- The plans that are printed, and their parts that serve.
use Rattle.std.proofs.Common.{◌≡◌, ◌⊎◌, ◌<◌, ◌≤◌, ℕ, zero, suc, Bool, true, false, List, [], ◌∷◌, length, get_or, map, max, inl, inr, refl, sym, ap, ◌∙◌, subst, arith, ⊎_elim}
use Rattle.std.specs.List.{Contains}
use Rattle.std.proofs.lemmas.Bool.{cases_lt}
use Rattle.task_core.specs.ContextPlans.{Configuration}
use Rattle.task_core.specs.Cubes.{SetOfVectors, matches}
use Rattle.task_core.specs.Systems.{System, Exec, IsSystem, IsVector}
use Rattle.task_core.specs.Vectors.{Vector}
use Rattle.task_core.specs.declared.classes.Class.{Class}
use Rattle.plan_document.specs.Faithful.{IsInOrder, IsToldInFull, IsToldRule}
use Rattle.rule_lookup.specs.RunRules.{in_one_context, run_rules}
use Rattle.plan_rules.specs.Denoted.{IsExecutable}
use Rattle.plan_rules.specs.Rules.{ContextRule, PlainPlan, PlanNext, PlanRule, always, automaton, by_cases, table}
use Rattle.plan_theory.specs.CyclicPlans.{cyclic_rules}
use Rattle.plan_theory.specs.LayerPlans.{printed_rules}
use Rattle.plan_theory.specs.Pairs.{Pairs}
use Rattle.plan_theory.specs.PatrolPrinted.{patrol_rules}
use Rattle.plan_theory.specs.UntilChains.{UntilSets}
use Rattle.plan_theory.specs.UntilPrinted.{until_rules}
use Rattle.plan_theory.proofs.ClassLayers.{printed_executable}
use Rattle.plan_theory.proofs.CyclicPrinted.{cyclic_executable}
use Rattle.list_laws.proofs.Elements.{Contains-cons, Contains-head, Contains-map-witness}
use Rattle.exec_graph.specs.Executions.{IsReachedBy}
use Rattle.exec_graph.specs.Graphs.{IsGraphOf, PlainGraph}
use Rattle.exec_graph.proofs.Reaching.{reached_state}
use Rattle.controller_rules.proofs.Marking.{all_marked}
use Rattle.controller_rules.specs.AsRun.{IsFirstAt, NamesContext, NamesLastContext, counts_at}
use Rattle.controller_rules.specs.Checks.{ServesIn}
use Rattle.controller_rules.specs.Serving.{IsServingPart, MarkServing, greatest_named, marked, marked_part, next_named}
use Rattle.apart_rules.proofs.Marked.{map-marked, marked-among, marked-at, marked-from, pairwise-marked}
use Rattle.apart_rules.proofs.Parts.{AreApart, CountsInState, CountsReached, IsPart, NeverBoth, counts_first}
use Rattle.apart_rules.proofs.PrintedContexts.{patrol_apart, patrol_executable, patrol_in_state, patrol_told, until_apart, until_executable, until_in_state, until_told}
use Rattle.apart_rules.proofs.PrintedTables.{all_of, cyclic_in_state, printed_apart, printed_in_order, printed_in_state}
use Rattle.task_core.specs.declared.classes.Class.TheVariants.{Weak}
use Rattle.std.specs.Prelude.{◌^◌}
use Rattle.plan_theory.specs.Pairs.{restricted}

-- no two rules of a plan count in one configuration, it can be told in full, each rule can be followed in
-- each vector that it matches, and each counts in some state
pub record IsApartPlan (sys : System) (plan : PlainPlan) : Type 0 where
  pub apart : AreApart sys.fluents (run_rules plan)
  pub told : IsToldInFull plan
  pub executes : (rule : ContextRule) (v : Vector) → Contains (run_rules plan) rule → IsVector sys v → matches rule.cube v ≡ true → Exec sys v rule.action
  pub counts : (rule : ContextRule) → Contains (run_rules plan) rule → CountsInState sys rule

-- the rules of a table can be followed as they are run
run_executes : (sys : System) (rules : List PlanRule) → IsExecutable sys rules → (rule : ContextRule) (v : Vector) → Contains (map in_one_context rules) rule → IsVector sys v → matches rule.cube v ≡ true
    → Exec sys v rule.action
run_executes sys rules executes rule v c is m =
    let plain = Contains-map-witness in_one_context rules rule c in
    subst (λ (r : ContextRule). Exec sys v r.action) plain.2 (executes plain.0 v plain.1 is (ap (λ (r : ContextRule). matches r.cube v) plain.2 ∙ m))

pub printed_plan : (class written : Class) (sys : System) (K : ℕ) → IsSystem sys → IsApartPlan sys (table written (printed_rules class sys K))
printed_plan class written sys K ok = record {
  apart = printed_apart class sys K;
  told = all_of (λ (rule : PlanRule). IsInOrder rule.cube) (printed_rules class sys K) (printed_in_order class sys K);
  executes = run_executes sys (printed_rules class sys K) (printed_executable class sys K);
  counts = printed_in_state class sys K ok;
}

pub cyclic_plan : (written : Class) (sys : System) (pairs : Pairs) → IsSystem sys → IsApartPlan sys (table written (cyclic_rules sys pairs))
cyclic_plan written sys pairs ok = record {
  apart = printed_apart Weak (restricted sys pairs) (2 ^ sys.fluents);
  told = all_of (λ (rule : PlanRule). IsInOrder rule.cube) (cyclic_rules sys pairs) (printed_in_order Weak (restricted sys pairs) (2 ^ sys.fluents));
  executes = run_executes sys (cyclic_rules sys pairs) (cyclic_executable sys pairs);
  counts = cyclic_in_state sys pairs ok;
}

pub until_plan : (contexts : ℕ) (sys : System) (chain : UntilSets) → IsSystem sys → IsApartPlan sys (automaton contexts (until_rules sys chain))
until_plan contexts sys chain ok = record {
  apart = until_apart sys chain;
  told = all_of IsToldRule (until_rules sys chain) (until_told sys chain);
  executes = until_executable sys chain ok;
  counts = until_in_state sys chain ok;
}

pub context_plan : (contexts : ℕ) (sys : System) (visits : List SetOfVectors) → IsSystem sys → IsApartPlan sys (automaton contexts (patrol_rules sys visits))
context_plan contexts sys visits ok = record {
  apart = patrol_apart sys visits;
  told = all_of IsToldRule (patrol_rules sys visits) (patrol_told sys visits);
  executes = patrol_executable sys visits ok;
  counts = patrol_in_state sys visits ok;
}

-- the rules of a part that is marked
pub part_rules : (marks : List Bool) (plan : PlainPlan) → run_rules (marked_part marks plan) ≡ marked marks (run_rules plan)
part_rules marks (table class rules) = map-marked in_one_context marks rules
part_rules marks (automaton contexts rules) = refl

pub part_told : (marks : List Bool) (plan : PlainPlan) → IsToldInFull plan → IsToldInFull (marked_part marks plan)
part_told marks (table class rules) told = all_marked (λ (rule : PlanRule). IsInOrder rule.cube) marks rules told
part_told marks (automaton contexts rules) told = all_marked IsToldRule marks rules told

-- the greatest context that is named is the first one, or some rule names it
greatest_of : (rule : ContextRule) (next : PlanNext) (rest : List ContextRule) → rule.next ≡ next
    → (greatest_named rest ≡ 1) ⊎ ((other : ContextRule) × Contains rest other × NamesContext (greatest_named rest) other)
    → (greatest_named (rule ∷ rest) ≡ 1) ⊎ ((other : ContextRule) × Contains (rule ∷ rest) other × NamesContext (greatest_named (rule ∷ rest)) other)
greatest_of rule next rest is before = go (cases_lt (max rule.context (next_named rule.next)) (greatest_named rest)) (cases_lt rule.context (next_named rule.next)) next is
  where
    go : (max rule.context (next_named rule.next) < greatest_named rest) ⊎ (greatest_named rest ≤ max rule.context (next_named rule.next))
        → (rule.context < next_named rule.next) ⊎ (next_named rule.next ≤ rule.context) → (next : PlanNext) → rule.next ≡ next
        → (greatest_named (rule ∷ rest) ≡ 1) ⊎ ((other : ContextRule) × Contains (rule ∷ rest) other × NamesContext (greatest_named (rule ∷ rest)) other)
    go (inl later) q next is =
        let same : greatest_named rest ≡ greatest_named (rule ∷ rest) = omega (arith, later) in
        ⊎_elim
        (λ one. inl (sym same ∙ one))
        (λ named. inr (named.0, Contains-cons rule rest named.0 named.1, subst (λ n. NamesContext n named.0) same named.2))
        before
    go (inr here) (inr own) next is =
        let same : rule.context ≡ greatest_named (rule ∷ rest) = omega (arith, here, own) in
        inr (rule, Contains-head rule rest, inl same)
    go (inr here) (inl onward) (always context) is =
        let same : next_named rule.next ≡ greatest_named (rule ∷ rest) = omega (arith, here, onward) in
        inr (rule, Contains-head rule rest, inr (is ∙ ap always (sym (ap next_named is) ∙ same)))
    go (inr here) (inl onward) (by_cases cases) is =
        let same : next_named rule.next ≡ greatest_named (rule ∷ rest) = omega (arith, here, onward) in
        inl (sym same ∙ ap next_named is)

names_greatest : (rules : List ContextRule) → (greatest_named rules ≡ 1) ⊎ ((rule : ContextRule) × Contains rules rule × NamesContext (greatest_named rules) rule)
names_greatest [] = inl refl
names_greatest (rule ∷ rest) = greatest_of rule rule.next rest refl (names_greatest rest)

pub part_names : (marks : List Bool) (plan : PlainPlan) → NamesLastContext (marked_part marks plan)
part_names marks (table class rules) = tt
part_names marks (automaton contexts rules) = names_greatest (marked marks rules)

-- the part of a plan that serves in its graph has what counts where the plan may come
module _ (sys : System) (ok : IsSystem sys) (plan : PlainPlan) (graph : PlainGraph) (of : IsGraphOf sys plan graph) (is : IsApartPlan sys plan) where
  module _ (marks : List Bool) (say : MarkServing (run_rules plan) graph marks) where
    serves_kept : (x : Configuration) (rule : ContextRule) → IsReachedBy sys plan x → Contains (run_rules plan) rule → counts_at x rule ≡ true → Contains (marked marks (run_rules plan)) rule
    serves_kept x rule r c counts =
        let rules = run_rules plan in
        let k = c.0 in
        let node = of.listed x r in
        let here : counts_at x (get_or rules k rule) ≡ true = ap (counts_at x) c.2 ∙ counts in
        let first = counts_first sys.fluents x (reached_state sys plan x ok r).vector rules is.apart k rule c.1 here in
        let serves : ServesIn rules graph k = record { node = node.number; below = node.below; first = subst (λ y. IsFirstAt rules y k) (sym node.is) first } in
        subst (Contains (marked marks rules)) c.2 (marked-at marks rules k rule c.1 ((say.serving k).1 serves))

    serves_reached : (rule : ContextRule) → Contains (marked marks (run_rules plan)) rule → CountsReached sys plan rule
    serves_reached rule c =
        let rules = run_rules plan in
        let at = marked-from marks rules rule c in
        let serves = (say.serving at.place).0 at.mark in
        let x = graph.configuration serves.node in
        record { place = x; reached = of.reached serves.node serves.below; counts = sym (ap (counts_at x) at.is) ∙ counts_there x rules at.place rule at.below serves.first.counts }
      where
        counts_there : (x : Configuration) (rules : List ContextRule) (k : ℕ) (d : ContextRule) → k < length rules → get_or (map (counts_at x) rules) k false ≡ true → counts_at x (get_or rules k d) ≡ true
        counts_there x [] k d below counts = absurd (omega arith)
        counts_there x (rule ∷ rules) zero d below counts = counts
        counts_there x (rule ∷ rules) (suc k) d below counts = counts_there x rules k d (omega arith) counts

    marked_is_part : IsPart sys plan (marked_part marks plan)
    marked_is_part =
        let same = part_rules marks plan in
        let rules = run_rules plan in
        record {
          apart = is.apart;
          apart_part = subst (AreApart sys.fluents) (sym same) (pairwise-marked (NeverBoth sys.fluents) marks rules is.apart);
          among = λ rule c. marked-among marks rules rule (subst (λ (rs : List ContextRule). Contains rs rule) same c);
          kept = λ x rule r c counts. subst (λ (rs : List ContextRule). Contains rs rule) (sym same) (serves_kept x rule r c counts);
          serves = λ rule c. serves_reached rule (subst (λ (rs : List ContextRule). Contains rs rule) same c);
        }

  pub serving_is_part : (part : PlainPlan) → IsServingPart graph plan part → IsPart sys plan part
  serving_is_part part serving = subst (IsPart sys plan) (sym serving.is) (marked_is_part serving.marks serving.say)

-- what else a part has of the plan
pub serving_told : (graph : PlainGraph) (plan part : PlainPlan) → IsServingPart graph plan part → IsToldInFull plan → IsToldInFull part
serving_told graph plan part serving told = subst IsToldInFull (sym serving.is) (part_told serving.marks plan told)

pub serving_names : (graph : PlainGraph) (plan part : PlainPlan) → IsServingPart graph plan part → NamesLastContext part
serving_names graph plan part serving = subst NamesLastContext (sym serving.is) (part_names serving.marks plan)

pub serving_among : (graph : PlainGraph) (plan part : PlainPlan) → IsServingPart graph plan part → (rule : ContextRule) → Contains (run_rules part) rule → Contains (run_rules plan) rule
serving_among graph plan part serving rule c =
    marked-among serving.marks (run_rules plan) rule
    (subst (λ (rs : List ContextRule). Contains rs rule) (part_rules serving.marks plan) (subst (λ (q : PlainPlan). Contains (run_rules q) rule) serving.is c))
