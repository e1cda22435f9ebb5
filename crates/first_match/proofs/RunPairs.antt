-- The pairs of the table of first matching rules, and the states that it may reach.
use Rattle.std.proofs.Common.{◌≡◌, ℕ, Bool, true, ◌&&◌, ◌==◌, ◌<◌, eqb, false, List, Option, Some, None, refl, sym, ap, ◌∙◌, subst}
use Rattle.std.specs.List.{Contains, filter, find, range_with_len}
use Rattle.std.specs.Option.{option_map_or}
use Rattle.std.proofs.lemmas.Bool.{and_from, and_parts, eq-eqb, eqb-true, false≢true}
use Rattle.list_laws.proofs.Elements.{Contains-filter, Contains-filter-witness, Contains-flat_map, Contains-flat_map-witness, Contains-map, Contains-map-witness, Contains-range_with_len, Contains-range_with_len-below, find-found, list_any-from}
use Rattle.task_core.specs.Solutions.{IsReached}
use Rattle.task_core.specs.Systems.{System, Exec, IsSystem, IsVector}
use Rattle.task_core.specs.Tables.{IsTable, IsTerminal, Leads, Reaches}
use Rattle.task_core.specs.Vectors.{Vector, all_vectors}
use Rattle.task_core.proofs.Paths.{path_keeps}
use Rattle.task_core.proofs.Vectors.{all_vectors_has, all_vectors_length}
use Rattle.plan_rules.specs.Denoted.{advises, can_execute, denoted}
use Rattle.plan_rules.specs.Rules.{PlanRule}
use Rattle.plan_rules.proofs.DenotedPairs.{can_execute-Exec, denoted-from, Exec-can_execute}
use Rattle.task_core.specs.Cubes.{matches}
use Rattle.first_match.specs.FirstMatch.{begins_with_action, first_rule, run_at, run_table}
use Rattle.first_match.proofs.SameRuns.{reached_onward, reached_start}

-- the rule that counts in a state has the action
pub record IsAdvised (rules : List PlanRule) (v : Vector) (a : ℕ) : Type 0 where
  pub rule : PlanRule
  pub is : first_rule rules v ≡ Some rule
  pub action : rule.action ≡ a

pub advised_from : (rules : List PlanRule) (v : Vector) (rule : PlanRule) (a : ℕ) → first_rule rules v ≡ Some rule → rule.action ≡ a → begins_with_action rules v a ≡ true
advised_from rules v rule a is same =
    ap (λ (o : Option PlanRule). option_map_or (λ (r : PlanRule). r.action == a) o false) is ∙ eq-eqb rule.action a same

pub advised_parts : (rules : List PlanRule) (v : Vector) (a : ℕ) → begins_with_action rules v a ≡ true → IsAdvised rules v a
advised_parts rules v a h = go (first_rule rules v) refl
  where
    go : (o : Option PlanRule) → first_rule rules v ≡ o → IsAdvised rules v a
    go None e = absurd (false≢true (sym (ap (λ (o : Option PlanRule). option_map_or (λ (r : PlanRule). r.action == a) o false) e) ∙ h))
    go (Some rule) e = record {
      rule = rule;
      is = e;
      action = eqb-true rule.action a (sym (ap (λ (o : Option PlanRule). option_map_or (λ (r : PlanRule). r.action == a) o false) e) ∙ h);
    }

-- what makes (s, a) a pair of the table
pub record IsPair (sys : System) (rules : List PlanRule) (s : Vector) (a : ℕ) : Type 0 where
  pub vector : IsVector sys s
  pub advised : begins_with_action rules s a ≡ true
  pub executable : Exec sys s a

module _ (sys : System) where
  -- what makes (s, a) a pair of the rules as they are run
  pub record IsRun (rules : List PlanRule) (s : Vector) (a : ℕ) : Type 0 where
    pub vector : IsVector sys s
    pub below : a < sys.actions
    pub begins : begins_with_action rules s a ≡ true
    pub executable : can_execute sys s a ≡ true

  pub run_from : (rules : List PlanRule) (s : Vector) (a : ℕ) → IsRun rules s a → Contains (run_table sys rules) (s, a)
  run_from rules s a is = Contains-flat_map (run_at sys rules) (all_vectors sys.fluents) s (s, a) (all_vectors_has sys.fluents s is.vector)
      (Contains-map (λ b. (s, b)) (filter (λ b. begins_with_action rules s b && can_execute sys s b) (range_with_len 0 sys.actions)) a
      (Contains-filter (λ b. begins_with_action rules s b && can_execute sys s b) (range_with_len 0 sys.actions) a (Contains-range_with_len sys.actions a is.below)
      (and_from (begins_with_action rules s a) (can_execute sys s a) is.begins is.executable)))

  pub run_pair : (rules : List PlanRule) (s : Vector) (a : ℕ) → Contains (run_table sys rules) (s, a) → IsRun rules s a
  run_pair rules s a c =
      let at = Contains-flat_map-witness (run_at sys rules) (all_vectors sys.fluents) (s, a) c in
      let v = at.0 in
      let test = λ (b : ℕ). begins_with_action rules v b && can_execute sys v b in
      let pair = Contains-map-witness (λ b. (v, b)) (filter test (range_with_len 0 sys.actions)) (s, a) at.2 in
      let b = pair.0 in
      let passes = Contains-filter-witness test (range_with_len 0 sys.actions) b pair.1 in
      let both = and_parts (begins_with_action rules v b) (can_execute sys v b) passes.1 in
      let here : IsRun rules v b = record { vector = all_vectors_length sys.fluents v at.1; below = Contains-range_with_len-below sys.actions b passes.0; begins = both.0; executable = both.1 } in
      subst (λ (p : Vector × ℕ). IsRun rules p.0 p.1) pair.2 here

  -- the first rule that matches advises its action
  begins_advised : (rules : List PlanRule) (s : Vector) (a : ℕ) → begins_with_action rules s a ≡ true → advises rules s a ≡ true
  begins_advised rules s a begins = go (find fits rules) refl begins
    where
      fits : PlanRule → Bool
      fits rule = matches rule.cube s

      go : (found : Option PlanRule) → find (λ (rule : PlanRule). matches rule.cube s) rules ≡ found → option_map_or (λ (rule : PlanRule). eqb rule.action a) found false ≡ true → advises rules s a ≡ true
      go None is first = absurd (false≢true first)
      go (Some rule) is first =
          let at = find-found (λ (r : PlanRule). matches r.cube s) rules rule is in
          list_any-from (λ (r : PlanRule). eqb r.action a && matches r.cube s) rules rule at.0 (and_from (eqb rule.action a) (matches rule.cube s) first at.1)

  pub run_denoted : (rules : List PlanRule) (s : Vector) (a : ℕ) → Contains (run_table sys rules) (s, a) → Contains (denoted sys rules) (s, a)
  run_denoted rules s a pair =
      let is = run_pair rules s a pair in
      denoted-from sys rules s a (record { vector = is.vector; below = is.below; advised = begins_advised rules s a is.begins; executable = is.executable })

module _ (sys : System) (ok : IsSystem sys) (rules : List PlanRule) where
  pub pair_in : (s : Vector) (a : ℕ) → IsPair sys rules s a → Contains (run_table sys rules) (s, a)
  pair_in s a p = run_from sys rules s a (record { vector = p.vector; below = ok.actions s a p.executable; begins = p.advised; executable = Exec-can_execute sys s a p.executable })

  pub pair_of : (s : Vector) (a : ℕ) → Contains (run_table sys rules) (s, a) → IsPair sys rules s a
  pair_of s a c = let is = run_pair sys rules s a c in record { vector = is.vector; advised = is.begins; executable = can_execute-Exec sys s a is.executable }

  pub is_table : IsTable sys (run_table sys rules)
  is_table s a c = let p = pair_of s a c in (record { vector = p.vector; inside = ok.inside s a p.executable }, p.executable)

  -- a state has one pair at most, with the action of the rule that counts
  pub pair_action : (s : Vector) (a : ℕ) (rule : PlanRule) → Contains (run_table sys rules) (s, a) → first_rule rules s ≡ Some rule → rule.action ≡ a
  pair_action s a rule c is =
      let p = advised_parts rules s a (pair_of s a c).advised in
      let same : rule ≡ p.rule = (let e : Some rule ≡ Some p.rule = sym is ∙ p.is in cc) in
      ap (λ (r : PlanRule). r.action) same ∙ p.action

  pub single : (s : Vector) (a b : ℕ) → Contains (run_table sys rules) (s, a) → Contains (run_table sys rules) (s, b) → a ≡ b
  single s a b one two =
      let p = advised_parts rules s a (pair_of s a one).advised in
      sym p.action ∙ pair_action s b p.rule two p.is

  pub no_pair : (s : Vector) → first_rule rules s ≡ None → IsTerminal (run_table sys rules) s
  no_pair s free a c = let p = advised_parts rules s a (pair_of s a c).advised in (let e : None ≡ Some p.rule = sym free ∙ p.is in absurd (cc))

  pub pair_executable : (s : Vector) (a : ℕ) (rule : PlanRule) → Contains (run_table sys rules) (s, a) → first_rule rules s ≡ Some rule → Exec sys s rule.action
  pair_executable s a rule c is = subst (λ b. Exec sys s b) (sym (pair_action s a rule c is)) (pair_of s a c).executable

  pub rule_pair : (s : Vector) (rule : PlanRule) → IsVector sys s → first_rule rules s ≡ Some rule → Exec sys s rule.action → Contains (run_table sys rules) (s, rule.action)
  rule_pair s rule vector is exec = pair_in s rule.action (record { vector = vector; advised = advised_from rules s rule rule.action is refl; executable = exec })

  -- reached states
  pub reached_first : (s : Vector) → Contains sys.initial s → IsReached sys (run_table sys rules) s
  reached_first s initial = reached_start sys (run_table sys rules) s initial

  pub reached_more : (s t : Vector) → IsReached sys (run_table sys rules) s → Leads sys (run_table sys rules) s t → IsReached sys (run_table sys rules) t
  reached_more s t reached lead = reached_onward sys (run_table sys rules) s t reached lead

  pub reached_on : (s t : Vector) → IsReached sys (run_table sys rules) s → Reaches sys (run_table sys rules) s t → IsReached sys (run_table sys rules) t
  reached_on s t reached r =
      subst (IsReached sys (run_table sys rules)) r.ends
      (path_keeps (Leads sys (run_table sys rules)) (IsReached sys (run_table sys rules)) (λ x y. reached_more x y) s r.rest reached r.path)

  -- a property that initial states have and steps keep
  pub reached_keeps : (P : Vector → Type 0) → ((s : Vector) → Contains sys.initial s → P s) → ((s t : Vector) → P s → Leads sys (run_table sys rules) s t → P t) → (s : Vector) → IsReached sys (run_table sys rules) s → P s
  reached_keeps P first keeps s reached =
      subst P reached.path.ends (path_keeps (Leads sys (run_table sys rules)) P keeps reached.start reached.path.rest (first reached.start reached.initial) reached.path.path)

  pub reached_vector : (s : Vector) → IsReached sys (run_table sys rules) s → IsVector sys s
  reached_vector = reached_keeps (IsVector sys) (λ s initial. (ok.initial s initial).vector) (λ s t is lead. (ok.next s lead.action t lead.outcome).vector)
