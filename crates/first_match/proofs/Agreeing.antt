-- Where rules agree, the table of all that match has the runs of the table of the first that match.
use Rattle.std.proofs.Common.{◌≡◌, ℕ, true, ◌&&◌, ◌==◌, List, Some, sym, ◌∙◌, subst}
use Rattle.std.specs.List.{Contains}
use Rattle.std.proofs.lemmas.Bool.{and_parts, eqb-true}
use Rattle.list_laws.proofs.Elements.{find-Some, list_any-from, list_any-witness}
use Rattle.task_core.specs.Cubes.{matches}
use Rattle.task_core.specs.Solutions.{IsReached, IsSolution}
use Rattle.task_core.specs.Systems.{System, Exec, IsSystem}
use Rattle.task_core.specs.Vectors.{Vector}
use Rattle.task_core.specs.declared.classes.Class.{Class}
use Rattle.plan_rules.specs.Denoted.{denoted}
use Rattle.plan_rules.specs.Rules.{PlanRule}
use Rattle.plan_rules.proofs.DenotedPairs.{can_execute-Exec, denoted-pair}
use Rattle.first_match.specs.FirstMatch.{RulesAgree, SolvesAsRun, first_rule, run_table}
use Rattle.first_match.proofs.RunPairs.{rule_pair, run_denoted}
use Rattle.first_match.proofs.SameRuns.{also_reached, solution_to}

-- the rule that counts where some rule matches
pub counts_where : (rules : List PlanRule) (s : Vector) (rule : PlanRule) → Contains rules rule → matches rule.cube s ≡ true → (first : PlanRule) × (first_rule rules s ≡ Some first)
counts_where rules s rule has matched = find-Some (λ (r : PlanRule). matches r.cube s) rules (list_any-from (λ (r : PlanRule). matches r.cube s) rules rule has matched)

module _ (sys : System) (ok : IsSystem sys) (rules : List PlanRule) (agree : RulesAgree sys rules) where
  -- a pair of the first is one of all
  first_denoted : (s : Vector) (a : ℕ) → IsReached sys (run_table sys rules) s → Contains (run_table sys rules) (s, a) → Contains (denoted sys rules) (s, a)
  first_denoted s a reached c = run_denoted sys rules s a c

  -- and in a state that is reached, a pair of all is one of the first
  denoted_first : (s : Vector) (a : ℕ) → IsReached sys (run_table sys rules) s → Contains (denoted sys rules) (s, a) → Contains (run_table sys rules) (s, a)
  denoted_first s a reached c =
      let d = denoted-pair sys rules s a c in
      let w = list_any-witness (λ (rule : PlanRule). (rule.action == a) && matches rule.cube s) rules d.advised in
      let parts = and_parts (w.0.action == a) (matches w.0.cube s) w.2 in
      let first = counts_where rules s w.0 w.1 parts.1 in
      let same : first.0.action ≡ a = sym (agree s first.0 w.0 reached first.1 w.1 parts.1) ∙ eqb-true w.0.action a parts.0 in
      subst (λ b. Contains (run_table sys rules) (s, b)) same
      (rule_pair sys ok rules s first.0 d.vector first.1 (subst (λ b. Exec sys s b) (sym same) (can_execute-Exec sys s a d.executable)))

  pub agreeing_reached : (s : Vector) → IsReached sys (denoted sys rules) s → IsReached sys (run_table sys rules) s
  agreeing_reached s reached = also_reached sys (run_table sys rules) (denoted sys rules) first_denoted denoted_first s reached

  pub agreeing_solve : (class : Class) → SolvesAsRun class sys rules → IsSolution class sys (denoted sys rules)
  agreeing_solve class run = solution_to sys (run_table sys rules) (denoted sys rules) first_denoted denoted_first class run.solves

  pub agreeing_followed : (class : Class) → SolvesAsRun class sys rules → (s : Vector) (rule : PlanRule) → IsReached sys (denoted sys rules) s → Contains rules rule → matches rule.cube s ≡ true → Exec sys s rule.action
  agreeing_followed class run s rule reached has matched =
      let first = counts_where rules s rule has matched in
      let at = agreeing_reached s reached in
      subst (λ b. Exec sys s b) (sym (agree s first.0 rule at first.1 has matched)) (run.followed s first.0 at first.1)
