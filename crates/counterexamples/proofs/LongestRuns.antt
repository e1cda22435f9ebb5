-- A longest run of a strong plan, and its bound.
use Rattle.std.proofs.Common.{◌≡◌, ◌≤◌, ℕ, List, ◌++◌, Some, length, map, refl, sym, subst, arith, ⊎_elim}
use Rattle.std.specs.Prelude.{slice_get}
use Rattle.std.proofs.lemmas.List.{length-append, length-map}
use Rattle.std.proofs.lemmas.Option.{same_Some}
use Rattle.task_core.specs.ContextPlans.{Configuration}
use Rattle.task_core.specs.Paths.{IsPath}
use Rattle.task_core.specs.Systems.{IsSystem, System}
use Rattle.task_core.specs.Tables.{Leads}
use Rattle.task_core.specs.Tasks.{initial_states, system_of}
use Rattle.task_core.specs.Vectors.{Vector}
use Rattle.task_core.specs.declared.classes.Class.{Class}
use Rattle.task_core.specs.declared.classes.Class.TheVariants.{Strong}
use Rattle.task_core.specs.declared.tasks.Task.{Task}
use Rattle.task_core.proofs.Paths.{path_append}
use Rattle.task_core.proofs.TaskSystem.{is_system}
use Rattle.plan_check.specs.Verdicts.{IsYes}
use Rattle.plan_check.specs.declared.verdicts.Reason.TheVariants.{Terminal}
use Rattle.plan_check.specs.declared.verdicts.Verdict.TheVariants.{Yes}
use Rattle.plan_rules.specs.Denoted.{denoted}
use Rattle.plan_rules.specs.Rules.{PlainPlan, PlanRule, automaton, table}
use Rattle.exec_graph.specs.Executions.{IsReachedBy}
use Rattle.exec_graph.specs.Orders.{in_first}
use Rattle.plan_witness.specs.Longest.{HasPathsWithin, IsLongestRun}
use Rattle.plan_witness.specs.Runs.{PlainRun, end_of}
use Rattle.counterexamples.specs.Findings.{in_goal}
use Rattle.counterexamples.specs.Longest.{IsClassVerdict, IsLongestFound}
use Rattle.counterexamples.proofs.Failures.{lift, lower, terminal_at}

abbrev states : List Configuration → List Vector
states = map (λ (y : Configuration). y.state)

module _ (sys : System) (ok : IsSystem sys) (written : Class) (rules : List PlanRule) (bound : ℕ) (is : IsYes sys rules Strong (Some bound)) where
  abbrev plan : PlainPlan
  plan = table written rules

  is_bound : bound ≡ is.bounded.0
  is_bound = same_Some bound is.bounded.0 is.bounded.1

  -- a path from where the plan may come is the end of one from an initial state
  paths_within : HasPathsWithin sys plan bound
  paths_within x rest reached path =
      let leads = Leads sys (denoted sys rules) in
      let r = reached.0 in
      let on = subst (λ (s : Vector). IsPath leads s (states rest)) (sym r.path.ends) (lower sys ok written rules x rest path) in
      let most = is.bounded.2.most (length (r.path.rest ++ states rest))
      (record { start = r.start; initial = r.initial; rest = r.path.rest ++ states rest; path = path_append leads r.start r.path.rest (states rest) r.path.path on; long = refl }) in
      let whole = length-append r.path.rest (states rest) in
      let same = length-map rest (λ (y : Configuration). y.state) in
      let limit = is_bound in
      omega (arith, most, whole, same, limit)

  -- a longest run is as long as the bound says
  as_long : (run : PlainRun) → IsLongestRun sys plan run → bound ≤ length run.steps
  as_long run longest = ⊎_elim
      (λ has.
      let most = longest.longest (in_first has.start) (map in_first has.rest) (record { state = has.initial; context = refl }) (lift sys ok written rules (in_first has.start) has.rest has.path) in
      let same = length-map has.rest in_first in
      let long = has.long in
      let limit = is_bound in
      omega (arith, most, same, long, limit))
      (λ none. let zero = none.0 in let limit = is_bound in omega (arith, zero, limit))
      is.bounded.2.attained

pub within_bound : (task : Task) (plan : PlainPlan) (bound : ℕ) → IsClassVerdict Strong (system_of task) plan (Yes (Some bound)) → HasPathsWithin (system_of task) plan bound
within_bound task (table written rules) bound is = paths_within (system_of task) (is_system task) written rules bound is
within_bound task (automaton contexts rules) bound is = absurd is

pub longest_found : (task : Task) (plan : PlainPlan) (bound number stem : ℕ) (run : PlainRun) → IsClassVerdict Strong (system_of task) plan (Yes (Some bound)) → slice_get (initial_states task) number ≡ Some run.start.state
    → IsLongestRun (system_of task) plan run → length run.steps ≤ bound → IsReachedBy (system_of task) plan (end_of run.start run.steps) → stem ≡ length run.steps
    → IsLongestFound task plan bound (record { number = number; run = run; stem = stem; ending = in_goal })
longest_found task (table written rules) bound number stem run is numbered longest most reached whole =
    let sys = system_of task in
    let end = end_of run.start run.steps in
    record {
      numbered = numbered;
      longest = longest;
      long = let least = as_long sys (is_system task) written rules bound is run longest in omega (arith, least, most);
      whole = whole;
      inside = record { end = longest.end; inside = is.free Terminal end.state reached.0 (terminal_at sys (is_system task) written rules end longest.end) };
      ending = refl;
    }
longest_found task (automaton contexts rules) bound number stem run is numbered longest most reached whole = absurd is
