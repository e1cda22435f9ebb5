use Rattle.std.proofs.Common.{◌≡◌, ◌↔◌, List, map, false, true, sym, subst}
use Rattle.std.specs.List.{All}
use Rattle.std.proofs.lemmas.Bool.{false≢true}
use Rattle.task_core.specs.ContextPlans.{Configuration}
use Rattle.task_core.specs.States.{vector}
use Rattle.task_core.specs.Tasks.{action_count, fluent_count, system_of}
use Rattle.rule_lookup.specs.RunRules.{IsRunRuleOf}
use Rattle.plan_rules.specs.Rules.{automaton, context_rule_of, plain_of}
use Rattle.plan_rules.specs.declared.rules.AutoRule.{AutoRule}
use Rattle.exec_graph.specs.Executions.{IsStuckAt}
use Rattle.plan_witness.proofs.Counting.{auto_rules}
use Rattle.plan_witness.proofs.stuck.is_stuck_at.Goals as goal

pub returns-in-Table : goal.returns-in-Table
returns-in-Table c =
    let x : Configuration = record { state = vector (fluent_count c.args.task.now) c.args.state.now; context = c.args.context } in
    subst (λ p. (false ≡ true) ↔ IsStuckAt (system_of c.args.task.now) (plain_of p) x) (sym c.in-Table.is) ((λ e. absurd (false≢true e)), (λ s. absurd s))

pub is_without_next-requires-clause-rules : goal.is_without_next-requires-clause-rules
is_without_next-requires-clause-rules c =
    subst (All (λ (rule : AutoRule). IsRunRuleOf (fluent_count c.args.task.now) (action_count c.args.task.now) (context_rule_of rule))) (sym c.deref.ensures.value)
    (auto_rules _ _ c.args.plan.now c.in-Auto.auto c.in-Auto.is c.requires.plan)

pub returns-in-Auto : goal.returns-in-Auto
returns-in-Auto c =
    let sys = system_of c.args.task.now in
    let x : Configuration = record { state = vector (fluent_count c.args.task.now) c.args.state.now; context = c.args.context } in
    subst (λ p. (c.is_without_next.result ≡ true) ↔ IsStuckAt sys (plain_of p) x) (sym c.in-Auto.is)
    (subst (λ (rules : List AutoRule). (c.is_without_next.result ≡ true) ↔ IsStuckAt sys (automaton 0 (map context_rule_of rules)) x) c.deref.ensures.value c.is_without_next.ensures)
