use Rattle.std.proofs.Common.{List, map, sym, subst}
use Rattle.std.specs.List.{All}
use Rattle.task_core.specs.ContextPlans.{Configuration}
use Rattle.task_core.specs.States.{vector}
use Rattle.task_core.specs.Tasks.{action_count, fluent_count, system_of}
use Rattle.exec_graph.specs.Executions.{IsStuckAt}
use Rattle.rule_lookup.specs.RunRules.{IsRunRuleOf}
use Rattle.plan_rules.specs.Rules.{automaton, context_rule_of, plain_of}
use Rattle.plan_rules.specs.declared.rules.AutoRule.{AutoRule}
use Rattle.plan_witness.proofs.Counting.{auto_rules}
use Rattle.counterexamples.specs.Findings.{IsEndingAt}
use Rattle.counterexamples.specs.Values.{ending_value}
use Rattle.counterexamples.proofs.endings.unfinished.Goals as goal

pub unfinished_by-requires-clause-rules : goal.unfinished_by-requires-clause-rules
unfinished_by-requires-clause-rules c =
    subst (All (λ (rule : AutoRule). IsRunRuleOf (fluent_count c.args.task.now) (action_count c.args.task.now) (context_rule_of rule))) (sym c.deref.ensures.value)
    (auto_rules _ _ c.args.plan.now c.in-Auto.auto c.in-Auto.is c.requires.plan)

pub unfinished_by-requires-clause-aim : goal.unfinished_by-requires-clause-aim
unfinished_by-requires-clause-aim c =
    let sys = system_of c.args.task.now in
    let x : Configuration = record { state = vector (fluent_count c.args.task.now) c.args.state.now; context = c.args.context } in
    subst (λ (rules : List AutoRule). IsStuckAt sys (automaton 0 (map context_rule_of rules)) x) (sym c.deref.ensures.value)
    (subst (λ p. IsStuckAt sys (plain_of p) x) c.in-Auto.is c.requires.aim)

pub returns-in-Auto : goal.returns-in-Auto
returns-in-Auto c =
    let x : Configuration = record { state = vector (fluent_count c.args.task.now) c.args.state.now; context = c.args.context } in
    subst (λ p. IsEndingAt c.args.task.now (plain_of p) x (ending_value c.unfinished_by.result)) (sym c.in-Auto.is)
    (subst (λ (rules : List AutoRule). IsEndingAt c.args.task.now (automaton c.in-Auto.auto.contexts (map context_rule_of rules)) x (ending_value c.unfinished_by.result)) c.deref.ensures.value
    (c.unfinished_by.ensures c.in-Auto.auto.contexts))
