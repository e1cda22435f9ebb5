use Rattle.std.proofs.Common.{ℕ, List, map, sym, subst}
use Rattle.std.specs.List.{All}
use Rattle.task_core.specs.ContextPlans.{Configuration, Follows, first_context}
use Rattle.task_core.specs.States.{vector}
use Rattle.task_core.specs.Tables.{Leads}
use Rattle.task_core.specs.Tasks.{action_count, fluent_count, system_of}
use Rattle.rule_lookup.specs.RunRules.{IsRunRuleOf}
use Rattle.plan_rules.specs.Denoted.{denoted, denoted_contexts}
use Rattle.plan_rules.specs.Plans.{IsRuleOf}
use Rattle.plan_rules.specs.Rules.{context_rule_of, plain_of, rule_of}
use Rattle.plan_rules.specs.declared.rules.AutoRule.{AutoRule}
use Rattle.plan_rules.specs.declared.rules.Rule.{Rule}
use Rattle.exec_graph.specs.Executions.{GoesTo}
use Rattle.plan_witness.specs.Runs.{IsContextStep, IsStepOf, IsTableStep, PlainStep}
use Rattle.plan_witness.proofs.Counting.{auto_rules, table_rules}
use Rattle.plan_witness.proofs.steps.taken_between.Goals as goal

pub in_table-requires-clause-rules : goal.in_table-requires-clause-rules
in_table-requires-clause-rules c =
    subst (All (λ (rule : Rule). IsRuleOf (fluent_count c.args.task.now) (action_count c.args.task.now) (rule_of rule))) (sym c.deref.ensures.value)
    (table_rules _ _ c.args.plan.now c.in-Table.table c.in-Table.is c.requires.plan)

pub in_table-requires-clause-follows : goal.in_table-requires-clause-follows
in_table-requires-clause-follows c =
    let n = fluent_count c.args.task.now in
    let sys = system_of c.args.task.now in
    subst (λ (rules : List Rule). Leads sys (denoted sys (map rule_of rules)) (vector n c.args.from.now.state.now) (vector n c.args.to.now.state.now)) (sym c.deref.ensures.value)
    (subst (λ p. GoesTo sys (plain_of p) (record { state = vector n c.args.from.now.state.now; context = c.args.from.now.context }) (record { state = vector n c.args.to.now.state.now; context = c.args.to.now.context })) c.in-Table.is c.requires.follows).0

pub returns-in-Table : goal.returns-in-Table
returns-in-Table c =
    let n = fluent_count c.args.task.now in
    let sys = system_of c.args.task.now in
    let x : Configuration = record { state = vector n c.args.from.now.state.now; context = c.args.from.now.context } in
    let to : ℕ → Configuration = λ k. record { state = vector n c.args.to.now.state.now; context = k } in
    let step : ℕ → PlainStep = λ k. record { rule = c.in_table.result.rule; action = c.in_table.result.action.0; outcome = c.in_table.result.outcome; after = to k } in
    let goes = subst (λ p. GoesTo sys (plain_of p) x (to c.args.to.now.context)) c.in-Table.is c.requires.follows in
    let here = subst (λ (rules : List Rule). IsTableStep sys (map rule_of rules) x (step first_context)) c.deref.ensures.value (c.in_table.ensures c.args.from.now.context) in
    record {
      step =
          subst (λ p. IsStepOf sys (plain_of p) x (step c.args.to.now.context)) (sym c.in-Table.is)
          (subst (λ k. IsTableStep sys (map rule_of c.in-Table.table.rules.items) x (step k)) (sym goes.1) here);
    }

pub context_step-requires-clause-rules : goal.context_step-requires-clause-rules
context_step-requires-clause-rules c =
    subst (All (λ (rule : AutoRule). IsRunRuleOf (fluent_count c.args.task.now) (action_count c.args.task.now) (context_rule_of rule))) (sym c.deref-in-Auto.ensures.value)
    (auto_rules _ _ c.args.plan.now c.in-Auto.auto c.in-Auto.is c.requires.plan)

pub context_step-requires-clause-follows : goal.context_step-requires-clause-follows
context_step-requires-clause-follows c =
    let n = fluent_count c.args.task.now in
    let sys = system_of c.args.task.now in
    subst (λ (rules : List AutoRule). Follows sys (denoted_contexts (map context_rule_of rules)) (record { state = vector n c.args.from.now.state.now; context = c.args.from.now.context }) (record { state = vector n c.args.to.now.state.now; context = c.args.to.now.context })) (sym c.deref-in-Auto.ensures.value)
    (subst (λ p. GoesTo sys (plain_of p) (record { state = vector n c.args.from.now.state.now; context = c.args.from.now.context }) (record { state = vector n c.args.to.now.state.now; context = c.args.to.now.context })) c.in-Auto.is c.requires.follows)

pub returns-in-Auto : goal.returns-in-Auto
returns-in-Auto c =
    let n = fluent_count c.args.task.now in
    let sys = system_of c.args.task.now in
    let x : Configuration = record { state = vector n c.args.from.now.state.now; context = c.args.from.now.context } in
    let step : PlainStep = record { rule = c.context_step.result.rule; action = c.context_step.result.action.0; outcome = c.context_step.result.outcome; after = record { state = vector n c.args.to.now.state.now; context = c.args.to.now.context } } in
    record {
      step =
          subst (λ p. IsStepOf sys (plain_of p) x step) (sym c.in-Auto.is)
          (subst (λ (rules : List AutoRule). IsContextStep sys (map context_rule_of rules) x step) c.deref-in-Auto.ensures.value c.context_step.ensures);
    }
