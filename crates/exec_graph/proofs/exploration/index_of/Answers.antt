use Rattle.std.proofs.Common.{◌<◌, ◌+◌, subst, sym, arith}
use Rattle.std.specs.List.{All}
use Rattle.task_core.specs.Tasks.{action_count, fluent_count}
use Rattle.plan_rules.specs.declared.rules.AutoRule.{AutoRule}
use Rattle.plan_rules.specs.declared.rules.Rule.{Rule}
use Rattle.plan_rules.specs.Plans.{IsContextRuleOf, IsPlanOf, IsRuleOf}
use Rattle.plan_rules.specs.Rules.{context_rule_of, rule_of}
use Rattle.exec_graph.proofs.exploration.index_of.Goals as goal
use Rattle.list_laws.proofs.Elements.{All-unmap}

pub by_context-requires : goal.by_context-requires
by_context-requires c =
    let n = fluent_count c.args.task.now in
    let m = action_count c.args.task.now in
    let contexts = c.in-Auto.automaton.contexts in
    let auto = subst (IsPlanOf n m) c.in-Auto.is c.requires in
    subst (All (λ (rule : AutoRule). rule.context < contexts + 1)) (sym c.deref-in-Auto.ensures.value)
    (λ k d l.
    let last = (All-unmap (IsContextRuleOf n m contexts) context_rule_of c.in-Auto.automaton.rules.items auto.each k d l).context.last in
    omega arith)

pub table_index-requires : goal.table_index-requires
table_index-requires c =
    let n = fluent_count c.args.task.now in
    let m = action_count c.args.task.now in
    record {
      in_task = subst (All (λ (rule : Rule). IsRuleOf n m (rule_of rule))) (sym c.deref.ensures.value)
          (All-unmap (IsRuleOf n m) rule_of c.in-Table.table.rules.items (subst (IsPlanOf n m) c.in-Table.is c.requires));
    }
