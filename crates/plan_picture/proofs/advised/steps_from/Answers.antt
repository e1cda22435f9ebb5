use Rattle.std.proofs.Common.{sym, subst}
use Rattle.std.specs.List.{All}
use Rattle.task_core.specs.Tasks.{action_count, fluent_count}
use Rattle.plan_rules.specs.Named.{NamesNext, NamesRule}
use Rattle.plan_rules.specs.Plans.{IsContextRuleOf, IsNextOf, IsPlanOf, IsRuleOf}
use Rattle.plan_rules.specs.Rules.{PlanNext, always, by_cases, context_rule_of, rule_of}
use Rattle.plan_rules.specs.declared.rules.AutoRule.{AutoRule}
use Rattle.plan_rules.specs.declared.rules.Rule.{Rule}
use Rattle.std.proofs.Common.{ℕ}
use Rattle.plan_picture.proofs.advised.steps_from.Goals as goal
use Rattle.list_laws.proofs.Elements.{All-unmap}

names_next : (n contexts : ℕ) (next : PlanNext) → IsNextOf n contexts next → NamesNext n next
names_next n contexts (always context) h = tt
names_next n contexts (by_cases cases) h = λ i d l. (h i d l).cube

pub table_steps-requires-clause-in_task : goal.table_steps-requires-clause-in_task
table_steps-requires-clause-in_task c =
    let n = fluent_count c.args.task.now in
    let m = action_count c.args.task.now in
    subst (All (λ (rule : Rule). IsRuleOf n m (rule_of rule))) (sym c.deref.ensures.value)
    (All-unmap (IsRuleOf n m) rule_of c.in-Table.table.rules.items (subst (IsPlanOf n m) c.in-Table.is c.requires.plan_of_task))

pub advice_at-advice-requires : goal.advice_at-advice-requires
advice_at-advice-requires c =
    let n = fluent_count c.args.task.now in
    let m = action_count c.args.task.now in
    let automaton = c.in-Auto.automaton in
    let plan = subst (IsPlanOf n m) c.in-Auto.is c.requires.plan_of_task in
    let each = All-unmap (IsContextRuleOf n m automaton.contexts) context_rule_of automaton.rules.items plan.each in
    record {
      in_task = subst (All (λ (rule : AutoRule). NamesRule n m (context_rule_of rule))) (sym c.deref-in-Auto.ensures.value)
          (λ i d l. let h = each i d l in record { cube = h.cube; action = h.action; next = names_next n automaton.contexts _ h.next });
    }
