use Rattle.std.proofs.Common.{◌≡◌, ◌==◌, ap, sym, ◌∙◌, map, subst}
use Rattle.std.specs.List.{All}
use Rattle.task_core.specs.Tasks.{action_count, fluent_count, system_of}
use Rattle.plan_rules.specs.declared.rules.AutoRule.{AutoRule}
use Rattle.plan_rules.specs.declared.rules.Rule.{Rule}
use Rattle.plan_rules.specs.Plans.{IsPlanOf, IsRuleOf}
use Rattle.plan_rules.specs.Rules.{context_rule_of, plain_of, rule_of}
use Rattle.plan_rules.specs.Denoted.{rule_at}
use Rattle.std.specs.Option.{option_map}
use Rattle.std.specs.Prelude.{OnOk}
use Rattle.task_core.specs.States.{vector}
use Rattle.exec_graph.specs.Moves.{configuration_of, moves_value}
use Rattle.cube_index.specs.Index.{IsIndexOf}
use Rattle.exec_graph.specs.ByContext.{IsRuleIndexOf, cubes_of}
use Rattle.exec_graph.specs.Counting.{IsRuleWithin, first_matching, moves_by, moves_from}
use Rattle.plan_rules.specs.Advices.{advice_value, advised_by}
use Rattle.exec_graph.proofs.RuleLists.{first_kept, kept_within}
use Rattle.exec_graph.proofs.moves.Moves.add_all.Goals as goal
use Rattle.list_laws.proofs.Elements.{All-unmap}

pub add_table-requires-clause-in_task : goal.add_table-requires-clause-in_task
add_table-requires-clause-in_task c =
    let n = fluent_count c.args.indexed.now.task.now in
    let m = action_count c.args.indexed.now.task.now in
    subst (All (λ (rule : Rule). IsRuleOf n m (rule_of rule))) (sym c.deref.ensures.value)
    (All-unmap (IsRuleOf n m) rule_of c.in-Table.table.rules.items (subst (IsPlanOf n m) c.in-Table.is c.requires.plan_of_task))

pub add_table-requires-clause-index : goal.add_table-requires-clause-index
add_table-requires-clause-index c =
    subst (λ rules. IsIndexOf c.args.indexed.now.index.cubes (cubes_of rules)) (sym c.deref.ensures.value)
    (subst (λ p. IsRuleIndexOf p c.args.indexed.now.index) c.in-Table.is c.requires.index)

pub rule_at-rule-requires : goal.rule_at-rule-requires
rule_at-rule-requires c =
    let n = fluent_count c.args.indexed.now.task.now in
    let m = action_count c.args.indexed.now.task.now in
    let k = c.args.place.now.context in
    let automaton = c.in-Auto.field-0 in
    let plan = subst (IsPlanOf n m) c.in-Auto.is c.requires.plan_of_task in
    let index = subst (λ p. IsRuleIndexOf p c.args.indexed.now.index) c.in-Auto.is c.requires.index in
    record {
      in_task = subst (All (λ (rule : AutoRule). IsRuleWithin n m (context_rule_of rule))) (sym (index k))
          (kept_within n m automaton.contexts (λ (rule : AutoRule). rule.context == k) automaton.rules.items plan.each);
    }

pub returns-in-Auto-clause-value : goal.returns-in-Auto-clause-value
returns-in-Auto-clause-value c =
    let n = fluent_count c.args.indexed.now.task.now in
    let sys = system_of c.args.indexed.now.task.now in
    let v = vector n c.args.place.now.state in
    let k = c.args.place.now.context in
    let automaton = c.in-Auto.field-0 in
    let index = subst (λ p. IsRuleIndexOf p c.args.indexed.now.index) c.in-Auto.is c.requires.index in
    let counts : option_map advice_value c.rule_at-rule.result ≡ option_map advised_by (rule_at (map context_rule_of automaton.rules.items) v k) =
    c.rule_at-rule.ensures.counts
    ∙ ap (λ rs. option_map advised_by (first_matching v (map context_rule_of rs))) (index k)
    ∙ ap (option_map advised_by) (first_kept v k automaton.rules.items) in
    let here = subst (λ o. OnOk c.add_advised.result (moves_value n c.add_advised.new.self ≡ moves_by sys v o)) counts c.add_advised.ensures.value in
    subst (λ p. OnOk c.add_advised.result (moves_value n c.add_advised.new.self ≡ moves_from sys (plain_of p) (configuration_of n c.args.place.now))) (sym c.in-Auto.is) here
