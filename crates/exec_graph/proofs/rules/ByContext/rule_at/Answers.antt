use Rattle.std.proofs.Common.{◌≡◌, ◌<◌, ◌≤◌, [], map, length, sym, ap, ◌∙◌, subst, get_or}
use Rattle.std.specs.List.{All}
use Rattle.std.specs.Option.{option_map, option_map_or}
use Rattle.std.proofs.lemmas.Option.{slice_get-get_or, slice_get_past}
use Rattle.task_core.specs.States.{vector}
use Rattle.task_core.specs.Tasks.{action_count, fluent_count}
use Rattle.plan_rules.specs.Rules.{context_rule_of}
use Rattle.plan_rules.specs.declared.rules.AutoRule.{AutoRule}
use Rattle.exec_graph.specs.ByContext.{rules_in}
use Rattle.exec_graph.specs.Counting.{IsRuleWithin, first_matching}
use Rattle.plan_rules.specs.Advices.{advised_by}
use Rattle.exec_graph.proofs.rules.ByContext.rule_at.Goals as goal
use Rattle.list_laws.proofs.Elements.{All-unmap}

pub first_match-requires : goal.first_match-requires
first_match-requires c =
    let n = fluent_count c.args.task.now in
    let m = action_count c.args.task.now in
    let k = c.args.context in
    let lists = c.args.self.now.lists.items in
    let found = c.in-Some.rules.now in
    let below = subst (λ ls. k < length ls) c.deref.ensures.value c.in-Some.ensures.lookup.3.0 in
    let is = subst (λ ls. found ≡ get_or ls k found) c.deref.ensures.value c.in-Some.ensures.lookup.1 in
    let there : rules_in c.args.self.now k ≡ map (λ rule. rule.now) found.items =
    ap (λ o. option_map_or (λ rules. map (λ rule. rule.now) rules.items) o []) (slice_get-get_or lists k found below)
    ∙ ap (λ v. map (λ rule. rule.now) v.items) (sym is) in
    let each = subst (All (λ (rule : AutoRule). IsRuleWithin n m (context_rule_of rule))) there c.requires.in_task in
    record {
      in_task = subst (All (λ rule. IsRuleWithin n m (context_rule_of rule.now))) (sym c.deref-in-Some.ensures.value)
          (All-unmap (λ (rule : AutoRule). IsRuleWithin n m (context_rule_of rule)) (λ rule. rule.now) found.items each);
    }

pub returns-in-Some-clause-counts : goal.returns-in-Some-clause-counts
returns-in-Some-clause-counts c =
    let v = vector (fluent_count c.args.task.now) c.args.state.now in
    let k = c.args.context in
    let lists = c.args.self.now.lists.items in
    let found = c.in-Some.rules.now in
    let below = subst (λ ls. k < length ls) c.deref.ensures.value c.in-Some.ensures.lookup.3.0 in
    let is = subst (λ ls. found ≡ get_or ls k found) c.deref.ensures.value c.in-Some.ensures.lookup.1 in
    let there : rules_in c.args.self.now k ≡ map (λ rule. rule.now) found.items =
    ap (λ o. option_map_or (λ rules. map (λ rule. rule.now) rules.items) o []) (slice_get-get_or lists k found below)
    ∙ ap (λ v. map (λ rule. rule.now) v.items) (sym is) in
    c.first_match.ensures.counts
    ∙ ap (λ rs. option_map advised_by (first_matching v (map context_rule_of (map (λ rule. rule.now) rs)))) c.deref-in-Some.ensures.value
    ∙ ap (λ rs. option_map advised_by (first_matching v (map context_rule_of rs))) (sym there)

pub returns-in-None-clause-counts : goal.returns-in-None-clause-counts
returns-in-None-clause-counts c =
    let v = vector (fluent_count c.args.task.now) c.args.state.now in
    let k = c.args.context in
    let lists = c.args.self.now.lists.items in
    let past = subst (λ ls. length ls ≤ k) c.deref.ensures.value c.in-None.ensures.lookup.3 in
    let none : rules_in c.args.self.now k ≡ [] =
    ap (λ o. option_map_or (λ rules. map (λ rule. rule.now) rules.items) o []) (slice_get_past lists k past) in
    ap (λ rs. option_map advised_by (first_matching v (map context_rule_of rs))) (sym none)
