use Rattle.std.proofs.Common.{rules, ◌≡◌, List, Bor, length, subst, sym, ◌∙◌}
use Rattle.std.specs.List.{All}
use Rattle.std.specs.List.Sorted.{IsStableByKey}
use Rattle.std.specs.Ordering.{nat_cmp}
use Rattle.std.proofs.lemmas.List.Elements.{All-map}
use Rattle.std.proofs.lemmas.List.Sorted.{All-permutation, IsNonDecreasingBy-from_sort_by_key, answers_always, length_permutation}
use Rattle.task_core.specs.declared.literals.Lit.{Lit}
use Rattle.cube_index.specs.Index.{AreLits}
use Rattle.rule_lookup.specs.declared.rules.GuideRule.{GuideRule}
use Rattle.rule_lookup.proofs.ByContext.{sorted_denotes}
use Rattle.rule_lookup.proofs.InTask.{lits_mapped, ready_lits}
use Rattle.rule_lookup.specs.Guides.{IsReady}
use Rattle.task_core.specs.Tasks.{action_count, fluent_count}
use Rattle.rule_lookup.proofs.guides.Guide.of_rules.Goals as goal
use Rattle.list_laws.proofs.Elements.{All-unmap}

pub new-requires : goal.new-requires
new-requires c =
    let seen = λ (cube : Bor (List Lit)). cube.now in
    let fits = λ (rule : GuideRule). AreLits rule.cube.now in
    let n = fluent_count c.args.task.now in
    let m = action_count c.args.task.now in
    let all : All fits c.sort_by_key.new.self.items = All-permutation fits _ _ c.in_ok-sort_by_key.ensures.permutation (ready_lits n m c.args.rules.items c.args.task.now.few_fluents c.requires) in
    subst (All (λ (cube : Bor (List Lit)). AreLits cube.now)) (sym c.deref-2.ensures.value)
    (All-unmap AreLits seen c.in_ok-cubes.cubes.items
    (lits_mapped (λ (rule : GuideRule). rule.cube.now) c.deref.result.now _ c.in_ok-cubes.ensures (subst (All fits) (sym c.deref.ensures.value) all)))

pub returns-clause-same : goal.returns-clause-same
returns-clause-same c =
    sorted_denotes c.args.rules.items c.sort_by_key.new.self.items
    (length_permutation c.args.rules.items c.sort_by_key.new.self.items c.in_ok-sort_by_key.ensures.permutation)
    (c.in_ok-sort_by_key.ensures.stable (λ (rule : GuideRule). rule.context) (answers_always _ _ _ (λ f a r g h. search rules)))

pub returns-clause-guide : goal.returns-clause-guide
returns-clause-guide c =
    let ready = IsReady (fluent_count c.args.task.now) (action_count c.args.task.now) in
    record {
      each = All-permutation ready _ _ c.in_ok-sort_by_key.ensures.permutation c.requires;
      rising = IsNonDecreasingBy-from_sort_by_key (λ (rule : GuideRule). rule.context) _ c.in_ok-sort_by_key.ensures.sorted (λ a r q k. search rules);
      index = search rules;
    }
