use Rattle.std.proofs.Common.{rules, Bor, List, get_or, subst, sym}
use Rattle.std.specs.List.{All}
use Rattle.list_laws.proofs.Elements.{All-unmap}
use Rattle.task_core.specs.Tasks.{action_count, fluent_count}
use Rattle.task_core.specs.declared.literals.Lit.{Lit}
use Rattle.cube_index.specs.Index.{AreLits}
use Rattle.rule_lookup.specs.RunRules.{IsRunRuleOf}
use Rattle.rule_lookup.proofs.InTask.{lits_mapped, lits_of_cube}
use Rattle.trace.specs.Indexed.{run_rule_value}
use Rattle.trace.specs.declared.rules.RunRule.{RunRule}
use Rattle.trace.proofs.Chosen.{rules_in_task}
use Rattle.trace.proofs.rules.IndexedRules.new.Goals as goal

pub new-requires : goal.new-requires
new-requires c =
    let n = fluent_count c.args.task.now in
    let m = action_count c.args.task.now in
    let listed = c.in_ok-rules.rules.items in
    let each = rules_in_task n m c.args.plan.now listed c.in_ok-rules.ensures c.requires in
    let all : All (λ (rule : RunRule). AreLits rule.cube.now) listed =
    λ k d lt. lits_of_cube n (get_or listed k d).cube.now c.args.task.now.few_fluents (All-unmap (IsRunRuleOf n m) run_rule_value listed each k d lt).cube in
    subst (All (λ (cube : Bor (List Lit)). AreLits cube.now)) (sym c.deref-2.ensures.value)
    (All-unmap AreLits (λ (cube : Bor (List Lit)). cube.now) c.in_ok-cubes.cubes.items
    (lits_mapped (λ (rule : RunRule). rule.cube.now) c.deref.result.now _ c.in_ok-cubes.ensures (subst (All (λ (rule : RunRule). AreLits rule.cube.now)) (sym c.deref.ensures.value) all)))

pub returns-clause-indexed : goal.returns-clause-indexed
returns-clause-indexed c = record {
  each = rules_in_task (fluent_count c.args.task.now) (action_count c.args.task.now) c.args.plan.now c.in_ok-rules.rules.items c.in_ok-rules.ensures c.requires;
  index = search rules;
}
