use Rattle.std.proofs.Common.{rules, ◌≡◌, ◌∙◌, Bor, List, map, ap, subst, sym}
use Rattle.std.specs.List.{All}
use Rattle.cube_index.specs.Index.{AreLits, IsIndexOf}
use Rattle.rule_lookup.proofs.InTask.{lits_mapped, run_rules_in_task}
use Rattle.list_laws.proofs.Elements.{All-unmap}
use Rattle.rule_lookup.specs.RunRules.{run_rules}
use Rattle.plan_rules.specs.Rules.{plain_of}
use Rattle.task_core.specs.Tasks.{action_count, fluent_count}
use Rattle.task_core.specs.declared.literals.Lit.{Lit}
use Rattle.controller_rules.specs.Checks.{run_cube, run_value}
use Rattle.controller_rules.specs.declared.run_rules.RunRule.{RunRule}
use Rattle.controller_rules.proofs.RunCubes.{cubes_within, lits_within}
use Rattle.controller_rules.proofs.run_rules.RunRules.of_plan.Goals as goal

pub new-requires : goal.new-requires
new-requires c =
    let n = fluent_count c.args.task.now in
    let m = action_count c.args.task.now in
    let seen = λ (cube : Bor (List Lit)). cube.now in
    let same : map run_value c.in-Some.rules.items ≡ run_rules (plain_of c.args.plan.now) = search rules in
    let lits = lits_within n c.in-Some.rules.items c.args.task.now.few_fluents
    (cubes_within n m c.in-Some.rules.items (run_rules (plain_of c.args.plan.now)) same (run_rules_in_task n m (plain_of c.args.plan.now) c.requires)) in
    subst (All (λ (cube : Bor (List Lit)). AreLits cube.now)) (sym c.deref-in-Some.ensures.value)
    (All-unmap AreLits seen c.in_ok-cubes-in-Some.cubes.items
    (lits_mapped run_cube c.deref.result.now _ c.in_ok-cubes-in-Some.ensures
    (subst (All (λ (rule : RunRule). AreLits (run_cube rule))) (sym c.deref.ensures.value) lits)))

pub returns-in_ok-index-in-Some-clause-indexed : goal.returns-in_ok-index-in-Some-clause-indexed
returns-in_ok-index-in-Some-clause-indexed c =
    let n = fluent_count c.args.task.now in
    let m = action_count c.args.task.now in
    let seen = λ (cube : Bor (List Lit)). cube.now in
    let same : map run_value c.in-Some.rules.items ≡ run_rules (plain_of c.args.plan.now) = search rules in
    record {
      cubes = cubes_within n m c.in-Some.rules.items (run_rules (plain_of c.args.plan.now)) same (run_rules_in_task n m (plain_of c.args.plan.now) c.requires);
      index = subst (IsIndexOf c.in_ok-index-in-Some.index)
          (ap (map seen) c.deref-in-Some.ensures.value ∙ c.in_ok-cubes-in-Some.ensures ∙ ap (map run_cube) c.deref.ensures.value) c.in_ok-index-in-Some.ensures;
    }
