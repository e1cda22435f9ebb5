use Rattle.std.proofs.Common.{◌≡◌, rules, map, subst, sym}
use Rattle.rule_lookup.specs.RunRules.{run_rules}
use Rattle.plan_rules.specs.Plans.{IsPlainPlanOf}
use Rattle.plan_rules.specs.Rules.{plain_of}
use Rattle.task_core.specs.Tasks.{action_count, fluent_count}
use Rattle.controller_rules.specs.Checks.{run_value}
use Rattle.controller_rules.proofs.Marking.{part_within}
use Rattle.controller_rules.proofs.serving.serving_part.Goals as goal

pub returns-in_ok-part-in-Some-clause-in_task : goal.returns-in_ok-part-in-Some-clause-in_task
returns-in_ok-part-in-Some-clause-in_task c =
    let n = fluent_count c.args.task.now in
    let m = action_count c.args.task.now in
    let same : map run_value c.in-Some.run'.rules.items ≡ run_rules (plain_of c.args.plan.now) = search rules in
    subst (IsPlainPlanOf n m) (sym c.in_ok-part-in-Some.ensures) (part_within n m c.deref.result.now (plain_of c.args.plan.now) c.in-Some.run'.rules.items same c.requires)
