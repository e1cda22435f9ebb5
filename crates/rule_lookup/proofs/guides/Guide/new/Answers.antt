use Rattle.task_core.specs.Tasks.{action_count, fluent_count}
use Rattle.plan_rules.specs.Rules.{plain_of}
use Rattle.rule_lookup.specs.RunRules.{run_rules}
use Rattle.rule_lookup.proofs.InTask.{all_ready, run_rules_in_task}
use Rattle.rule_lookup.proofs.guides.Guide.new.Goals as goal

pub of_rules-requires : goal.of_rules-requires
of_rules-requires c =
    let n = fluent_count c.args.task.now in
    let m = action_count c.args.task.now in
    let plan = plain_of c.args.plan.now in
    all_ready n m c.in_ok-rules.rules.items (run_rules plan) c.in_ok-rules.ensures.values (run_rules_in_task n m plan c.requires.plan_of_task) c.in_ok-rules.ensures.indexed
