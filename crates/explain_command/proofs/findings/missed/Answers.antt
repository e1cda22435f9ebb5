use Rattle.counterexamples.specs.Values.{finding_value}
use Rattle.plan_rules.specs.Rules.{plain_of}
use Rattle.task_core.specs.Tasks.{fluent_count}
use Rattle.explain_command.proofs.Finding.{missing_of}
use Rattle.explain_command.proofs.findings.missed.Goals as goal

pub returns : goal.returns
returns c =
    let followed = c.args.followed.now in
    let n = fluent_count followed.grounded.now.task in
    missing_of n c.args.fair followed.grounded.now.task followed.grounded.now.ctl c.goal_in.result.now (plain_of followed.plan.now) c.in_ok-run.run' (finding_value n c.with_run.result)
    (c.with_run.ensures n) c.goal_in.ensures c.in_ok-run.ensures.found c.in_ok-run.ensures.none
