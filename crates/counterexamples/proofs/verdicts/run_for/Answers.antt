use Rattle.task_core.specs.Tasks.{fluent_count}
use Rattle.plan_rules.specs.Rules.{plain_of}
use Rattle.counterexamples.proofs.Told.{finding_ok}
use Rattle.counterexamples.proofs.verdicts.run_for.Goals as goal

pub returns-clause-run : goal.returns-clause-run
returns-clause-run c =
    let task = c.args.scene.now.task.now in
    finding_ok c.find.result (fluent_count task) c.args.aim task (plain_of c.args.scene.now.plan.now) c.find.ensures.found c.find.ensures.none
