use Rattle.task_core.specs.Tasks.{system_of}
use Rattle.plan_witness.proofs.Counting.{outcome_exec, some_by}
use Rattle.plan_witness.proofs.steps.outcome_between.Goals as goal

pub outcome_to-requires-clause-executable : goal.outcome_to-requires-clause-executable
outcome_to-requires-clause-executable c = outcome_exec (system_of c.args.task.now) _ _ _ c.requires.some

pub unwrap-requires : goal.unwrap-requires
unwrap-requires c = some_by c.outcome_to.result _ c.requires.some c.outcome_to.ensures.none
