use Rattle.task_core.specs.States.{vector}
use Rattle.task_core.specs.Tasks.{fluent_count, system_of}
use Rattle.plan_rules.specs.Rules.{context_rule_of}
use Rattle.plan_witness.specs.Ends.{LosesOutcome}
use Rattle.plan_witness.proofs.Counting.{some_by}
use Rattle.counterexamples.proofs.endings.lost_number.Goals as goal

pub unwrap-requires : goal.unwrap-requires
unwrap-requires c =
    some_by c.lost_outcome.result (LosesOutcome (system_of c.args.task.now) (context_rule_of c.args.rule.now) (vector (fluent_count c.args.task.now) c.args.state.now)) c.requires.loses c.lost_outcome.ensures.none
