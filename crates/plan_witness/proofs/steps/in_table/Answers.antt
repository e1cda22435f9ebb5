use Rattle.std.proofs.Common.{map, subst}
use Rattle.std.specs.Prelude.{IfSome, Option}
use Rattle.task_core.specs.ContextPlans.{first_context}
use Rattle.task_core.specs.States.{vector}
use Rattle.task_core.specs.Tasks.{fluent_count, system_of}
use Rattle.plan_rules.specs.Rules.{rule_of}
use Rattle.plan_witness.specs.Runs.{IsTableStep}
use Rattle.plan_witness.specs.declared.steps.Taken.{Taken}
use Rattle.plan_witness.proofs.Counting.{some_by}
use Rattle.plan_witness.proofs.steps.in_table.Goals as goal

pub unwrap-requires : goal.unwrap-requires
unwrap-requires c = some_by c.table_step.result _ c.requires.follows c.table_step.ensures.none

pub returns : goal.returns
returns c = λ context.
    subst (λ (o : Option Taken). IfSome o (λ taken. IsTableStep (system_of c.args.task.now) (map rule_of c.args.rules.now)
    (record { state = vector (fluent_count c.args.task.now) c.args.from.now; context = context })
    (record { rule = taken.rule; action = taken.action.0; outcome = taken.outcome; after = record { state = vector (fluent_count c.args.task.now) c.args.to.now; context = first_context } })))
    c.unwrap.ensures (c.table_step.ensures.found context)
