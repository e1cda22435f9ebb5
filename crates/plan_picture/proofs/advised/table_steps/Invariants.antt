-- The steps are those by the actions so far.
use Rattle.std.proofs.Common.{◌≡◌, map}
use Rattle.plan_rules.specs.Rules.{rule_of}
use Rattle.task_core.specs.States.{vector}
use Rattle.task_core.specs.Tasks.{fluent_count, system_of}
use Rattle.plan_picture.specs.Places.{configurations_of, table_steps_below}
use Rattle.plan_picture.specs.Values.{step_value}
use Rattle.plan_picture.proofs.advised.table_steps.Given as goal

abbrev pub invariant-loop-number : goal.invariant-loop-number
invariant-loop-number l =
    map step_value l.steps.items
    ≡ table_steps_below (system_of l.task) (configurations_of (fluent_count l.task) l.places)
    (map rule_of l.rules) (vector (fluent_count l.task) l.state) l.number
