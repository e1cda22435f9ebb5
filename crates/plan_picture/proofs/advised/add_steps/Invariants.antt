-- The steps by the outcomes so far were added.
use Rattle.std.proofs.Common.{◌≡◌, ◌++◌, map, take}
use Rattle.plan_rules.specs.Advices.{advice_value}
use Rattle.task_core.specs.States.{vector}
use Rattle.task_core.specs.Tasks.{fluent_count, system_of}
use Rattle.plan_picture.specs.Places.{configurations_of, outcomes_from, outcomes_steps}
use Rattle.plan_picture.specs.Values.{step_value}
use Rattle.plan_picture.proofs.advised.add_steps.Given as goal

abbrev pub invariant-loop-outcome : goal.invariant-loop-outcome
invariant-loop-outcome l =
    map step_value l.steps.items
    ≡ map step_value l.fn.steps.items
    ++ outcomes_steps (configurations_of (fluent_count l.task) l.places) (advice_value l.advice) 0
    (take l.outcome (outcomes_from (system_of l.task) (vector (fluent_count l.task) l.state) l.advice.action.0))
