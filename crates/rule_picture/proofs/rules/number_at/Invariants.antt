-- No rule so far is for the configuration.
use Rattle.std.proofs.Common.{◌≡◌, drop}
use Rattle.task_core.specs.States.{vector}
use Rattle.task_core.specs.Tasks.{fluent_count}
use Rattle.rule_picture.specs.Rules.{first_for, rule_number}
use Rattle.rule_picture.specs.Values.{seen_values}
use Rattle.rule_picture.proofs.rules.number_at.Given as goal

abbrev pub invariant-loop-number : goal.invariant-loop-number
invariant-loop-number l =
    first_for (record { state = vector (fluent_count l.task) l.state; context = l.context }) l.number (seen_values (drop l.number l.rules))
    ≡ rule_number (seen_values l.rules) (record { state = vector (fluent_count l.task) l.state; context = l.context })
