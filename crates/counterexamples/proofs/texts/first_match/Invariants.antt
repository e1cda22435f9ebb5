-- No rule so far matches.
use Rattle.std.proofs.Common.{◌≡◌, ◌+◌, drop, map}
use Rattle.counterexamples.specs.Texts.{first_match}
use Rattle.plan_rules.specs.Rules.{rule_of}
use Rattle.task_core.specs.States.{vector}
use Rattle.task_core.specs.Tasks.{fluent_count}
use Rattle.counterexamples.proofs.texts.first_match.Given as goal

abbrev pub invariant-loop-number : goal.invariant-loop-number
invariant-loop-number l =
    let state = vector (fluent_count l.task) l.state in
    l.number + first_match (map rule_of (drop l.number l.rules)) state ≡ first_match (map rule_of l.rules) state
