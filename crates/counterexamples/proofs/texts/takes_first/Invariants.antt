-- The steps so far take the first rule that matches, so that the steps that are left decide.
use Rattle.std.proofs.Common.{◌≡◌, drop, map}
use Rattle.counterexamples.specs.Texts.{takes_first}
use Rattle.plan_rules.specs.Rules.{rule_of}
use Rattle.plan_witness.specs.Values.{steps_value}
use Rattle.task_core.specs.States.{vector}
use Rattle.task_core.specs.Tasks.{fluent_count}
use Rattle.counterexamples.proofs.texts.takes_first.Given as goal

abbrev pub invariant-loop-step : goal.invariant-loop-step
invariant-loop-step l =
    let n = fluent_count l.task in
    takes_first (map rule_of l.rules) (vector n l.before) (steps_value n (drop l.step-index l.step-items))
    ≡ takes_first (map rule_of l.rules) (vector n l.run.start) (steps_value n l.run.steps.items)
