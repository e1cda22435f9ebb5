use Rattle.std.proofs.Common.{◌≡◌, ◌++◌, None, drop, map, string_bytes}
use Rattle.plan_rules.specs.Rules.{rule_of}
use Rattle.plan_rules.specs.Texts.{rule_text}
use Rattle.task_core.specs.Tasks.{action_names, fluent_names}
use Rattle.controller_rules.specs.Texts.{noted_text}
use Rattle.controller_rules.proofs.texts.push_rules.Given as goal

abbrev pub invariant-loop-place : goal.invariant-loop-place
invariant-loop-place l =
    string_bytes l.out ++ noted_text (rule_text (fluent_names l.task) (action_names l.task)) l.before (drop l.place (map rule_of l.rules)) (drop l.place l.steps)
    ≡ string_bytes l.fn.out ++ noted_text (rule_text (fluent_names l.task) (action_names l.task)) None (map rule_of l.rules) l.steps
