use Rattle.std.specs.Prelude.{◌≡◌, drop, map}
use Rattle.plan_rules.specs.Denoted.{next_context}
use Rattle.plan_rules.specs.Rules.{by_cases, case_of}
use Rattle.task_core.specs.States.{vector}
use Rattle.task_core.specs.Tasks.{fluent_count}
use Rattle.plan_rules.proofs.following.first_case.Given as goal

-- no case so far matches
abbrev pub invariant-loop-case : goal.invariant-loop-case
invariant-loop-case l =
    next_context (by_cases (map case_of (drop l.case-index l.cases))) (vector (fluent_count l.task) l.state)
    ≡ next_context (by_cases (map case_of l.cases)) (vector (fluent_count l.task) l.state)
