-- The rules of a plan, from the cubes of a set.
use Rattle.std.specs.Prelude.{ℕ}
use Rattle.plan_rules.specs.Rules.{PlanRule}
use Rattle.task_core.specs.Cubes.{Cube}

-- the rule that takes an action where a cube matches
abbrev pub rule_for : ℕ → Cube → PlanRule
rule_for a cube = record { cube = cube; action = a }
