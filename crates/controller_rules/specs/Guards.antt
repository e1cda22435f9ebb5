-- Rules that ask for the preconditions of their actions.
use Rattle.std.specs.Prelude.{◌≡◌, ℕ, Bool, true, false, slice_get}
use Rattle.std.specs.List.{All}
use Rattle.std.specs.Option.{option_map_or}
use Rattle.rule_lookup.specs.RunRules.{run_rules}
use Rattle.plan_rules.specs.Rules.{ContextRule, PlainPlan}
use Rattle.task_core.specs.Conditions.{holds}
use Rattle.task_core.specs.Cubes.{Cube, matches}
use Rattle.task_core.specs.Vectors.{Vector, value_of}
use Rattle.task_core.specs.declared.conditions.Cond.{Cond}
use Rattle.task_core.specs.declared.tasks.Task.{Task}

-- in each vector that a cube matches, a condition has this value
abbrev pub HasValueIn : Cond → Cube → Bool → Type 0
HasValueIn cond cube value = (v : Vector) → matches cube v ≡ true → holds cond (value_of v) ≡ value

-- the precondition of the action of a number holds in a vector
abbrev pub precondition_in : Task → Vector → ℕ → Bool
precondition_in task v a =
    option_map_or (λ action. holds action.exec (value_of v)) (slice_get task.actions.items a) false

-- a rule asks for the precondition of its action: it holds in each vector that the rule matches
abbrev pub IsGuardedRule : Task → ContextRule → Type 0
IsGuardedRule task rule =
    (v : Vector) → matches rule.cube v ≡ true → precondition_in task v rule.action ≡ true

-- all rules of a plan do
abbrev pub AreGuarded : Task → PlainPlan → Type 0
AreGuarded task plan = All (IsGuardedRule task) (run_rules plan)
