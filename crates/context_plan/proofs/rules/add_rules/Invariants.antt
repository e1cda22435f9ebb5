use Rattle.std.proofs.Common.{◌≡◌, ◌++◌, map}
use Rattle.plan_rules.specs.Rules.{context_rule_of}
use Rattle.plan_theory.specs.ContextRules.{rule_for}
use Rattle.context_plan.proofs.rules.add_rules.Given as goal

abbrev pub invariant-loop-cube : goal.invariant-loop-cube
invariant-loop-cube l = map context_rule_of l.rules.items ≡ map context_rule_of l.fn.rules.items ++ map (rule_for l.fn.given.context l.fn.given.next l.fn.given.action.0) (map (λ cube. cube.items) l.yielded)
