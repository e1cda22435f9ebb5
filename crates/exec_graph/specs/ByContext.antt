-- Private: the rules of a plan, as the code looks them up.
use Rattle.std.specs.Prelude.{◌≡◌, ◌≤◌, ◌<◌, ◌==◌, ℕ, false, List, [], map, slice_get, Some}
use Rattle.std.specs.List.{filter}
use Rattle.std.specs.Option.{option_map_or}
use Rattle.plan_rules.specs.declared.rules.AutoRule.{AutoRule}
use Rattle.plan_rules.specs.declared.rules.Plan.{Plan}
use Rattle.plan_rules.specs.declared.rules.Plan.TheVariants.{Table, Auto}
use Rattle.plan_rules.specs.declared.rules.Rule.{Rule}
use Rattle.plan_rules.specs.Rules.{PlanRule}
use Rattle.task_core.specs.Cubes.{Cube, matches}
use Rattle.task_core.specs.Vectors.{Vector}
use Rattle.cube_index.specs.Index.{IsIndexOf}
use Rattle.exec_graph.specs.declared.rules.ByContext.{ByContext}
use Rattle.exec_graph.specs.declared.rules.RuleIndex.{RuleIndex}

-- Private: the rules of one context; none past the last one
abbrev pub rules_in : ByContext → ℕ → List AutoRule
rules_in index c =
    option_map_or (λ rules. map (λ rule. rule.now) rules.items) (slice_get index.lists.items c) []

-- Private: the cubes of the rules of a table, in their order
abbrev pub cubes_of : List Rule → List Cube
cubes_of rules = map (λ (rule : Rule). rule.cube.items) rules

-- Private: the index of a table is that of its cubes; the rules of an automaton stand by their
-- contexts
abbrev pub IsRuleIndexOf : Plan → RuleIndex → Type 0
IsRuleIndexOf (Table p) index = IsIndexOf index.cubes (cubes_of p.rules.items)
IsRuleIndexOf (Auto p) index =
    (c : ℕ) → rules_in index.contexts c ≡ filter (λ rule. rule.context == c) p.rules.items

-- Private: no rule of a table from one place on and before another matches v
abbrev pub MatchNone : Vector → List PlanRule → ℕ → ℕ → Type 0
MatchNone v rules from to = (k : ℕ) (rule : PlanRule) → from ≤ k → k < to
    → slice_get rules k ≡ Some rule → matches rule.cube v ≡ false
