-- Private: the rules of a plan as the code holds them.
use Rattle.std.specs.Prelude.{ℕ, List, map}
use Rattle.std.specs.List.{All}
use Rattle.cube_index.specs.Index.{IsIndexOf}
use Rattle.rule_lookup.specs.RunRules.{IsRunRuleOf}
use Rattle.plan_rules.specs.Advices.{onward_value}
use Rattle.plan_rules.specs.Rules.{ContextRule}
use Rattle.trace.specs.declared.rules.IndexedRules.{IndexedRules}
use Rattle.trace.specs.declared.rules.RunRule.{RunRule}

-- Private: a rule as it is run
abbrev pub run_rule_value : RunRule → ContextRule
run_rule_value r = record {
  context = r.context;
  cube = r.cube.now;
  action = r.action.0;
  next = onward_value r.onward;
}

-- Private: the rules, in their order
abbrev pub rules_in : IndexedRules → List ContextRule
rules_in indexed = map run_rule_value indexed.rules.items

-- Private: the rules name fluents below n alone, and some of m actions, and have the index of their cubes
pub record AreIndexedFor (n m : ℕ) (indexed : IndexedRules) : Type 0 where
  pub each : All (IsRunRuleOf n m) (rules_in indexed)
  pub index : IsIndexOf indexed.index (map (λ (rule : RunRule). rule.cube.now) indexed.rules.items)
