-- What a guide says.
use Rattle.std.specs.Prelude.{ℕ, List, map}
use Rattle.std.specs.List.{All}
use Rattle.std.specs.List.Sorted.{IsNonDecreasingBy}
use Rattle.cube_index.specs.Index.{IsIndexOf}
use Rattle.plan_rules.specs.Rules.{ContextRule}
use Rattle.rule_lookup.specs.declared.guides.Guide.{Guide}
use Rattle.rule_lookup.specs.declared.rules.GuideRule.{GuideRule}
use Rattle.rule_lookup.specs.GuideRules.{IsNextIndexed, rule_value}
use Rattle.rule_lookup.specs.RunRules.{IsRunRuleOf}

-- the rules of a guide, in its order
abbrev pub rules_of : Guide → List ContextRule
rules_of guide = map rule_value guide.rules.items

-- a rule of a guide: it is one of n fluents and m actions, and its cases have their index
pub record IsReady (n m : ℕ) (rule : GuideRule) : Type 0 where
  pub in_task : IsRunRuleOf n m (rule_value rule)
  pub indexed : IsNextIndexed rule.onward

-- a guide over n fluents and m actions: its rules stand by their contexts and have the index of
-- their cubes
pub record IsGuideOf (n m : ℕ) (guide : Guide) : Type 0 where
  pub each : All (IsReady n m) guide.rules.items
  pub rising : IsNonDecreasingBy (λ (rule : GuideRule). rule.context) guide.rules.items
  pub index : IsIndexOf guide.index (map (λ (rule : GuideRule). rule.cube.now) guide.rules.items)
