-- The rules that are printed of a class.
use Rattle.std.specs.Prelude.{◌≡◌, ℕ, List}
use Rattle.plan_rules.specs.Rules.{PlanRule}
use Rattle.task_core.specs.Systems.{System}
use Rattle.task_core.specs.declared.classes.Class.{Class}
use Rattle.task_core.specs.declared.classes.Class.TheVariants.{Cyclic, Strong, Weak}
use Rattle.plan_theory.specs.CyclicPlans.{cyclic_rules}
use Rattle.plan_theory.specs.LargestSets.{IsLargestSet}
use Rattle.plan_theory.specs.LayerPlans.{printed_rules}
use Rattle.plan_theory.specs.Layers.{IsLastLayer}
use Rattle.plan_theory.specs.Pairs.{Pairs}

-- the rules are those of the layers from the goal up to the first that holds every initial state
abbrev pub AreRulesOfLayers : Class → System → List PlanRule → Type 0
AreRulesOfLayers class sys rules =
    (last : ℕ) × IsLastLayer class sys last × (rules ≡ printed_rules class sys last)

-- the rules are those of the largest set of pairs of a state and an action from which the goal is
-- always still reached: for each state the least-numbered action of its pairs that leads a step
-- nearer to the goal
abbrev pub AreRulesOfPairs : System → List PlanRule → Type 0
AreRulesOfPairs sys rules =
    (pairs : Pairs) × IsLargestSet sys pairs × (rules ≡ cyclic_rules sys pairs)

-- the rules are those that are printed, by the class
abbrev pub ArePrintedRules : Class → System → List PlanRule → Type 0
ArePrintedRules Weak sys rules = AreRulesOfLayers Weak sys rules
ArePrintedRules Strong sys rules = AreRulesOfLayers Strong sys rules
ArePrintedRules Cyclic sys rules = AreRulesOfPairs sys rules
