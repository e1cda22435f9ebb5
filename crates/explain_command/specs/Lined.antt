-- How the file of a plan is read: the plan, and the lines of its rules.
use Rattle.std.specs.Prelude.{ℕ, List}
use Rattle.command_base.specs.PlanFiles.{PlacedPlan, SpellsPlaced}
use Rattle.command_base.specs.Words.{Bytes}
use Rattle.plan_rules.specs.Lines.{AreRuleLines}
use Rattle.task_core.specs.Names.{Name}

-- a plan, where its list stands in the text, and the line in which each of its rules begins
pub record LinedPlan : Type 0 where
  pub placed : PlacedPlan
  pub lines : List ℕ

-- the bytes spell this plan, whose rules begin in these lines
pub record SpellsLined (fluents actions : List Name) (bytes : Bytes) (lined : LinedPlan) : Type 0 where
  pub spelled : SpellsPlaced fluents actions bytes lined.placed
  pub lines : AreRuleLines bytes lined.lines
