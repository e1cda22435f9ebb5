-- Private: that a text is read in one way.
use Rattle.std.specs.Prelude.{◌≡◌, ℕ, List}
use Rattle.pddl_ast.specs.Trees.{DomainTree, ProblemTree}
use Rattle.domain_read.specs.Domains.{SpellsDomain, HasDomainFault}
use Rattle.pddl_problem.specs.Problems.{SpellsProblem, HasProblemFault}
use Rattle.plan_rules.specs.Readings.{HasPlanFault, SpellsPlain}
use Rattle.plan_rules.specs.Rules.{PlainPlan}
use Rattle.sexpr_text.specs.Forest.{Forest}
use Rattle.sexpr_text.specs.Spelling.{SpellsTrees}
use Rattle.sexpr_text.specs.declared.faults.InputFault.{InputFault}
use Rattle.task_core.specs.Names.{Name}

-- Private: every text spells one domain at most or has one fault at most, and not both; and so a
-- problem and a plan
pub record OneReading : Type 0 where
  pub one_domain : (b : List ℕ) (d e : DomainTree) → SpellsDomain b d → SpellsDomain b e → d ≡ e
  pub one_domain_fault : (b : List ℕ) (f g : InputFault) → HasDomainFault b f → HasDomainFault b g
      → f ≡ g
  pub not_both_domain : (b : List ℕ) (d : DomainTree) (f : InputFault) → SpellsDomain b d
      → HasDomainFault b f → ⊥
  pub one_problem : (b : List ℕ) (d : DomainTree) (p q : ProblemTree) → SpellsProblem b d p
      → SpellsProblem b d q → p ≡ q
  pub one_problem_fault : (b : List ℕ) (d : DomainTree) (f g : InputFault) → HasProblemFault b d f
      → HasProblemFault b d g → f ≡ g
  pub not_both_problem : (b : List ℕ) (d : DomainTree) (p : ProblemTree) (f : InputFault)
      → SpellsProblem b d p → HasProblemFault b d f → ⊥
  pub one_forest : (b : List ℕ) (s t : Forest) → SpellsTrees b s → SpellsTrees b t → s ≡ t
  pub one_plan_fault : (fluents actions : List Name) (b : List ℕ) (f g : InputFault)
      → HasPlanFault fluents actions b f → HasPlanFault fluents actions b g → f ≡ g
  pub not_both_plan : (fluents actions : List Name) (b : List ℕ) (plan : PlainPlan)
      (f : InputFault) → SpellsPlain fluents actions b plan → HasPlanFault fluents actions b f → ⊥
