use Rattle.plan_theory.specs.LayerPlans.{printed_rules}
use Rattle.plan_theory.proofs.ClassLayers.{printed_executable}
use Rattle.plan_theory.proofs.LeastBounds.{solves_by_class}
use Rattle.plan_rules.proofs.DenotedPairs.{denoted-table}
use Rattle.plan_theory.proofs.layer_laws.printed_plan_solves.Goals as goal

pub returns-clause-table : goal.returns-clause-table
returns-clause-table c = λ class sys K ok. denoted-table sys ok (printed_rules class sys K)

pub returns-clause-solves : goal.returns-clause-solves
returns-clause-solves c = solves_by_class

pub returns-clause-executable : goal.returns-clause-executable
returns-clause-executable c = λ class sys K. printed_executable class sys K
