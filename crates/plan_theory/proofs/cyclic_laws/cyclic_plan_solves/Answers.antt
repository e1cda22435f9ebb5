use Rattle.plan_rules.proofs.DenotedPairs.{denoted-table}
use Rattle.plan_theory.specs.CyclicPlans.{cyclic_rules}
use Rattle.plan_theory.proofs.CyclicPrinted.{cyclic_executable, cyclic_solves}
use Rattle.plan_theory.proofs.cyclic_laws.cyclic_plan_solves.Goals as goal

pub returns-clause-table : goal.returns-clause-table
returns-clause-table c = λ sys pairs ok. denoted-table sys ok (cyclic_rules sys pairs)

pub returns-clause-solves : goal.returns-clause-solves
returns-clause-solves c = λ sys pairs ok is covered. cyclic_solves sys pairs ok is.proper covered

pub returns-clause-executable : goal.returns-clause-executable
returns-clause-executable c = cyclic_executable
