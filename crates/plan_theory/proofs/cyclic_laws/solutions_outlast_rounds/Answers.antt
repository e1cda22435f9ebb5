use Rattle.plan_theory.proofs.Survives.{solution_outlasts}
use Rattle.plan_theory.proofs.cyclic_laws.solutions_outlast_rounds.Goals as goal

pub returns : goal.returns
returns c = record { kept = λ sys table r v a ok is_table solves. solution_outlasts sys ok table is_table solves r v a }
