use Rattle.fair_theory.proofs.FairRuns.{fair_runs}
use Rattle.fair_theory.proofs.laws.fair_runs_have_the_goal.Goals as goal

pub returns : goal.returns
returns c = record { has = fair_runs }
