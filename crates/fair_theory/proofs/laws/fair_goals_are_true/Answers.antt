use Rattle.fair_theory.proofs.FairTruth.{true_where}
use Rattle.fair_theory.proofs.laws.fair_goals_are_true.Goals as goal

pub returns : goal.returns
returns c = record { alike = λ made found is sys plan x. true_where sys plan made found is x }
