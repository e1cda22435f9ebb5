use Rattle.plan_theory.proofs.SafeSets.{last_round, rounds_end, rounds_shrink, safe_set-largest}
use Rattle.plan_theory.proofs.context_laws.safe_set_is_largest.Goals as goal

pub returns : goal.returns
returns c = record {
  largest = λ sys keep ok. safe_set-largest sys keep ok;
  shrink = λ sys keep v k m l h. rounds_shrink sys keep v k m l h;
  last = λ sys keep k ok last v is. last_round sys keep ok k last v is;
  at_last = λ sys keep. rounds_end sys keep;
}
