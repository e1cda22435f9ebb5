use Rattle.plan_theory.proofs.PatrolSets.{last_round, patrol_set-largest, rounds_end, rounds_shrink}
use Rattle.plan_theory.proofs.patrol_laws.patrol_set_is_largest.Goals as goal

pub returns : goal.returns
returns c = record {
  largest = λ sys visits ok. patrol_set-largest sys visits ok;
  shrink = λ sys visits v k m l h. rounds_shrink sys visits v k m l h;
  last = λ sys visits r ok last v is. last_round sys visits ok r last v is;
  at_last = λ sys visits. rounds_end sys visits;
}
