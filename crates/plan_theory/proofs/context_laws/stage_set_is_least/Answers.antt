use Rattle.plan_theory.proofs.StageSets.{last_near, near-ends, near-grows, stage_set-least}
use Rattle.plan_theory.proofs.context_laws.stage_set_is_least.Goals as goal

pub returns : goal.returns
returns c = record {
  least = λ sys met ok. stage_set-least sys met ok;
  grow = λ sys met v k m l h. near-grows sys met v k m l h;
  last = λ sys met k ok last v is. last_near sys met ok k last v is;
  at_last = λ sys met. near-ends sys met;
}
