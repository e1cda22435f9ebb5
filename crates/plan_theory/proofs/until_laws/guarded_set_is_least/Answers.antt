use Rattle.plan_theory.proofs.GuardedSets.{guarded_set-least, last_near, near-ends, near-grows}
use Rattle.plan_theory.proofs.until_laws.guarded_set_is_least.Goals as goal

pub returns : goal.returns
returns c = record {
  least = λ sys guard met ok. guarded_set-least sys guard met ok;
  grow = λ sys guard met v k m l h. near-grows sys guard met v k m l h;
  last = λ sys guard met k ok last v is. last_near sys guard met ok k last v is;
  at_last = λ sys guard met. near-ends sys guard met;
}
