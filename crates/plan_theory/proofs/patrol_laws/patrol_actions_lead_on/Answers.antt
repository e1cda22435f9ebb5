use Rattle.plan_theory.proofs.PatrolSets.{acts_in_patrol, made_where_held}
use Rattle.plan_theory.proofs.PatrolSound.{next_first, next_last}
use Rattle.plan_theory.proofs.patrol_laws.patrol_actions_lead_on.Goals as goal

pub returns : goal.returns
returns c = record {
  leads = λ sys visits c v ok is first last h. let a = acts_in_patrol sys ok visits c first last v is h in (a.action, a.chosen, a.leads);
  context = λ visits c v first last. (next_first visits c v first last, next_last visits c v first last);
  made = λ sys visits visit v ok some is. made_where_held sys ok visits some visit v is;
}
