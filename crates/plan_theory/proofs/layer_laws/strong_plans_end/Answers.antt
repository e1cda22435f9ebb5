use Rattle.plan_theory.proofs.NoStrong.{strong_is_bounded}
use Rattle.plan_theory.proofs.layer_laws.strong_plans_end.Goals as goal

pub returns : goal.returns
returns c = λ sys table s ok solves initial. strong_is_bounded sys ok table solves s initial
