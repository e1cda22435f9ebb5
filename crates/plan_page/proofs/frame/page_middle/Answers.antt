use Rattle.std.proofs.Common.{refl}
use Rattle.plan_page.specs.Frame.{middle_text}
use Rattle.plan_page.proofs.frame.page_middle.Goals as goal

pub returns : goal.returns
unfolding middle_text
returns c = refl
