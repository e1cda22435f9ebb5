use Rattle.std.proofs.Common.{refl}
use Rattle.plan_page.specs.Frame.{head_text}
use Rattle.plan_page.proofs.frame.page_head.Goals as goal

pub returns : goal.returns
unfolding head_text
returns c = refl
