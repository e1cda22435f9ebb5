use Rattle.std.proofs.Common.{refl}
use Rattle.plan_page.specs.Frame.{tail_text}
use Rattle.plan_page.proofs.frame.page_tail.Goals as goal

pub returns : goal.returns
unfolding tail_text
returns c = refl
