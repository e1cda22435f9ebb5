use Rattle.std.proofs.Common.{refl}
use Rattle.cyclic_plan.proofs.Answered.{plan_of_table}
use Rattle.cyclic_plan.proofs.plan.close_as_plan.Goals as goal

pub returns-in-Ok-clause-plan : goal.returns-in-Ok-clause-plan
returns-in-Ok-clause-plan c start table = plan_of_table start c.args.enc.now c.args.board.slots.items table _ refl (c.in-Ok.ensures.rules start table)
