use Rattle.plan_io.specs.Fetches.{FailedLast}
use Rattle.control_command.specs.Words.{to_plan, to_try}
use Rattle.control_command.proofs.AnswerLaws.{no_plan_at_no}
use Rattle.control_command.proofs.FairAnswerLaws.{no_fair_plan_at_no}
use Rattle.control_command.proofs.laws.no_plan_is_there.Goals as goal

pub returns : goal.returns
returns g c before after (to_plan asked) answer is = no_plan_at_no (g.S.Shelf.held before) (FailedLast g.S.Shelf.fetched g.S.Shelf.faults before after) asked answer is
returns g c before after (to_try asked) answer is = no_fair_plan_at_no (g.S.Shelf.held before) (FailedLast g.S.Shelf.fetched g.S.Shelf.faults before after) asked answer is
