use Rattle.plan_io.specs.Fetches.{FailedLast}
use Rattle.control_command.specs.Words.{to_plan, to_try}
use Rattle.control_command.proofs.AnswerLaws.{controller_at_yes}
use Rattle.control_command.proofs.FairAnswerLaws.{fair_controller_at_yes}
use Rattle.control_command.proofs.laws.controllers_meet.Goals as goal

pub returns : goal.returns
returns g c before after (to_plan asked) answer is = controller_at_yes (g.S.Shelf.held before) (FailedLast g.S.Shelf.fetched g.S.Shelf.faults before after) asked answer is
returns g c before after (to_try asked) answer is = fair_controller_at_yes (g.S.Shelf.held before) (FailedLast g.S.Shelf.fetched g.S.Shelf.faults before after) asked answer is
