-- The question leads on as its test says.
use Rattle.controller_code.proofs.StepLemmas.{asked}
use Rattle.controller_code.proofs.steps.Steps.ask.Goals as goal

pub returns-clause-decides : goal.returns-clause-decides
returns-clause-decides c = asked c.args.self.now.list.items c.add.new.self.list.items c.args.test c.add.result c.add.ensures.kept c.add.ensures.added
