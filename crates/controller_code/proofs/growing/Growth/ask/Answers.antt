-- What was known stays known.
use Rattle.controller_code.proofs.StepLemmas.{known_kept}
use Rattle.controller_code.proofs.growing.Growth.ask.Goals as goal

pub returns-clause-known : goal.returns-clause-known
returns-clause-known c = known_kept c.ask.result c.args.self.now.steps.list.items c.ask.new.self.list.items c.args.self.now.known.items c.ask.ensures.kept c.requires.known
