-- What was known stays known.
use Rattle.controller_code.proofs.StepLemmas.{known_kept}
use Rattle.controller_code.proofs.growing.Growth.test_rules.Goals as goal

pub returns-clause-known : goal.returns-clause-known
returns-clause-known c = known_kept c.add_rules.result c.args.self.now.steps.list.items c.add_rules.new.self.list.items c.args.self.now.known.items c.add_rules.ensures.kept c.requires.known
