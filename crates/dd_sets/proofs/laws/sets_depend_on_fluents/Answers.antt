use Rattle.dd_sets.proofs.SetLemmas.{set_depends}
use Rattle.dd_sets.proofs.laws.sets_depend_on_fluents.Goals as goal

pub returns : goal.returns
returns c sets sound slot = set_depends sets sound slot
