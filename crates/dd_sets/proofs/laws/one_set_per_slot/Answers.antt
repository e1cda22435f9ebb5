use Rattle.dd_sets.proofs.SetLemmas.{count_sets}
use Rattle.dd_sets.proofs.laws.one_set_per_slot.Goals as goal

pub returns : goal.returns
returns c sets = count_sets sets
