use Rattle.dd_sets.proofs.SizeLemmas.{every_small}
use Rattle.dd_sets.proofs.laws.every_set_is_small.Goals as goal

pub returns : goal.returns
returns c vars set = every_small vars set
