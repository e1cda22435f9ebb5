use Rattle.dd_sets.proofs.SubstSizes.{subst_rough}
use Rattle.dd_sets.proofs.laws.subst_is_small.Goals as goal

pub returns : goal.returns
returns c vars w set is_listed replaced wide fluents small images = subst_rough vars w set is_listed replaced wide fluents small images
