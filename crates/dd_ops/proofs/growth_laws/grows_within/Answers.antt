use Rattle.dd_ops.proofs.GrowthCount.{grows_within}
use Rattle.dd_ops.proofs.growth_laws.grows_within.Goals as goal

pub returns : goal.returns
returns c vars pieces before after reduced adds = grows_within vars pieces before after reduced adds
