use Rattle.std.proofs.Common.{◌+◌, ◌<◌, length, subst}
use Rattle.dd_ops.specs.Growth.{grow}
use Rattle.dd_ops.proofs.GrowthCount.{grows_below}
use Rattle.dd_ops.proofs.growth_laws.full_only_beyond.Goals as goal

pub returns : goal.returns
returns c vars pieces before after reduced adds lacks limit full =
    subst (λ n. n < length before + grow vars before pieces) full (grows_below vars pieces before after reduced adds lacks)
