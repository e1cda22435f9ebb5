use Rattle.dd_ops.proofs.GrowthBounds.{grow-append}
use Rattle.dd_ops.proofs.growth_laws.pieces_grow_together.Goals as goal

pub returns : goal.returns
returns c vars before pieces others = grow-append vars before pieces others
