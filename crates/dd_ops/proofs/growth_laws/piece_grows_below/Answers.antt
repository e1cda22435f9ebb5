use Rattle.dd_ops.proofs.GrowthBounds.{grow_piece}
use Rattle.dd_ops.proofs.growth_laws.piece_grows_below.Goals as goal

pub returns : goal.returns
returns c vars before piece = grow_piece vars before piece
