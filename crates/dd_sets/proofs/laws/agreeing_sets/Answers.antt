use Rattle.dd_sets.proofs.OperationSizes.{agreeing_sized}
use Rattle.dd_sets.proofs.laws.agreeing_sets.Goals as goal

pub returns : goal.returns
returns c vars f g same w = agreeing_sized vars f g same w
