use Rattle.dd_sets.proofs.TightLemmas.{tight_more}
use Rattle.dd_sets.proofs.laws.tight_is_monotone.Goals as goal

pub returns : goal.returns
returns c limit fluents few many more tight = tight_more limit fluents few many more tight
