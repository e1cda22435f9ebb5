use Rattle.dd_sets.proofs.TightLemmas.{tight_for}
use Rattle.dd_sets.proofs.laws.full_is_tight.Goals as goal

pub returns : goal.returns
returns c before after piece full vars limit more = tight_for before after piece full vars limit more
