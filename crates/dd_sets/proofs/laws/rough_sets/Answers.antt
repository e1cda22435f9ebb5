-- The laws are lemmas.
use Rattle.dd_sets.proofs.SizeLemmas.{small_rough}
use Rattle.dd_sets.proofs.OperationSizes.{complement_rough, cofactor_rough, meet_rough, join_rough, difference_rough}
use Rattle.dd_sets.proofs.laws.rough_sets.Goals as goal

pub returns-clause-small : goal.returns-clause-small
returns-clause-small c = small_rough

pub returns-clause-complements : goal.returns-clause-complements
returns-clause-complements c = complement_rough

pub returns-clause-cofactors : goal.returns-clause-cofactors
returns-clause-cofactors c = cofactor_rough

pub returns-clause-meets : goal.returns-clause-meets
returns-clause-meets c = meet_rough

pub returns-clause-joins : goal.returns-clause-joins
returns-clause-joins c = join_rough

pub returns-clause-differences : goal.returns-clause-differences
returns-clause-differences c = difference_rough
