-- The laws are lemmas.
use Rattle.dd_sets.proofs.OperationSizes.{constants_small, variable_small, complement_small, cofactor_small}
use Rattle.dd_sets.proofs.laws.small_sets.Goals as goal

pub returns-clause-constants : goal.returns-clause-constants
returns-clause-constants c = constants_small

pub returns-clause-variables : goal.returns-clause-variables
returns-clause-variables c = variable_small

pub returns-clause-complements : goal.returns-clause-complements
returns-clause-complements c = complement_small

pub returns-clause-cofactors : goal.returns-clause-cofactors
returns-clause-cofactors c = cofactor_small
