use Rattle.task_core.proofs.Cubes.{cubes_of_match, cubes_from_match}
use Rattle.task_core.proofs.laws.cubes_match_their_set.Goals as goal

pub returns-clause-all_fluents : goal.returns-clause-all_fluents
returns-clause-all_fluents c = cubes_of_match

pub returns-clause-later_fluents : goal.returns-clause-later_fluents
returns-clause-later_fluents c = cubes_from_match
