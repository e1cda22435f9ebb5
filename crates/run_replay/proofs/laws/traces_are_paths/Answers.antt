use Rattle.run_replay.proofs.Paths.{paths}
use Rattle.run_replay.proofs.laws.traces_are_paths.Goals as goal

pub returns : goal.returns
returns c = paths
