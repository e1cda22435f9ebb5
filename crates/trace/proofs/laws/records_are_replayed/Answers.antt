use Rattle.trace.proofs.Replays.{replays}
use Rattle.trace.proofs.laws.records_are_replayed.Goals as goal

pub returns : goal.returns
returns c = replays
