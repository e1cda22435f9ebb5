use Rattle.run_replay.proofs.Outcomes.{have_outcomes}
use Rattle.run_replay.proofs.laws.steps_have_their_outcomes.Goals as goal

pub returns : goal.returns
returns c = have_outcomes
