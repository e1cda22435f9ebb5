use Rattle.std.proofs.Common.{◌+◌, ◌*◌, length}
use Rattle.fair_theory.proofs.goals.+chains.Given as goal

abbrev pub decreases-chain_goal : goal.decreases-chain_goal
decreases-chain_goal l = 2 * length l.stages.now

abbrev pub decreases-stage_met : goal.decreases-stage_met
decreases-stage_met l = 2 * length l.rest.now + 1
