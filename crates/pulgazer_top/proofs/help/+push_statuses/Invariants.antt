use Rattle.std.proofs.Common.{length}
use Rattle.pulgazer_top.proofs.help.+push_statuses.Given as goal

abbrev pub decreases-push_statuses : goal.decreases-push_statuses
decreases-push_statuses l = length l.statuses.now
