use Rattle.std.proofs.Common.{length}
use Rattle.pulgazer_top.proofs.help.+push_options.Given as goal

abbrev pub decreases-push_options : goal.decreases-push_options
decreases-push_options l = length l.options.now
