use Rattle.std.proofs.Common.{length}
use Rattle.pulgazer_top.proofs.table.+option_named.Given as goal

abbrev pub decreases-option_named : goal.decreases-option_named
decreases-option_named l = length l.options.now
