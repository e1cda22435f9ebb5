use Rattle.std.proofs.Common.{length}
use Rattle.pulgazer_top.proofs.table.+subcommand_named.Given as goal

abbrev pub decreases-subcommand_named : goal.decreases-subcommand_named
decreases-subcommand_named l = length l.subs.now
