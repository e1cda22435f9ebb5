use Rattle.std.proofs.Common.{length}
use Rattle.pulgazer_top.proofs.help.+push_subcommands.Given as goal

abbrev pub decreases-push_subcommands : goal.decreases-push_subcommands
decreases-push_subcommands l = length l.subs.now
