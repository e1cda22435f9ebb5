use Rattle.std.proofs.Common.{length}
use Rattle.pulgazer_top.proofs.help.+push_option_forms.Given as goal

abbrev pub decreases-push_option_forms : goal.decreases-push_option_forms
decreases-push_option_forms l = length l.options.now
