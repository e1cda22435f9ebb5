use Rattle.std.proofs.Common.{◌++◌, codes, string_bytes}
use Rattle.pulgazer_top.proofs.Pushing.{pushed}
use Rattle.pulgazer_top.proofs.help.push_meant.Goals as goal

pub returns : goal.returns
returns c = pushed c.push_closed.result (string_bytes c.args.out.now) (string_bytes c.push_str.new.self) _ (codes " (did you mean `") (c.args.word.now ++ codes "`?)") c.in_ok-push_str.ensures.bytes c.push_closed.ensures
