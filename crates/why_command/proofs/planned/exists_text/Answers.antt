use Rattle.std.proofs.Common.{◌++◌, ◌∙◌, ap}
use Rattle.command_base.specs.Values.{plan_words_of}
use Rattle.why_command.specs.Whys.{exists_line}
use Rattle.why_command.proofs.planned.exists_text.Goals as goal

pub returns : goal.returns
returns c = c.in_ok-push_exists.ensures ∙ ap (λ xs. xs ++ exists_line (plan_words_of c.args.asked.now)) c.new-text.ensures.items
