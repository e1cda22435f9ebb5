use Rattle.std.proofs.Common.{string_bytes}
use Rattle.std.specs.Prelude.{codes, decimal}
use Rattle.lint_hints.proofs.Pushed.{three_pushed}
use Rattle.lint_hints.proofs.sentences.push_groups.Goals as goal

pub returns : goal.returns
returns c =
    three_pushed c.push_str-2.result (string_bytes c.args.out.now) (codes "; one of ") (decimal c.args.groups) (codes " such groups")
    (string_bytes c.push_str.new.self) (string_bytes c.push_count.new.out) (string_bytes c.push_str-2.new.self)
    c.in_ok-push_str.ensures.bytes c.in_ok-push_count.ensures c.push_str-2.ensures.bytes
