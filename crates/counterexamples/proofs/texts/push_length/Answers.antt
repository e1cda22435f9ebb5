use Rattle.std.proofs.Common.{codes, decimal, string_bytes}
use Rattle.plan_rules.specs.Texts.{line_feed}
use Rattle.counterexamples.specs.Texts.{word_for}
use Rattle.counterexamples.proofs.Pushed.{pushed_six, when_ok}
use Rattle.counterexamples.proofs.texts.push_length.Goals as goal

pub returns : goal.returns
returns c =
    let m5 = string_bytes c.push_str-3.new.self in
    let new = string_bytes c.push_str-4.new.self in
    pushed_six c.push_str-4.result (string_bytes c.args.out.now) (codes "a longest run has ") (decimal c.args.steps) (codes " ") (word_for c.args.steps (codes "step")) (codes ":") line_feed
    (string_bytes c.push_str.new.self) (string_bytes c.push_number.new.out) (string_bytes c.push_str-2.new.self) (string_bytes c.push_word.new.out) m5 new
    c.in_ok-push_str.ensures.bytes c.in_ok-push_number.ensures c.in_ok-push_str-2.ensures.bytes c.in_ok-push_word.ensures c.in_ok-push_str-3.ensures.bytes (when_ok c.push_str-4.result m5 line_feed new c.push_str-4.ensures.bytes)
