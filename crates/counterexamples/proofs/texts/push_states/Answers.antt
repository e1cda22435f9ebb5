use Rattle.std.proofs.Common.{◌≡◌, ◌++◌, List, codes, length, string_bytes, subst, arith, ℕ}
use Rattle.plan_rules.specs.Texts.{line_feed}
use Rattle.counterexamples.specs.Texts.{more_text, numbers_text, word_for}
use Rattle.counterexamples.proofs.Pushed.{pushed_six, when_ok}
use Rattle.counterexamples.proofs.texts.push_states.Goals as goal

pub returns : goal.returns
returns c =
    let numbers = c.args.stays.now.numbers in
    let m1 = string_bytes c.push_str.new.self in
    let m2 = string_bytes c.push_word.new.out in
    let m3 = string_bytes c.push_str-2.new.self in
    let m4 = string_bytes c.push_numbers.new.out in
    let m5 = string_bytes c.push_more.new.out in
    let new = string_bytes c.push_str-3.new.self in
    let count : c.len.result ≡ length numbers.items = omega (arith, numbers.ok.0, c.len.ensures) in
    pushed_six c.push_str-3.result (string_bytes c.args.out.now) (codes "from here the plan stays in ") (word_for (length numbers.items) (codes "state")) (codes " ") (numbers_text numbers.items) (more_text c.args.stays.now.more) line_feed m1 m2 m3 m4 m5 new
    c.in_ok-push_str.ensures.bytes (subst (λ (k : ℕ). m2 ≡ m1 ++ word_for k (codes "state")) count c.in_ok-push_word.ensures) c.in_ok-push_str-2.ensures.bytes
    (subst (λ (xs : List ℕ). m4 ≡ m3 ++ numbers_text xs) c.deref.ensures.value c.in_ok-push_numbers.ensures) c.in_ok-push_more.ensures (when_ok c.push_str-3.result m5 line_feed new c.push_str-3.ensures.bytes)
