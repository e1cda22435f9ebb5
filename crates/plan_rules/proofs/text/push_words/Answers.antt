use Rattle.std.proofs.Common.{append_assoc, arith}
use Rattle.std.specs.Rc.{rc_str_bytes}
use Rattle.plan_rules.proofs.Spaced.{spaced_more}
use Rattle.plan_rules.proofs.text.push_words.Goals as goal

pub loop-i-preserved : goal.loop-i-preserved
loop-i-preserved c =
    let more = spaced_more rc_str_bytes c.args.words.now c.loop-i.i c.index-words-i.result c.loop-i-test.true in
    grind (arith, append_assoc, more, c.loop-i.invariant, c.in_ok-push_gap.ensures, c.in_ok-push_str.ensures.bytes, c.index-words-i.is)
