use Rattle.std.proofs.Common.{codes, ◌++◌}
use Rattle.plan_rules.specs.Texts.{line_feed}
use Rattle.rule_picture.proofs.Joined.{four_parts}
use Rattle.rule_picture.proofs.text.rules_text.Goals as goal

pub returns : goal.returns
returns c =
    four_parts (codes "digraph plan {" ++ line_feed) (codes "  start [shape=point];" ++ line_feed) _ (codes "}") line_feed
    c.new-out.ensures.items c.in_ok-push_text.ensures c.in_ok-push_text-2.ensures
    (rw c.in_ok-rules.ensures.rules at (rw c.deref-2.ensures.value at (rw c.deref.ensures.value at c.in_ok-push_all.ensures)))
    c.in_ok-push_text-3.ensures
